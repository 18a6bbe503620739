-- What a status says of the table of a file (docs/FORMATS.md, The program; The tables).
use Rattle.std.specs.Prelude.{ℕ, true, List, Option, Some, None}
use Rattle.grid_units.specs.declared.fault.Reason.TheVariants.{BadRole}
use Rattle.grid_units.specs.declared.profile.Profile.{Profile}
use Rattle.ringcheck_files.specs.declared.rewrite.Kind.{Kind}
use Rattle.ringcheck_files.specs.declared.Status.{Status}
use Rattle.ringcheck_files.specs.declared.file_jobs.FileJob.TheVariants as job
use Rattle.ringcheck_files.specs.FileStatus.{IsParsedFileStatus}
use Rattle.ringcheck_files.specs.LoaderRelation.{Relation}
use Rattle.ringcheck_files.specs.Words.{IsExplainedUsage}
use Rattle.ringcheck_files.specs.Writers.{Written}

-- what a status says of the table of a file, in the profile that a word names and of the kind that another one names; a word that names no
-- profile is refused, whatever the kind is, and this sentence stands below its line
abbrev pub IsParsedShowStatus : Option Profile → List ℕ → Option Kind → Relation → List ℕ → Written → Written → Status → Type 0
IsParsedShowStatus (Some profile) sentence kind has name before after s = IsParsedFileStatus (job.Show profile) kind has name before after s
IsParsedShowStatus None sentence kind has name before after s = IsExplainedUsage true BadRole sentence before after s
