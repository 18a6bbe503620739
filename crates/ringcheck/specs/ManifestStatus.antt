-- What a status says of a manifest that is proposed (docs/FORMATS.md, The program; Proposed manifests).
use Rattle.std.specs.Prelude.{ℕ, Bool, true, List, Option, Some, None}
use Rattle.grid_units.specs.declared.fault.Reason.TheVariants.{BadRole}
use Rattle.grid_units.specs.declared.profile.Profile.{Profile}
use Rattle.ringcheck_files.specs.declared.Status.{Status}
use Rattle.ringcheck_files.specs.LoaderRelation.{Relation}
use Rattle.ringcheck_files.specs.ManifestStatus.{IsManifestStatus}
use Rattle.ringcheck_files.specs.Words.{IsExplainedUsage}
use Rattle.ringcheck_files.specs.Writers.{IsSilentStatus, Written}

-- what a status says of a manifest of these files, or of the table of why, for the profile that a word names; a word that names no profile is refused,
-- and this sentence stands below its line
abbrev pub IsParsedManifestStatus : Option Profile → List ℕ → Bool → Relation → ℕ → ℕ → List (List ℕ) → Written → Written → Status → Type 0
IsParsedManifestStatus (Some profile) sentence why has failed_before failed_after files before after s =
    IsManifestStatus profile why has failed_before failed_after files before.0 after.0 s × IsSilentStatus before after s
IsParsedManifestStatus None sentence why has failed_before failed_after files before after s = IsExplainedUsage true BadRole sentence before after s
