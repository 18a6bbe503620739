-- What is said of each job on a package.
use Rattle.std.specs.Prelude.{ℕ, Bool, List, Option, option_map}
use Rattle.std.specs.Global.{Vec}
use Rattle.grid_units.specs.declared.profile.Profile.{Profile}
use Rattle.manifest.specs.declared.Entry.{Entry}
use Rattle.package_check.specs.Package.{FileView}
use Rattle.pad_shapes.specs.declared.drawn.Drawn.{Drawn}
use Rattle.ringcheck_files.specs.LoaderRelation.{Relation}
use Rattle.ringcheck_files.specs.Writers.{Written}
use Rattle.ringcheck_files.specs.declared.Status.{Status}
use Rattle.layer_features.specs.declared.keep.Keep.{Keep}
use Rattle.layer_features.specs.declared.keep.Keep.TheVariants as keep
use Rattle.ringcheck.specs.declared.jobs.BoardJob.{BoardJob}
use Rattle.ringcheck.specs.declared.jobs.BoardJob.TheVariants as board_job
use Rattle.ringcheck.specs.declared.jobs.Job.{Job}
use Rattle.ringcheck.specs.declared.jobs.Job.TheVariants as job
use Rattle.ringcheck.specs.declared.refusals.RefusalStyle.{RefusalStyle}
use Rattle.ringcheck.specs.declared.refusals.RefusalStyle.TheVariants as style
use Rattle.ringcheck.specs.DrawStatus.{PrintsPicture}
use Rattle.ringcheck.specs.MeasureStatus.{PrintsMeasure, measure_style}
use Rattle.ringcheck.specs.ReportStatus.{Reports, kept_for, report_style}
use Rattle.ringcheck.specs.CheckStatus.{Checks, SaysManifest}
use Rattle.ringcheck.specs.CertificateStatus.{Certifies}
use Rattle.waivers.specs.declared.Waiver.{Waiver}

-- the waivers that a report is given, if any
abbrev pub given_waivers : Option (Vec Waiver) → Option (List Waiver)
given_waivers waivers = option_map (λ all. all.items) waivers

-- the certificate that a job compares with, if there is one
abbrev pub given_text : Option (Vec ℕ) → Option (List ℕ)
given_text given = option_map (λ text. text.items) given

-- how a refusal is printed in place of what is done with a board
abbrev pub board_style : BoardJob → RefusalStyle
board_style (board_job.Measure order) = measure_style order.format
board_style (board_job.Report order) = report_style order.format
board_style (board_job.Draw profile rules) = style.Line

-- how a refusal is printed in place of a job's result
abbrev pub job_style : Job → RefusalStyle
job_style (job.Board it) = board_style it
job_style _ = style.Line

-- the profile in which the files of a board are read
abbrev pub board_profile : BoardJob → Profile
board_profile (board_job.Measure order) = order.profile
board_profile (board_job.Report order) = order.rules.profile
board_profile (board_job.Draw profile rules) = profile

-- the profile in which a job reads the files
abbrev pub job_profile : Job → Profile
job_profile (job.Check rules) = rules.profile
job_profile (job.Certify rules given) = rules.profile
job_profile (job.Board it) = board_profile it

-- what is kept of the files of a board
abbrev pub board_keep : BoardJob → Keep
board_keep (board_job.Measure order) = keep.Pads
board_keep (board_job.Report order) = kept_for order.format
board_keep (board_job.Draw profile rules) = keep.RowsAndDrawn

-- what is said of the files of the board of the manifest under a name where what is done with it, with an outline of these parts, passes, or does not
abbrev pub HoldsOfBoard : BoardJob → List Drawn → List ℕ → Option (List ℕ) → Option (List ℕ) → Bool → List FileView → Type 0
HoldsOfBoard (board_job.Measure order) outline name before after = PrintsMeasure order before after
HoldsOfBoard (board_job.Report order) outline name before after =
    Reports name order.rules order.drilling order.limit order.format (given_waivers order.waivers) outline before after
HoldsOfBoard (board_job.Draw profile rules) outline name before after = PrintsPicture rules outline before after

-- what is said of the manifest of this text and entries, and of the files, of the package under a name where a job on them, with an outline of these parts, passes, or does not
abbrev pub Holds : Job → List Drawn → List ℕ → Option (List ℕ) → Option (List ℕ) → List ℕ → List Entry → Bool → List FileView → Type 0
Holds (job.Check rules) outline name before after text entries = Checks rules before after
Holds (job.Certify rules given) outline name before after text entries = Certifies rules (given_text given) name before after text entries
Holds (job.Board it) outline name before after text entries = HoldsOfBoard it outline name before after

-- what a status says of a job on the package under a name, with an outline of these parts
abbrev pub SaysJob : Job → List Drawn → Relation → List ℕ → Written → Written → Status → Type 0
SaysJob job outline has name before after s = SaysManifest has (job_profile job) name (Holds job outline name before.0 after.0) (job_style job) before after s
