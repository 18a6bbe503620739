-- What a status says of a request of the command line, and of any words (docs/FORMATS.md, The program).
use Rattle.std.specs.Prelude.{◌≡◌, ◌++◌, ◌⊎◌, ℕ, Bool, true, false, List, Option, Result, Ok, Err, codes, is_some, map}
use Rattle.std.specs.Io.KnownBytes.{Appends}
use Rattle.std.specs.String.{string_bytes}
use Rattle.command_line.specs.ProgramArgs.{ParsesLine}
use Rattle.command_line.specs.declared.Refusal.{Refusal}
use Rattle.command_line.specs.declared.Refusal.TheVariants.{Help, Version, Usage, Memory}
use Rattle.command_line.specs.declared.CommandLine.{CommandLine}
use Rattle.command_line.specs.declared.Request.{Request}
use Rattle.command_line.specs.declared.Request.TheVariants.{Check, Certify, Verify, Measure, Report, Draw, Show, Rewrite, Manifest, Explain}
use Rattle.command_line.specs.declared.commands.TheConstants.{VERSION_LINE}
use Rattle.ringcheck_files.specs.declared.Status.{Status}
use Rattle.ringcheck_files.specs.declared.Status.TheVariants as status
use Rattle.ringcheck_files.specs.declared.file_jobs.FileJob.TheVariants as job
use Rattle.ringcheck.specs.DrawStatus.{IsParsedDrawStatus}
use Rattle.ringcheck_files.specs.ManifestStatus.{IsExplainStatus}
use Rattle.ringcheck.specs.ManifestStatus.{IsParsedManifestStatus}
use Rattle.ringcheck.specs.MeasureStatus.{IsParsedMeasureStatus}
use Rattle.ringcheck.specs.ParsedWords.{parse_check, parse_draw, parse_measure, parse_report, profile_of, word_bytes}
use Rattle.ringcheck_files.specs.FileStatus.{IsParsedFileStatus, parse_kind}
use Rattle.ringcheck.specs.ReportStatus.{IsParsedReportStatus}
use Rattle.ringcheck.specs.CertificateStatus.{IsParsedCertificateStatus, IsVerifyStatus}
use Rattle.ringcheck.specs.CheckStatus.{IsParsedCheckStatus}
use Rattle.ringcheck.specs.Sentences.{check_sentence, draw_sentence, is_for_people, measure_sentence, profile_sentence, report_sentence}
use Rattle.ringcheck.specs.ShowStatus.{IsParsedShowStatus}
use Rattle.ringcheck_files.specs.LoaderRelation.{Relation, in_folder}
use Rattle.ringcheck_files.specs.Writers.{IsSilent, IsSilentStatus, Written}

-- what a status says with the flag `--exit-zero` or without it: with it Pass stands for findings too, and there is no other
abbrev pub IsExitOf : Bool → (Status → Type 0) → Status → Type 0
IsExitOf false Says s = Says s
IsExitOf true Says status.Pass = Says status.Pass ⊎ Says status.Findings
IsExitOf true Says status.Findings = ⊥
IsExitOf true Says s = Says s

-- what a status says of a request, command by command; `failed_before` and `failed_after` count the loader's failures
abbrev pub IsRequestStatus : Request → Relation → ℕ → ℕ → Written → Written → Status → Type 0
IsRequestStatus (Check options manifest) has failed_before failed_after before after s =
    IsParsedCheckStatus has manifest.now (parse_check (word_bytes options.profile) options.ring.now options.gap.now)
    (check_sentence (word_bytes options.profile) options.ring.now options.gap.now) before after s
IsRequestStatus (Certify options manifest) has failed_before failed_after before after s =
    IsParsedCertificateStatus has manifest.now (parse_check (word_bytes options.profile) options.ring.now options.gap.now)
    (check_sentence (word_bytes options.profile) options.ring.now options.gap.now) before after s
IsRequestStatus (Verify certificate) has failed_before failed_after before after s = IsVerifyStatus has certificate.now before after s
IsRequestStatus (Measure profile format manifest) has failed_before failed_after before after s =
    IsParsedMeasureStatus has manifest.now (parse_measure (word_bytes profile) (word_bytes format)) (measure_sentence (word_bytes profile) (word_bytes format)) before after s
IsRequestStatus (Report options manifest) has failed_before failed_after before after s =
    IsExitOf options.exit_zero
    (IsParsedReportStatus has manifest.now
    (parse_report (word_bytes options.profile) options.ring.now options.gap.now (word_bytes options.drill_off) (word_bytes options.drill_wide)
    (word_bytes options.limit) (word_bytes options.waive) (word_bytes options.outline) (word_bytes options.format))
    (is_for_people (word_bytes options.format))
    (report_sentence (word_bytes options.profile) options.ring.now options.gap.now (word_bytes options.drill_off) (word_bytes options.drill_wide)
    (word_bytes options.limit) (is_some (word_bytes options.outline)) (word_bytes options.format))
    (word_bytes options.waive) (word_bytes options.outline) before after) s
IsRequestStatus (Draw options manifest) has failed_before failed_after before after s =
    IsParsedDrawStatus has manifest.now (parse_draw (word_bytes options.profile) (word_bytes options.ring) (word_bytes options.gap))
    (draw_sentence (word_bytes options.profile) (word_bytes options.ring) (word_bytes options.gap)) (word_bytes options.outline) before after s
IsRequestStatus (Show kind profile file) has failed_before failed_after before after s =
    IsParsedShowStatus (profile_of (word_bytes profile)) (profile_sentence (word_bytes profile)) (parse_kind kind.now) has file.now before after s
IsRequestStatus (Rewrite kind file) has failed_before failed_after before after s = IsParsedFileStatus job.Rewrite (parse_kind kind.now) has file.now before after s
IsRequestStatus (Manifest why profile files) has failed_before failed_after before after s =
    IsParsedManifestStatus (profile_of (word_bytes profile)) (profile_sentence (word_bytes profile)) why has failed_before failed_after (map (λ file. file.now) files.items) before after s
IsRequestStatus (Explain word) has failed_before failed_after before after s = IsExplainStatus (word_bytes word) before.0 after.0 s × IsSilentStatus before after s

-- what a status says of words that are no request: just the help, the version's line, or `usage` and what is wrong was written, or it is Device
abbrev pub IsNoRequestStatus : Refusal → Option (List ℕ) → Option (List ℕ) → Status → Type 0
IsNoRequestStatus (Help text) before after s = ((s ≡ status.Pass) × Appends before after (string_bytes text)) ⊎ (s ≡ status.Device)
IsNoRequestStatus Version before after s = ((s ≡ status.Pass) × Appends before after VERSION_LINE.now) ⊎ (s ≡ status.Device)
IsNoRequestStatus (Usage text) before after s = ((s ≡ status.Usage) × Appends before after (codes "usage\n" ++ string_bytes text)) ⊎ (s ≡ status.Device)
IsNoRequestStatus Memory before after s = s ≡ status.Device

-- what a status says of a line: of its request, where names are taken from its folder, if it has one
abbrev pub IsLineStatus : CommandLine → Relation → ℕ → ℕ → Written → Written → Status → Type 0
IsLineStatus line has failed_before failed_after before after s = IsRequestStatus line.request (in_folder (word_bytes line.folder) has) failed_before failed_after before after s

-- what a status says of the answer to words: of a line, or of words that are none
abbrev pub IsParsedStatus : Result CommandLine Refusal → Relation → ℕ → ℕ → Written → Written → Status → Type 0
IsParsedStatus (Ok line) has failed_before failed_after before after s = IsLineStatus line has failed_before failed_after before after s
IsParsedStatus (Err refusal) has failed_before failed_after before after s = IsNoRequestStatus refusal before.0 after.0 s × IsSilent before after

-- what a status says of any words: what it says of an answer that `clap` by its definition gives to them
abbrev pub IsProgramStatus : List (List ℕ) → Relation → ℕ → ℕ → Written → Written → Status → Type 0
IsProgramStatus words has failed_before failed_after before after s =
    (answer : Result CommandLine Refusal) × ParsesLine words answer × IsParsedStatus answer has failed_before failed_after before after s
