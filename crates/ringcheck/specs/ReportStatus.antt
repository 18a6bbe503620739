-- What a status says of a report for people (docs/FORMATS.md, Report for people; JSON; Waivers).
use Rattle.std.specs.Prelude.{◌≡◌, ◌⊎◌, ◌==◌, ◌&&◌, ℕ, Bool, true, false, not, List, [], Option, Some, None, Result, Ok, Err, length, map, if◌then◌else◌}
use Rattle.std.specs.Io.KnownBytes.{Appends}
use Rattle.grid_units.specs.Holes.{GridRules}
use Rattle.grid_units.specs.declared.fault.Reason.{Reason}
use Rattle.grid_units.specs.declared.profile.Profile.{Profile}
use Rattle.grid_units.specs.declared.profile.Profile.TheVariants.{Strict}
use Rattle.pad_shapes.specs.declared.drawn.Drawn.{Drawn}
use Rattle.package_check.specs.Package.{FileView}
use Rattle.package_check.specs.Soundness.{IsSound}
use Rattle.layer_features.specs.declared.keep.Keep.{Keep}
use Rattle.layer_features.specs.declared.keep.Keep.TheVariants as keep
use Rattle.board.specs.Boards.{BoardView}
use Rattle.package_check.specs.Boards.{IsDrawnBoard}
use Rattle.print_json.specs.Packages.{waived_report_value}
use Rattle.print_json.specs.Values.{json_text}
use Rattle.command_line.specs.declared.commands.TheConstants.{PROGRAM}
use Rattle.print_text.specs.Texts.{waived_report_text}
use Rattle.print_text.specs.declared.report_text.Particulars.{Particulars}
use Rattle.report.specs.declared.BoardReport.{BoardReport}
use Rattle.report.specs.declared.Acceptances.{Acceptances}
use Rattle.package_check.specs.BoardReports.{AgreesWithCheck, FindsFewer, IsBoardReportOf}
use Rattle.print_text.specs.Drilling.{DrillBounds}
use Rattle.ringcheck_files.specs.declared.Status.{Status}
use Rattle.ringcheck_files.specs.declared.Status.TheVariants as status
use Rattle.report_page.specs.Pages.{IsHtmlPage}
use Rattle.ringcheck.specs.declared.parsed_words.ReportFormat.{ReportFormat}
use Rattle.ringcheck.specs.declared.parsed_words.ReportFormat.TheVariants as format
use Rattle.ringcheck.specs.declared.refusals.RefusalStyle.{RefusalStyle}
use Rattle.ringcheck.specs.declared.refusals.RefusalStyle.TheVariants as style
use Rattle.ringcheck.specs.Refusals.{Refusal, PrintsRefusal}
use Rattle.ringcheck_files.specs.LoaderRelation.{Relation}
use Rattle.ringcheck_files.specs.Words.{IsExplainedUsage}
use Rattle.ringcheck_files.specs.Writers.{Written}
use Rattle.ringcheck.specs.CheckStatus.{SaysPackage}
use Rattle.ringcheck.specs.Outlining.{IsOutlinedStatus}
use Rattle.ringcheck.specs.Waiving.{HasWaivers, RefusedWaivers}
use Rattle.waivers.specs.Findings.{findings_text}
use Rattle.waivers.specs.Waiving.{AreReasons, IsWaived, are_all_waived}
use Rattle.waivers.specs.declared.Waiver.{Waiver}
use Rattle.waivers.specs.declared.waiving.Waived.{Waived}

-- the writer got just the page of the report on a board, with an outline of these parts
abbrev pub PrintsPage : List (List ℕ) → Particulars → BoardView → List Drawn → BoardReport → Acceptances → Option (List ℕ) → Option (List ℕ) → Type 0
PrintsPage names about board outline report accepted before after = (page : List ℕ) × IsHtmlPage names about board outline report accepted page × Appends before after page

-- the writer got just a report on a board with the reasons why findings are waived and with its particulars: its text with at most `limit` findings,
-- or its page with an outline of these parts, its JSON or its file of waivers with all of them
abbrev pub PrintsReport : ReportFormat → List (List ℕ) → BoardView → List Drawn → BoardReport → Particulars → Option ℕ → Acceptances → Option (List ℕ) → Option (List ℕ) → Type 0
PrintsReport format.Text names board outline report about limit accepted before after =
    Appends before after (waived_report_text names report about.fewer about.drilling limit accepted)
PrintsReport format.Html names board outline report about limit accepted before after = PrintsPage names about board outline report accepted before after
PrintsReport format.Json names board outline report about limit accepted before after = Appends before after (json_text (waived_report_value about names board.files report accepted))
PrintsReport format.Waivers names board outline report about limit accepted before after = Appends before after (findings_text names report)

-- a report in this format and profile says how many of its findings the wide profile does not have: each in the strict profile, but no file of waivers
abbrev pub says_fewer : ReportFormat → Profile → Bool
says_fewer format.Text Strict = true
says_fewer format.Html Strict = true
says_fewer format.Json Strict = true
says_fewer _ _ = false

-- whether a report has no finding
abbrev pub has_none : BoardReport → Bool
has_none report = (length report.rings.items == 0) && (length report.gaps.items == 0)

-- a report has to ask how many of its findings the wide profile does not have: it says so, and has a finding
abbrev pub asks_wide : ReportFormat → GridRules → BoardReport → Bool
asks_wide form rules report = says_fewer form rules.profile && not (has_none report)

-- how many findings of the report on these files the wide profile does not have, where it asks for that; else 0
abbrev pub IsFewer : Bool → List FileView → BoardReport → ℕ → Type 0
IsFewer true all report fewer = FindsFewer all report fewer
IsFewer false all report fewer = fewer ≡ 0

-- the drilling of which a report says what it leaves of the rules: that which is asked for, where the report has no finding
abbrev pub said_drilling : Option DrillBounds → BoardReport → Option DrillBounds
said_drilling asked report = if has_none report then asked else None

-- whether a report passes, and its reasons: without a file of waivers it passes where it has no finding, and has no reason; with one it
-- passes where each finding is waived, and has the reasons of the records that waive them
abbrev pub Judges : Option (List Waiver) → List (List ℕ) → BoardReport → Bool → Acceptances → Type 0
Judges None names report passes accepted = (passes ≡ has_none report) × (accepted.rings.now ≡ []) × (accepted.gaps.now ≡ []) × (accepted.idle.now ≡ [])
Judges (Some waivers) names report passes accepted = (waived : Waived) × (passes ≡ are_all_waived waived) × IsWaived waivers names report waived × AreReasons waivers waived accepted

-- what is kept of the files for a report in a format: for a page, whose picture shows it, also what they draw
abbrev pub kept_for : ReportFormat → Keep
kept_for format.Text = keep.Rows
kept_for format.Html = keep.RowsAndDrawn
kept_for format.Json = keep.Rows
kept_for format.Waivers = keep.Rows

-- the writer got just the report of the files under the rules, in a format, judged with the waivers of a file, if there is one; its findings
-- are those of the check of them, one for one, and without a finding they are sound; a page shows what the copper files draw, and an outline
-- of these parts; its particulars are the name of the manifest, the program, how many of the findings the wide profile does not have, and, where there
-- is no finding, the drilling that is asked for
pub record Reports (name : List ℕ) (rules : GridRules) (drilling : Option DrillBounds) (limit : Option ℕ) (form : ReportFormat) (waivers : Option (List Waiver))
    (outline : List Drawn) (before after : Option (List ℕ)) (passes : Bool) (all : List FileView) : Type 0 where
  pub report : BoardReport
  pub is : IsBoardReportOf all rules report
  pub drawn : form ≡ format.Html → IsDrawnBoard all is.board
  pub as_check : AgreesWithCheck all rules report
  pub sound : has_none report ≡ true → IsSound all rules
  pub about : Particulars
  pub manifest : about.manifest.now ≡ name
  pub program : about.program.now ≡ PROGRAM.now
  pub is_fewer : IsFewer (asks_wide form rules report) all report about.fewer
  pub is_drilling : about.drilling ≡ said_drilling drilling report
  pub accepted : Acceptances
  pub judged : Judges waivers (map (λ source. source.name) all) report passes accepted
  pub written : PrintsReport form (map (λ source. source.name) all) is.board outline report about limit accepted before after

-- how a refusal is printed in place of a report or a measure: by a line with its page, as JSON, or by a line alone
abbrev pub report_style : ReportFormat → RefusalStyle
report_style format.Text = style.Page
report_style format.Json = style.Json
report_style format.Html = style.Line
report_style format.Waivers = style.Line

-- a file of waivers is refused, and just the text of the refusal was written, and beside it its sentence
abbrev pub PrintsWaiversRefusal : Relation → List ℕ → RefusalStyle → Written → Written → Type 0
PrintsWaiversRefusal has file refusal_style before after = (why : Refusal) × RefusedWaivers has file why × PrintsRefusal refusal_style why before after

-- what a status says of the report on a package, read in the profile of the rules
abbrev pub IsReportStatus : Relation → List ℕ → GridRules → Option DrillBounds → Option ℕ → ReportFormat → Option (List Waiver) → List Drawn → Written → Written → Status → Type 0
IsReportStatus has name rules drilling limit form waivers outline before after s =
    SaysPackage has rules.profile name (Reports name rules drilling limit form waivers outline before.0 after.0) (report_style form) before after s

-- what a status says of a report for which a file of waivers may be named: that file is refused, or the status is Device,
-- or the file has waivers and the report is made with them; `outline` is the file of an outline, if there is one
abbrev pub IsWaivingReportStatus : Relation → List ℕ → GridRules → Option DrillBounds → Option ℕ → ReportFormat → Option (List ℕ) → Option (List ℕ) → Written → Written → Status → Type 0
IsWaivingReportStatus has name rules drilling limit form None outline before after s =
    IsOutlinedStatus has outline (λ parts. IsReportStatus has name rules drilling limit form None parts before after) before after s
IsWaivingReportStatus has name rules drilling limit form (Some file) outline before after s =
    ((s ≡ status.Refused) × PrintsWaiversRefusal has file (report_style form) before after)
    ⊎ ((s ≡ status.Device) ⊎ ((waivers : List Waiver) × HasWaivers has file waivers
    × IsOutlinedStatus has outline (λ parts. IsReportStatus has name rules drilling limit form (Some waivers) parts before after) before after s))

-- what a status says of a report with the rules, the drilling, the limit and the format that words name, or where these are refused and this sentence
-- says why, below their line or, if not `below`, beside it; `waive` is the file of waivers, and `outline` that of an outline, if there is one
abbrev pub IsParsedReportStatus : Relation → List ℕ → Result (GridRules × Option DrillBounds × Option ℕ × ReportFormat) Reason → Bool → List ℕ
    → Option (List ℕ) → Option (List ℕ) → Written → Written → Status → Type 0
IsParsedReportStatus has name (Ok (rules, drilling, limit, form)) below sentence waive outline before after s =
    IsWaivingReportStatus has name rules drilling limit form waive outline before after s
IsParsedReportStatus has name (Err why) below sentence waive outline before after s = IsExplainedUsage below why sentence before after s
