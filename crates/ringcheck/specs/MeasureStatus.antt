-- What a status says of the measure of a package (docs/FORMATS.md, Measure; JSON).
use Rattle.std.specs.Prelude.{◌≡◌, ◌++◌, [], codes, ℕ, Bool, true, List, map, Option, Result, Ok, Err}
use Rattle.std.specs.Io.KnownBytes.{Appends}
use Rattle.grid_units.specs.declared.fault.Reason.{Reason}
use Rattle.grid_units.specs.declared.profile.Profile.{Profile}
use Rattle.grid_units.specs.declared.profile.Profile.TheVariants.{Strict, Wide}
use Rattle.print_text.specs.MeasureLines.{measure_text}
use Rattle.board_report.specs.Measures.{IsMeasure}
use Rattle.package_check.specs.Measures.{PackagePasses}
use Rattle.report.specs.declared.Measure.{Measure}
use Rattle.board.specs.Boards.{BoardView}
use Rattle.package_check.specs.Boards.{IsBoard}
use Rattle.package_check.specs.Package.{FileView}
use Rattle.package_check.specs.Texts.{file_lines}
use Rattle.print_json.specs.Packages.{measure_value}
use Rattle.print_json.specs.Values.{json_text}
use Rattle.ringcheck_files.specs.declared.Status.{Status}
use Rattle.ringcheck.specs.declared.parsed_words.MeasureFormat.{MeasureFormat}
use Rattle.ringcheck.specs.declared.parsed_words.MeasureFormat.TheVariants as format
use Rattle.ringcheck.specs.declared.parsed_words.MeasureOrder.{MeasureOrder}
use Rattle.ringcheck.specs.declared.refusals.RefusalStyle.{RefusalStyle}
use Rattle.ringcheck.specs.declared.refusals.RefusalStyle.TheVariants as style
use Rattle.ringcheck.specs.CheckStatus.{SaysPackage}
use Rattle.ringcheck_files.specs.LoaderRelation.{Relation}
use Rattle.ringcheck_files.specs.Words.{IsExplainedUsage}
use Rattle.ringcheck_files.specs.Writers.{Written}

-- the lines of a measure below those of the files: `ring`, `scale`, `gap` and, last, `meets`
abbrev pub lines_of : Measure → List ℕ
lines_of measure = measure_text measure.rings.items measure.scales.items measure.gap measure.meets

-- the line of a profile that is not the strict one: `profile wide`
abbrev pub profile_line : Profile → List ℕ
profile_line Strict = []
profile_line Wide = codes "profile wide\n"

-- the text of the measure of a board: the line of the profile, the lines of the files, which have these names, and those of the measure
abbrev pub board_text : Profile → List (List ℕ) → BoardView → Measure → List ℕ
board_text profile names board measure = profile_line profile ++ (file_lines profile 1 names board.files ++ lines_of measure)

-- what is printed of a measure: its text, or its JSON
abbrev pub page_in : MeasureFormat → Profile → List (List ℕ) → BoardView → Measure → List ℕ
page_in format.Text profile names board measure = board_text profile names board measure
page_in format.Json profile names board measure = json_text (measure_value profile names board measure)

-- what is printed of a measure that is asked for so
abbrev pub measure_page : MeasureOrder → List (List ℕ) → BoardView → Measure → List ℕ
measure_page order names board measure = page_in order.format order.profile names board measure

-- the writer got just the measure of the files' board, as it is asked for; a check of them finds nothing under exactly the rules that are met
pub record PrintsMeasure (order : MeasureOrder) (before after : Option (List ℕ)) (passes : Bool) (all : List FileView) : Type 0 where
  pub board : BoardView
  pub read : IsBoard all board
  pub measure : Measure
  pub is : IsMeasure order.profile board measure
  pub written : Appends before after (measure_page order (map (λ source. source.name) all) board measure)
  pub met : PackagePasses order.profile all measure.meets.ring measure.meets.gap
  pub passed : passes ≡ true

-- how a refusal is printed in place of a measure: by a line with its page, or as JSON
abbrev pub measure_style : MeasureFormat → RefusalStyle
measure_style format.Text = style.Page
measure_style format.Json = style.Json

-- what a status says of the measure of a package, of which a refusal is printed as in place of a report; it is never Findings
abbrev pub IsMeasureStatus : Relation → List ℕ → MeasureOrder → Written → Written → Status → Type 0
IsMeasureStatus has name job before after s = SaysPackage has job.profile name (PrintsMeasure job before.0 after.0) (measure_style job.format) before after s

-- what a status says of a measure that is asked for by words, or where these are refused and this sentence stands below their line
abbrev pub IsParsedMeasureStatus : Relation → List ℕ → Result MeasureOrder Reason → List ℕ → Written → Written → Status → Type 0
IsParsedMeasureStatus has name (Ok order) sentence before after s = IsMeasureStatus has name order before after s
IsParsedMeasureStatus has name (Err why) sentence before after s = IsExplainedUsage true why sentence before after s
