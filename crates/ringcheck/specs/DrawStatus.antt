-- What a status says of the picture of a package.
use Rattle.std.specs.Prelude.{◌≡◌, ℕ, Bool, true, false, List, [], map, Option, Some, Result, Ok, Err}
use Rattle.std.specs.Io.KnownBytes.{Appends}
use Rattle.grid_units.specs.Holes.{GridRules}
use Rattle.grid_units.specs.declared.profile.Profile.{Profile}
use Rattle.grid_units.specs.declared.fault.Reason.{Reason}
use Rattle.drawing.specs.Pages.{IsDrawn}
use Rattle.pad_shapes.specs.declared.drawn.Drawn.{Drawn}
use Rattle.board.specs.Boards.{BoardView, board_findings}
use Rattle.package_check.specs.Boards.{IsDrawnBoard}
use Rattle.package_check.specs.Package.{FileView}
use Rattle.package_check.specs.Soundness.{IsSound}
use Rattle.ringcheck_files.specs.declared.Status.{Status}
use Rattle.ringcheck.specs.declared.refusals.RefusalStyle.TheVariants as style
use Rattle.ringcheck.specs.CheckStatus.{SaysPackage}
use Rattle.ringcheck.specs.Outlining.{IsOutlinedStatus}
use Rattle.ringcheck_files.specs.LoaderRelation.{Relation}
use Rattle.ringcheck_files.specs.Words.{IsExplainedUsage}
use Rattle.ringcheck_files.specs.Writers.{Written}

-- the writer got just the picture of the files' board, with what the copper files draw, an outline of these parts, and what is found under the rules, if
-- there are any; without findings the files are sound
pub record PrintsPicture (rules : Option GridRules) (outline : List Drawn) (before after : Option (List ℕ)) (passes : Bool) (all : List FileView) : Type 0 where
  pub board : BoardView
  pub read : IsDrawnBoard all board
  pub text : List ℕ
  pub is : IsDrawn (map (λ source. source.name) all) board outline rules text
  pub written : Appends before after text
  pub sound : (required : GridRules) → rules ≡ Some required → board_findings required board ≡ [] → IsSound all required
  pub passed : passes ≡ true

-- what a status says of the picture of a package, read in a profile, with an outline of these parts; it is never Findings
abbrev pub IsDrawStatus : Relation → List ℕ → Profile → Option GridRules → List Drawn → Written → Written → Status → Type 0
IsDrawStatus has name profile rules outline before after = SaysPackage has profile name (PrintsPicture rules outline before.0 after.0) style.Line before after

-- what a status says of a picture in the profile and under the rules that words name, or where these are refused, and beside the line
-- this sentence says why; `outline` is the file of an outline, if there is one
abbrev pub IsParsedDrawStatus : Relation → List ℕ → Result (Profile × Option GridRules) Reason → List ℕ → Option (List ℕ) → Written → Written → Status → Type 0
IsParsedDrawStatus has name (Ok (profile, rules)) sentence outline before after s = IsOutlinedStatus has outline (λ parts. IsDrawStatus has name profile rules parts before after) before after s
IsParsedDrawStatus has name (Err why) sentence outline before after s = IsExplainedUsage false why sentence before after s
