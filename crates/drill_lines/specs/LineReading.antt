-- What a reader of lines answers: what a line spells in its profile, after the lines that it has read.
use Rattle.std.specs.Prelude.{◌≡◌, ℕ, List, [], ◌∷◌, ◌++◌, Option, Some, None, Result, Ok, Err}
use Rattle.grid_units.specs.declared.item_fail.ItemFail.{ItemFail}
use Rattle.grid_units.specs.Results.{IsRefusedAs}
use Rattle.drill_lines.specs.declared.command.Settings.{Settings}
use Rattle.drill_lines.specs.declared.command.DrillCommand.{DrillCommand}
use Rattle.grid_units.specs.declared.profile.Profile.{Profile}
use Rattle.grid_units.specs.declared.profile.Profile.TheVariants.{Strict, Wide}
use Rattle.drill_lines.specs.declared.line_reader.LineReader.{LineReader}
use Rattle.drill_lines.specs.declared.route.Machine.TheVariants as machine
use Rattle.drill_lines.specs.declared.route.Route.{Route}
use Rattle.drill_lines.specs.declared.route.Route.TheVariants as route
use Rattle.drill_lines.specs.Routes.{meaning_in}
use Rattle.drill_lines.specs.Inner.RouteSteps.{IsRouteAfter}

-- in this profile the route has come so far after these lines; in the strict one none ever begins
abbrev pub IsRouteIn : Profile → Route → Settings → List (List ℕ) → Type 0
IsRouteIn Strict r settings earlier = r ≡ route.Free machine.Drilling
IsRouteIn Wide r settings earlier = IsRouteAfter r settings earlier

-- the reader reads in this profile, has read these lines, and the next one stands under these settings
pub record HasReadLines (reader : LineReader) (profile : Profile) (settings : Settings) (earlier : List (List ℕ)) : Type 0 where
  pub in_profile : reader.profile ≡ profile
  pub route : IsRouteIn profile reader.route settings earlier

-- a line that spells nothing leaves the settings as they are
abbrev pub IsLater : Option DrillCommand → Settings → Settings → Type 0
IsLater None settings later = later ≡ settings
IsLater (Some c) settings later = Unit {0}

-- the line spells this in the profile, and has now been read too; or this is the reason that refuses it, or memory ran out
abbrev pub ReadsLine : Result (Option DrillCommand) ItemFail → LineReader → Profile → Settings → List (List ℕ) → List ℕ → Type 0
ReadsLine (Ok spelled) new profile settings earlier line = (meaning_in profile earlier settings line ≡ Ok spelled)
    × ((later : Settings) → IsLater spelled settings later → HasReadLines new profile later (earlier ++ line ∷ []))
ReadsLine (Err e) new profile settings earlier line = IsRefusedAs e (meaning_in profile earlier settings line)
