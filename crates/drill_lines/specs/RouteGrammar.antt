-- Which lines spell what in the wide profile: one line by itself, and the four that route a slot (docs/FORMATS.md, The wide profile).
use Rattle.std.specs.Prelude.{◌≡◌, ◌⊎◌, ◌&&◌, ℕ, false, IsTrue, List, ◌++◌, Option, None, Some, codes}
use Rattle.drill_lines.specs.declared.command.Coordinates.{Coordinates}
use Rattle.drill_lines.specs.declared.command.Part.TheVariants as part
use Rattle.drill_lines.specs.declared.command.Settings.{Settings}
use Rattle.drill_lines.specs.declared.command.DrillCommand.{DrillCommand}
use Rattle.drill_lines.specs.declared.command.DrillCommand.TheVariants.{Finish}
use Rattle.drill_lines.specs.declared.route.Machine.{Machine}
use Rattle.drill_lines.specs.Grammar.{IsPointText, IsLine}
use Rattle.drill_lines.specs.Routes.{is_hole, is_routing, may_stand, says_nothing}

-- Four lines in the body, without the blanks at their ends, route a slot: `G00X0.0Y0.0`, `M15`, `G01X5.0` and `M16` from (0, 0) to an X of 5.
pub record IsRoute (settings : Settings) (now : Machine) (first second third fourth : List ℕ) (from to : Coordinates) : Type 0 where
  pub stands : IsTrue (may_stand now first)
  pub in_body : settings.part ≡ part.Body
  pub start : List ℕ
  pub first_is : first ≡ codes "G00" ++ start
  pub from_is : IsPointText settings start from
  pub second_is : second ≡ codes "M15"
  pub target : List ℕ
  pub third_is : third ≡ codes "G01" ++ target
  pub to_is : IsPointText settings target to
  pub fourth_is : (fourth ≡ codes "M16") ⊎ (fourth ≡ codes "M17")

-- A line that may stand spells what it does in the strict profile, or no hole while the machine routes; or it ends a file without header, or says nothing.
abbrev pub IsAlone : Settings → Machine → List ℕ → Option DrillCommand → Type 0
IsAlone settings now line spelled = IsTrue (may_stand now line)
    × ((IsLine settings line spelled × ((is_routing now && is_hole spelled) ≡ false))
    ⊎ ((settings.part ≡ part.Before) × (line ≡ codes "M30") × (spelled ≡ Some Finish))
    ⊎ (IsTrue (says_nothing settings.part line) × (spelled ≡ None)))
