-- Which holes the commands of a drill file drill, as a relation (docs/FORMATS.md, Points and holes). No unit, tool or diameter is
-- ever assumed: commands that lack one where they drill have no list of holes. Lengths are whole picometres (pm).
use Rattle.std.specs.Prelude.{◌≡◌, ◌*◌, ℕ, ℤ, pos, List, [], ◌∷◌, ◌++◌, Some}
use Rattle.std.specs.List.{filter, AllZip}
use Rattle.grid_units.specs.Lists.{last_set, with_prefixes}
use Rattle.grid_units.specs.Points.{GridPoint}
use Rattle.grid_units.specs.Holes.{GridHole}
use Rattle.grid_units.specs.Numbers.{picometres}
use Rattle.grid_units.specs.declared.lengths.Unit.{Unit as Units}
use Rattle.drill_lines.specs.declared.command.DrillCommand.{DrillCommand}
use Rattle.drill_lines.specs.declared.command.DrillCommand.TheVariants.{Hit, Slot}
use Rattle.drill_text.specs.Lookback.{header, unit_set, tool_set, diameter_set, points_of}
use Rattle.drill_text.specs.Holes.{point_at}
use Rattle.drill_text.specs.Rules.{drills}

-- From where to where a command drills after these: a hit, `X1.0Y2.0`, stays at its point; a slot, `X1.0Y2.0G85Y3.0`, goes from its
-- first point to its second, here (1, 3): a coordinate that is left out is the one named last, else 0.
abbrev pub IsPath : Units → List DrillCommand → DrillCommand → GridPoint → GridPoint → Type 0
IsPath unit before (Hit point) from to = (from ≡ point_at unit (points_of before ++ point ∷ [])) × (to ≡ from)
IsPath unit before (Slot first second) from to = (from ≡ point_at unit (points_of before ++ first ∷ [])) × (to ≡ point_at unit (points_of before ++ first ∷ second ∷ []))
IsPath unit before _ from to = ⊥

-- A hole that a hit or a slot drills after these commands: in the unit that the header named last, as `METRIC` does, with the tool that
-- was picked last, as by `T1`, and the diameter that this tool was given, as by `T1C0.4`.
pub record IsHoleOf (before : List DrillCommand) (c : DrillCommand) (hole : GridHole) : Type 0 where
  pub unit : Units
  pub unit_named : last_set unit_set (header before) ≡ Some unit
  pub tool : ℕ
  pub tool_picked : last_set tool_set before ≡ Some tool
  pub diameter : ℤ
  pub diameter_given : last_set (diameter_set tool) before ≡ Some diameter
  pub path : IsPath unit before c hole.from hole.to
  pub radius : pos (2 * hole.radius) ≡ picometres unit 8 diameter

-- the holes of a list of commands in order: one for each hit and each slot, after the commands before it
abbrev pub AreHoles : List DrillCommand → List GridHole → Type 0
AreHoles commands holes = AllZip (λ p hole. IsHoleOf p.0 p.1 hole) (filter (λ p. drills p.1) (with_prefixes commands)) holes
