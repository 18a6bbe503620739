-- The further hits of a line that repeats a hit (docs/FORMATS.md, The wide profile): those that the lines of hits would spell that say each of them by itself.
use Rattle.std.specs.Prelude.{ℕ, ℤ, pos, ◌+ℤ◌, ◌*ℤ◌, Bool, true, false, List, map, Option, Some, unwrap_or}
use Rattle.std.specs.List.{range_with_len}
use Rattle.grid_units.specs.Lists.{last_set}
use Rattle.drill_lines.specs.declared.command.Coordinates.{Coordinates}
use Rattle.drill_lines.specs.declared.command.DrillCommand.{DrillCommand}
use Rattle.drill_lines.specs.declared.command.DrillCommand.TheVariants.{Hit}
use Rattle.drill_lines.specs.declared.command.Repeat.{Repeat}
use Rattle.drill_text.specs.Lookback.{points_of, x_set, y_set}

-- the command is a hit
abbrev pub is_hit : DrillCommand → Bool
is_hit (Hit _) = true
is_hit _ = false

-- the last of these commands is a hit
unfoldable pub ends_in_hit : List DrillCommand → Bool
ends_in_hit before = unwrap_or (last_set (λ c. Some (is_hit c)) before) false

-- a coordinate so many steps on: from 0 where none was named, by 0 where the step leaves it out
abbrev pub steps_on : ℕ → Option ℤ → Option ℤ → ℤ
steps_on n at step = unwrap_or at (pos 0) +ℤ pos n *ℤ unwrap_or step (pos 0)

-- the hit so many steps on from the last point of these commands, with both of its coordinates
abbrev pub hit_on : List DrillCommand → Coordinates → ℕ → DrillCommand
hit_on before step n = Hit (record {
  x = Some (steps_on n (last_set x_set (points_of before)) step.x);
  y = Some (steps_on n (last_set y_set (points_of before)) step.y);
})

-- the further hits of a repeat after these commands: one step on, two steps on, and so on
abbrev pub further_hits : List DrillCommand → Repeat → List DrillCommand
further_hits before repeat = map (hit_on before repeat.step) (range_with_len 1 repeat.count)
