-- The contour of a region that counts as a pad: the only one of its region, closed, and round a convex polygon once (Gerber format,
-- Region statement G36/G37).
use Rattle.std.specs.Prelude.{ℤ, pos, Bool, true, false, ◌&&◌, nat_lt, List, [], ◌∷◌, drop, reverse, Option, None, Some, is_none, unwrap_or, option_and_then, option_map, if◌then◌else◌}
use Rattle.std.specs.Option.{option_map_or, option_or, option_zip}
use Rattle.std.specs.List.{after_last, before_first, filter_map, list_all, list_any, position_or_len, prefix_len}
use Rattle.grid_units.specs.Points.{GridPoint}
use Rattle.grid_units.specs.Lists.{with_prefixes}
use Rattle.pad_shapes.specs.Rounded.{GridRounded}
use Rattle.macro_shapes.specs.Primitives.{polygon_round}
use Rattle.gerber_commands.specs.declared.command.Action.{Action}
use Rattle.gerber_commands.specs.declared.command.Action.TheVariants as action
use Rattle.gerber_commands.specs.declared.command.Interpolation.{Interpolation}
use Rattle.gerber_commands.specs.declared.command.Interpolation.TheVariants as interpolation
use Rattle.gerber_commands.specs.declared.command.QuadrantMode.{QuadrantMode}
use Rattle.gerber_commands.specs.declared.command.Command.{Command}
use Rattle.gerber_commands.specs.declared.command.Command.TheVariants as command
use Rattle.layer_features.specs.Arcs.{is_arc}
use Rattle.layer_features.specs.declared.part.Part.{Part}
use Rattle.layer_features.specs.declared.part.Part.TheVariants as part

-- ---- the parts of a region

-- what a plot in a region meets; `point` is that of two coordinates, where one left out is the last one
pub record PlotState : Type 0 where
  pub in_region : Bool
  pub mode : Interpolation
  pub quadrant : Option QuadrantMode
  pub point : Option ℤ → Option ℤ → Option GridPoint

-- A plot from one point to another with these offsets I and J counts as a side. A straight side is written without them; an arc is one where both of its
-- ends lie equally far from its centre, which lies at the offsets from its start (one left out is 0), and it lies beside its chord (Gerber format, Operations
-- D01, D02, D03; Plot state G01, G02, G03; G75 and G74)
abbrev pub is_side : PlotState → Interpolation → GridPoint → GridPoint → Option ℤ → Option ℤ → Bool
is_side s interpolation.Linear from to i j = is_none i && is_none j
is_side s _ from to i j = is_arc s.quadrant from to (s.point (Some (unwrap_or i (pos 0))) (Some (unwrap_or j (pos 0))))

-- the side from one point to another in a state, with these offsets of a centre
abbrev pub side_by : PlotState → GridPoint → GridPoint → Option ℤ → Option ℤ → Part
side_by s from to i j = if is_side s s.mode from to i j then part.Side from to s.mode else part.Other

-- what an operation adds to a region: a move ends a contour, and a plot is a side of one, where both of its ends are at most 10 m from zero along each axis
-- (Gerber format, Region statement G36/G37)
abbrev pub part_of : PlotState → Action → Option ℤ → Option ℤ → Option ℤ → Option ℤ → Part
part_of s action.Move x y i j = part.Move
part_of s action.Plot x y i j = option_map_or (λ ends. side_by s ends.0 ends.1 i j) (option_zip (s.point None None) (s.point x y)) part.Other
part_of s action.Flash x y i j = part.Other

-- what a command adds to the region that is open
abbrev pub part_by : PlotState → Command → Option Part
part_by s (command.Operate action x y i j) = if s.in_region then Some (part_of s action x y i j) else None
part_by s _ = None

-- a region starts (Gerber format, Region statement G36/G37)
abbrev pub starts_region : Command → Bool
starts_region command.RegionStart = true
starts_region _ = false

-- the parts of the last region that was started, by what a plot after some commands meets
abbrev pub region_parts : (List Command → PlotState) → List Command → List Part
region_parts meets before = filter_map (λ p. part_by (meets p.0) p.1) (after_last (λ p. starts_region p.1) (with_prefixes before))

-- ---- the one contour of a region

-- a part is a move
abbrev pub is_move : Part → Bool
is_move part.Move = true
is_move _ = false

-- the parts from the first that is no move
abbrev pub after_moves : List Part → List Part
after_moves parts = drop (prefix_len is_move parts) parts

-- The sides of a region's one contour: a move begins it, and nothing but moves follow it. A region
-- with several contours has no such list, since readers differ in what they fill.
abbrev pub sides_of : List Part → Option (List Part)
sides_of parts =
    if nat_lt 0 (prefix_len is_move parts) && list_all is_move (drop (position_or_len is_move (after_moves parts)) (after_moves parts))
    then Some (before_first is_move (after_moves parts)) else None

-- the points where sides end, where each part is a side
abbrev pub ends_of : List Part → Option (List GridPoint)
ends_of [] = Some []
ends_of (part.Side from to bent ∷ ps) = option_map (λ rest. to ∷ rest) (ends_of ps)
ends_of _ = None

-- the points of a contour, from the start of its first side
abbrev pub points_of : List Part → Option (List GridPoint)
points_of (part.Side from to bent ∷ ps) = option_map (λ rest. from ∷ rest) (ends_of (part.Side from to bent ∷ ps))
points_of _ = None

-- a part is an arc counterclockwise
abbrev pub is_counterclockwise : Part → Bool
is_counterclockwise (part.Side from to interpolation.Counterclockwise) = true
is_counterclockwise _ = false

-- a part is an arc clockwise
abbrev pub is_clockwise : Part → Bool
is_clockwise (part.Side from to interpolation.Clockwise) = true
is_clockwise _ = false

-- the polygon that points go round, counterclockwise or clockwise, where no side is an arc the other way: so each arc lies outside of its chord
abbrev pub polygon_by : List Part → List GridPoint → Option GridRounded
polygon_by sides points =
    option_or (if list_any is_clockwise sides then None else polygon_round points)
    (if list_any is_counterclockwise sides then None else polygon_round (reverse points))

-- the convex polygon of a region with these parts, where its one contour goes round one
abbrev pub contour_of : List Part → Option GridRounded
contour_of parts = option_and_then (λ sides. option_and_then (polygon_by sides) (points_of sides)) (sides_of parts)
