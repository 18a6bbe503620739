-- Parts of a region that can make no contour, whatever parts follow them.
use Rattle.std.specs.Prelude.{Bool, false, not, ◌||◌, nat_lt, length, List, [], ◌∷◌, if◌then◌else◌}
use Rattle.std.specs.Option.{option_map_or}
use Rattle.grid_units.specs.Points.{GridPoint}
use Rattle.pad_shapes.specs.Rounded.{max_corners}
use Rattle.macro_shapes.specs.Primitives.{stops}
use Rattle.layer_features.specs.declared.part.Part.{Part}
use Rattle.layer_features.specs.Contours.{is_move, points_of}
use Rattle.layer_features.specs.Inner.Turns.{turns_both_ways}

-- the first part is no move
abbrev pub is_over : List Part → Bool
is_over [] = false
is_over (p ∷ ps) = not (is_move p)

-- a run of points has more corners than a pad may have, or it turns both ways, so that no convex polygon starts with it
abbrev pub starts_no_polygon : List GridPoint → Bool
starts_no_polygon points = nat_lt max_corners (length (stops points)) || turns_both_ways points

-- these are sides that start the contour of no pad
abbrev pub are_sides_of_none : List Part → Bool
are_sides_of_none sides = option_map_or starts_no_polygon (points_of sides) false

-- a move stands first, and then sides that start the contour of no pad
abbrev pub starts_no_pad : List Part → Bool
starts_no_pad [] = false
starts_no_pad (p ∷ ps) = if is_move p then are_sides_of_none ps else false
