-- Steps of the definitions, as the functions of this crate take them.
use Rattle.std.specs.Prelude.{◌≡◌, ℕ, Bool, true, false, not, List, [], reverse, Option, None, Some, is_some, option_and_then, if◌then◌else◌}
use Rattle.std.specs.Bool.{MatchBool}
use Rattle.std.specs.List.{after_last, list_any, prefix_len}
use Rattle.grid_units.specs.Points.{GridPoint}
use Rattle.pad_shapes.specs.Rounded.{GridRounded}
use Rattle.pad_shapes.specs.declared.wide_pad.WidePad.{WidePad}
use Rattle.macro_shapes.specs.Primitives.{polygon_round}
use Rattle.gerber_commands.specs.declared.command.Command.{Command}
use Rattle.layer_state.specs.Lookback.{block_set}
use Rattle.layer_features.specs.Clearing.{is_clear_after}
use Rattle.layer_features.specs.Contours.{is_clockwise, is_counterclockwise, is_move, points_of, polygon_by, starts_region}
use Rattle.layer_features.specs.WidePads.{AreDarkPads}
use Rattle.layer_features.specs.declared.part.Part.{Part}
use Rattle.layer_features.specs.declared.part.Part.TheVariants as part

-- a block starts or ends (Gerber format, Step and repeat SR)
abbrev pub changes_block : Command → Bool
changes_block c = is_some (block_set c)

-- the most regions of a layer
abbrev pub max_regions : ℕ
max_regions = 4194304

-- the commands after the last start of a region, each with all commands before it
abbrev pub in_last_region : List (List Command × Command) → List (List Command × Command)
in_last_region positions = after_last (λ p. starts_region p.1) positions

-- a part is no move
abbrev pub is_no_move : Part → Bool
is_no_move p = not (is_move p)

-- a part is a move, or is none
abbrev pub is_move_or_none : Bool → Part → Bool
is_move_or_none true = is_move
is_move_or_none false = is_no_move

-- how many parts that are no moves stand first
abbrev pub leading_sides : List Part → ℕ
leading_sides parts = prefix_len is_no_move parts

-- the point where a side begins
abbrev pub start_of : Part → Option GridPoint
start_of (part.Side from to bent) = Some from
start_of _ = None

-- the point where a side ends
abbrev pub end_of : Part → Option GridPoint
end_of (part.Side from to bent) = Some to
end_of _ = None

-- the polygon that points go round counterclockwise, where no side is an arc the other way
abbrev pub counterclockwise_round : List Part → List GridPoint → Option GridRounded
counterclockwise_round sides points = if list_any is_clockwise sides then None else polygon_round points

-- the polygon that points go round clockwise, where no side is an arc the other way
abbrev pub clockwise_round : List Part → List GridPoint → Option GridRounded
clockwise_round sides points = if list_any is_counterclockwise sides then None else polygon_round (reverse points)

-- the convex polygon that these sides go round once
abbrev pub polygon_of_sides : List Part → Option GridRounded
polygon_of_sides sides = option_and_then (polygon_by sides) (points_of sides)

-- the pads of a command after others; in clear polarity none (Gerber format, Load polarity LP)
abbrev pub AreWidePadsOf : List Command → Command → List WidePad → Type 0
AreWidePadsOf before c made = MatchBool (is_clear_after before) (made ≡ []) (AreDarkPads before c made)
