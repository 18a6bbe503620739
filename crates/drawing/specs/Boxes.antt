-- The box that all panels of a board share (docs/FORMATS.md, Pictures). Lengths are whole picometres.
use Rattle.std.specs.Prelude.{◌≡◌, ◌*◌, ◌^◌, ◌++◌, ◌∷◌, ◌+ℤ◌, ◌-ℤ◌, ℕ, ℤ, pos, min, Bool, List, [], get_or, Option, None, Some, map}
use Rattle.std.specs.Int.{int_min, int_max}
use Rattle.std.specs.List.{flat_map, fold}
use Rattle.grid_units.specs.Holes.{GridHole}
use Rattle.grid_units.specs.Points.{GridPoint}
use Rattle.pad_shapes.specs.declared.drawn.Drawn.{Drawn}
use Rattle.pad_shapes.specs.declared.drawn.Drawn.TheVariants as drawn
use Rattle.pad_shapes.specs.declared.row.FeatureRow.{FeatureRow}
use Rattle.pad_shapes.specs.declared.pad.Pad.{Pad}
use Rattle.pad_shapes.specs.declared.pad.Pad.TheVariants as pads
use Rattle.pad_shapes.specs.Rounded.{GridRounded, rounded_bottom, rounded_left, rounded_right, rounded_top}
use Rattle.pad_shapes.specs.declared.wide_pad.WidePad.{WidePad}
use Rattle.pad_shapes.specs.declared.wide_pad.WidePad.TheVariants as wide
use Rattle.ring_rules.specs.declared.finding.Drilled.{Drilled}
use Rattle.board.specs.Boards.{BoardView}
use Rattle.picture.specs.Outlines.{long_radius}
use Rattle.picture.specs.Scenes.{cross_of}
use Rattle.picture.specs.declared.frame.Frame.{Frame}

-- how far something reaches: its least and greatest x and y
pub record GridExtent : Type 0 where
  pub left : ℤ
  pub right : ℤ
  pub bottom : ℤ
  pub top : ℤ

-- the extent round a point, this far along each axis
abbrev pub extent_round : GridPoint → ℕ → ℕ → GridExtent
extent_round p far_x far_y =
    record { left = p.x -ℤ pos far_x; right = p.x +ℤ pos far_x; bottom = p.y -ℤ pos far_y; top = p.y +ℤ pos far_y }

-- the least extent that holds both
abbrev pub joint_extent : GridExtent → GridExtent → GridExtent
joint_extent a b =
    record { left = int_min a.left b.left; right = int_max a.right b.right; bottom = int_min a.bottom b.bottom; top = int_max a.top b.top }

-- the extent of a pad of a standard aperture: its half sides round its centre, for a disc the radius
abbrev pub plain_extent : Pad → GridExtent
plain_extent (pads.Disc d) = extent_round d.centre d.radius d.radius
plain_extent (pads.Rect r) = extent_round r.centre r.half_x r.half_y
plain_extent (pads.Obround o) = extent_round o.centre o.half_x o.half_y

-- the extent of a rounded polygon: its least and its greatest x and y
abbrev pub rounded_extent : GridRounded → GridExtent
rounded_extent r = record { left = rounded_left r; right = rounded_right r; bottom = rounded_bottom r; top = rounded_top r }

-- the extent of a pad
abbrev pub pad_extent : WidePad → GridExtent
pad_extent (wide.Plain p) = plain_extent p
pad_extent (wide.Rounded r) = rounded_extent r

-- the extent of a hole: its radius round both of its ends
abbrev pub hole_extent : GridHole → GridExtent
hole_extent h = joint_extent (extent_round h.from h.radius h.radius) (extent_round h.to h.radius h.radius)

-- the extent so far, if there is one, joined with another
abbrev pub joined_to : Option GridExtent → GridExtent → Option GridExtent
joined_to None extent = Some extent
joined_to (Some all) extent = Some (joint_extent all extent)

-- the extents of all pads of some layers, then of some holes
abbrev pub extents : List (List WidePad) → List Drilled → List GridExtent
extents layers holes = flat_map (λ layer. map pad_extent layer) layers ++ map (λ drilled. hole_extent drilled.hole) holes

-- the least extent that holds all of some; `None` where there are none
abbrev pub whole_extent : List GridExtent → Option GridExtent
whole_extent all = fold joined_to None all

-- the extent of a row that is no pad: half a millimetre round its point; none for a pad
abbrev pub cross_extent : FeatureRow → List GridExtent
cross_extent row = map (λ point. extent_round point (5 * 10 ^ 8) (5 * 10 ^ 8)) (cross_of row)

-- the extents of those rows of some files that are no pads; `rows` has a list for each file
abbrev pub cross_extents : List (List FeatureRow) → List ℕ → List GridExtent
cross_extents rows files = flat_map (λ file. flat_map cross_extent (get_or rows file [])) files

-- the extent of a board: of all its pads, holes and other flashes
abbrev pub board_extent : BoardView → Option GridExtent
board_extent board = whole_extent (extents board.layers board.holes ++ cross_extents board.rows board.layer_indexes)

-- the extent of an end: its point
abbrev pub end_extent : GridPoint → GridExtent
end_extent p = extent_round p 0 0

-- the circle of an arc that is half a circle or longer, by its radius, of which at most 10 m count
abbrev pub circle_extents : GridPoint → Option ℕ → List GridExtent
circle_extents centre None = []
circle_extents centre (Some radius) = extent_round centre (min radius (10 ^ 13)) (min radius (10 ^ 13)) ∷ []

-- both ends of an arc; where it is half a circle or longer, also its whole circle
abbrev pub arc_extents : GridPoint → GridPoint → GridPoint → Bool → List GridExtent
arc_extents from to centre clockwise = end_extent from ∷ end_extent to ∷ circle_extents centre (long_radius from to centre clockwise)

-- the extents of a part of an outline; none of a flash, and none of a contour's first corner, at which the contour also ends
abbrev pub edge_extents : Drawn → List GridExtent
edge_extents (drawn.Line from to width) = end_extent from ∷ end_extent to ∷ []
edge_extents (drawn.Arc from to centre width clockwise) = arc_extents from to centre clockwise
edge_extents (drawn.Flash at shape) = []
edge_extents (drawn.Contour at) = []
edge_extents (drawn.Corner at) = end_extent at ∷ []
edge_extents (drawn.Bend from to centre clockwise) = arc_extents from to centre clockwise

-- an extent, if there is one, joined with those of the parts of an outline
abbrev pub outlined_extent : Option GridExtent → List Drawn → Option GridExtent
outlined_extent extent outline = fold joined_to extent (flat_map edge_extents outline)

-- a box has this left edge, this top edge and these sides
pub record HasSides (f : Frame) (left top width height : ℤ) : Type 0 where
  pub at_left : f.left ≡ left
  pub at_top : f.top ≡ top
  pub so_wide : f.width ≡ width
  pub so_high : f.height ≡ height

-- a side of a box: at least a nanometre
abbrev pub side : ℤ → ℤ → ℤ
side least greatest = int_max (greatest -ℤ least) (pos 1000)

-- the box of an extent; where there is none a square millimetre, above and right of the origin
abbrev pub IsBox : Option GridExtent → Frame → Type 0
IsBox None f = HasSides f (pos 0) (pos (10 ^ 9)) (pos (10 ^ 9)) (pos (10 ^ 9))
IsBox (Some e) f = HasSides f e.left e.top (side e.left e.right) (side e.bottom e.top)
