-- What a layer draws, in a picture (docs/FORMATS.md, Pictures). Lengths are whole pm, printed in mm without zeros at the end; y grows downwards.
use Rattle.std.specs.Prelude.{ℕ, zero, suc, ℤ, pos, neg_ℤ, ◌+◌, ◌*◌, ◌+ℤ◌, ◌-ℤ◌, ◌*ℤ◌, Bool, false, ◌==◌, ◌&&◌, nat_le, int_lt, List, [], ◌++◌, length, codes, if◌then◌else◌}
use Rattle.std.specs.List.{flat_map}
use Rattle.std.specs.Ordering.{int_eq}
use Rattle.grid_units.specs.Points.{GridPoint, square, square_distance}
use Rattle.pad_shapes.specs.Rounded.{GridRounded}
use Rattle.pad_shapes.specs.declared.drawn.Drawn.{Drawn}
use Rattle.pad_shapes.specs.declared.drawn.Drawn.TheVariants as drawn
use Rattle.picture.specs.Elements.{after, corner, line, path_open, point}
use Rattle.picture.specs.declared.frame.Frame.{Frame}

-- ---- arcs

-- the root of a number, from that of the number before: one more, where the square of that is not above the number
abbrev pub next_root : ℕ → ℕ → ℕ
next_root root n = if nat_le (square (root + 1)) n then root + 1 else root

-- the whole part of a square root: of 8 it is 2
unfoldable pub floor_root : ℕ → ℕ
floor_root zero = 0
floor_root (suc n) = next_root (floor_root n) (suc n)

-- the radius of an arc: the distance of its start from its centre, rounded down to whole pm
abbrev pub arc_radius : GridPoint → GridPoint → ℕ
arc_radius from centre = floor_root (square_distance from centre)

-- as seen from the centre, the second point lies less than half a turn counterclockwise of the first: (0, 1) of (1, 0) round (0, 0)
abbrev pub is_left : GridPoint → GridPoint → GridPoint → Bool
is_left from to centre = int_lt ((from.y -ℤ centre.y) *ℤ (to.x -ℤ centre.x)) ((from.x -ℤ centre.x) *ℤ (to.y -ℤ centre.y))

-- an arc is longer than half a circle: one clockwise from (1, 0) to (0, 1) round (0, 0), or one counterclockwise back
abbrev pub is_large : GridPoint → GridPoint → GridPoint → Bool → Bool
is_large from to centre clockwise = if clockwise then is_left from to centre else is_left to from centre

-- a flag: `1` where it is set, else `0`
abbrev pub flag : Bool → List ℕ
flag set = if set then codes "1" else codes "0"

-- the next part of a path, along an arc: its radius twice, no turn, whether it is large and whether it goes clockwise, its end: `A2 2 0 0 1 3 -4`
unfoldable pub arc_to : ℤ → Bool → Bool → ℤ → ℤ → List ℕ
arc_to radius large clockwise x y =
    after (codes "A") radius ++ (after (codes " ") radius ++ ((codes " 0 " ++ flag large) ++ ((codes " " ++ flag clockwise) ++ (after (codes " ") x ++ after (codes " ") y))))

-- the next part of a path, along an arc to a point of the board
abbrev pub arc_to_point : ℤ → Bool → Bool → GridPoint → List ℕ
arc_to_point radius large clockwise to = arc_to radius large clockwise to.x (neg_ℤ to.y)

-- a point on a circle, seen along one axis, and the one opposite: 1 is opposite 5 round 3
abbrev pub opposite : ℤ → ℤ → ℤ
opposite at centre = pos 2 *ℤ centre -ℤ at

-- both ends of an arc are one point, so that it is a full circle (Gerber format, G75 and G74)
abbrev pub is_circle : GridPoint → GridPoint → Bool
is_circle from to = int_eq from.x to.x && int_eq from.y to.y

-- half a circle from a point of it, to the point opposite: `A1 1 0 0 1 -1 0`
abbrev pub half_way : GridPoint → GridPoint → Bool → List ℕ
half_way from centre clockwise = arc_to (pos (arc_radius from centre)) false clockwise (opposite from.x centre.x) (neg_ℤ (opposite from.y centre.y))

-- a full circle from a point of it, as two half circles: to the point opposite, and back: `A1 1 0 0 1 -1 0A1 1 0 0 1 1 0`
abbrev pub circle_way : GridPoint → GridPoint → Bool → List ℕ
circle_way from centre clockwise = half_way from centre clockwise ++ arc_to_point (pos (arc_radius from centre)) false clockwise from

-- an arc whose ends are two points: `A2 2 0 0 1 3 -4`
abbrev pub open_way : GridPoint → GridPoint → GridPoint → Bool → List ℕ
open_way from to centre clockwise = arc_to_point (pos (arc_radius from centre)) (is_large from to centre clockwise) clockwise to

-- the way along an arc, from its start on
unfoldable pub arc_way : GridPoint → GridPoint → GridPoint → Bool → List ℕ
arc_way from to centre clockwise = if is_circle from to then circle_way from centre clockwise else open_way from to centre clockwise

-- an arc from its start to its end, as a part of a path: `M1 -2A2 2 0 0 1 3 -4`
abbrev pub edge_arc : GridPoint → GridPoint → GridPoint → Bool → List ℕ
edge_arc from to centre clockwise = point (codes "M") from ++ arc_way from to centre clockwise

-- an arc as an element, by its width: `<path stroke-width="0.2" d="M1 -2A2 2 0 0 1 3 -4"/>`
abbrev pub drawn_arc : GridPoint → GridPoint → GridPoint → ℤ → Bool → List ℕ
drawn_arc from to centre width clockwise = path_open (codes "<path") width ++ (edge_arc from to centre clockwise ++ codes "\"/>\n")

-- ---- flashes of macros

-- the x of a corner about the point of a flash
abbrev pub corner_x : GridPoint → GridPoint → ℤ
corner_x at c = at.x +ℤ c.x

-- and its y, downwards
abbrev pub corner_y : GridPoint → GridPoint → ℤ
corner_y at c = neg_ℤ (at.y +ℤ c.y)

-- a corner about the point of a flash, after the letter that says how it is reached: `M3 -4`
abbrev pub moved_corner : List ℕ → GridPoint → GridPoint → List ℕ
moved_corner letter at c = corner letter (corner_x at c) (corner_y at c)

-- the next corner about the point of a flash: `L3 -4`
abbrev pub flash_corner : GridPoint → GridPoint → List ℕ
flash_corner at c = moved_corner (codes "L") at c

-- the width of the line round the corners: twice the radius
abbrev pub flash_width : GridRounded → ℤ
flash_width shape = pos (2 * shape.radius)

-- the path round several corners, by its ink, the width of its line, the first corner and the others:
-- `<path stroke-width="0.2" stroke-linejoin="round" fill="#f0dcc0" d="M1 -2L3 -2L3 -4z"/>`
unfoldable pub drawn_polygon : List ℕ → ℤ → ℤ → ℤ → List ℕ → List ℕ
drawn_polygon ink width x y others =
    after (codes "<path stroke-width=\"") width ++ (codes "\" stroke-linejoin=\"round\" " ++ (ink ++ (after (codes " d=\"M") x ++ (after (codes " ") y ++ (others ++ codes "z\"/>\n")))))

-- the path round the corners of a shape about a point
abbrev pub shape_path : List ℕ → GridPoint → GridRounded → List ℕ
shape_path ink at shape = drawn_polygon ink (flash_width shape) (corner_x at shape.first) (corner_y at shape.first) (flat_map (flash_corner at) shape.others)

-- the ink of a flash, which is pale, since it is not judged
abbrev pub flash_ink : List ℕ
flash_ink = codes "fill=\"#f0dcc0\""

-- a shape of a single corner about a point: a line of no length, as an element with this start
abbrev pub shape_dot : List ℕ → GridPoint → GridRounded → List ℕ
shape_dot element at shape =
    path_open element (flash_width shape) ++ (moved_corner (codes "M") at shape.first ++ (moved_corner (codes "L") at shape.first ++ codes "\"/>\n"))

-- a shape about a point: such a line for a single corner, else the path round its corners in this ink
abbrev pub shape_text : List ℕ → List ℕ → GridPoint → GridRounded → List ℕ
shape_text element ink at shape = if length shape.others == 0 then shape_dot element at shape else shape_path ink at shape

-- ---- all parts

-- the element of a line, an arc or a flash; nothing of a contour
abbrev pub line_text : Drawn → List ℕ
line_text (drawn.Line from to width) = line (codes "<path") width from to
line_text (drawn.Arc from to centre width clockwise) = drawn_arc from to centre width clockwise
line_text (drawn.Flash at shape) = shape_text (codes "<path") flash_ink at shape
line_text _ = []

-- a corner of a contour, before its first one these words, or its way along an arc; nothing of what is drawn outside of regions
abbrev pub corner_text : List ℕ → Drawn → List ℕ
corner_text before (drawn.Contour at) = before ++ point (codes "M") at
corner_text before (drawn.Corner at) = point (codes "L") at
corner_text before (drawn.Bend from to centre clockwise) = arc_way from to centre clockwise
corner_text before _ = []

-- the end of the path of a contour, and the start of the path of the next one
abbrev pub next_path : List ℕ
next_path = codes "\"/>\n<path d=\""

-- the start of an element with a box, by its upper left corner and its sides: `<rect class="board" x="1.4" y="-88.6" width="107.2" height="87.2`
unfoldable pub box_start : List ℕ → ℤ → ℤ → ℤ → ℤ → List ℕ
box_start element x y width height =
    element ++ (after (codes " x=\"") x ++ (after (codes "\" y=\"") y ++ (after (codes "\" width=\"") width ++ after (codes "\" height=\"") height)))

-- the start of an element with the box of the board
abbrev pub frame_start : List ℕ → Frame → List ℕ
frame_start element f = box_start element f.left (neg_ℤ f.top) f.width f.height

-- the part of the board that a picture shows, by its box; where that is the box that it fills, nothing is moved or scaled: `" viewBox="1.4 -88.6 107.2 87.2`
unfoldable pub view_box : ℤ → ℤ → ℤ → ℤ → List ℕ
view_box x y width height = after (codes "\" viewBox=\"") x ++ (after (codes " ") y ++ (after (codes " ") width ++ after (codes " ") height))

-- the start of a picture within the panel, in the box of the board, at which what is drawn is cut
abbrev pub cut_at : Frame → List ℕ
cut_at f = frame_start (codes "<svg class=\"drawn\"") f ++ view_box f.left (neg_ℤ f.top) f.width f.height

-- the colours of what is drawn, which is pale, since it is not judged
abbrev pub copper_colours : List ℕ
copper_colours = codes "\" fill=\"none\" stroke=\"#f0dcc0\" stroke-linecap=\"round\"><title>drawn copper, not judged</title>\n"

-- the start of the group of contours, and of a path without a corner
abbrev pub contours_start : List ℕ
contours_start = codes "<g fill=\"#f0dcc0\" fill-rule=\"evenodd\" stroke=\"none\">\n<path d=\""

-- the end of the last path, of the group and of what is drawn
abbrev pub copper_end : List ℕ
copper_end = codes "\"/>\n</g>\n</svg>\n"

-- the lines, arcs and flashes, and the start of the contours
abbrev pub copper_lines : List Drawn → List ℕ
copper_lines parts = (copper_colours ++ flat_map line_text parts) ++ contours_start

-- the contours, each a path of its own, and the end of what is drawn
abbrev pub copper_contours : List Drawn → List ℕ
copper_contours parts = flat_map (corner_text next_path) parts ++ copper_end

-- what is drawn, cut at the box of the board: the lines, arcs and flashes, then the contours, each a path of its own; nothing where nothing is drawn
abbrev pub copper : Frame → List Drawn → List ℕ
copper f parts =
    if length parts == 0 then [] else cut_at f ++ (copper_lines parts ++ copper_contours parts)
