-- The outline of the board, in a picture: what a file of the board's edge draws (docs/FORMATS.md, Pictures). Lengths are whole pm, printed in mm without
-- zeros at the end; y grows downwards.
use Rattle.std.specs.Prelude.{ℕ, ℤ, pos, ◌/◌, ◌==◌, Bool, false, List, [], ◌++◌, length, codes, Option, None, Some, if◌then◌else◌}
use Rattle.std.specs.List.{flat_map}
use Rattle.grid_units.specs.Points.{GridPoint}
use Rattle.pad_shapes.specs.declared.drawn.Drawn.{Drawn}
use Rattle.pad_shapes.specs.declared.drawn.Drawn.TheVariants as drawn
use Rattle.picture.specs.Copper.{arc_radius, corner_text, edge_arc, is_large}
use Rattle.picture.specs.Elements.{after, edge}
use Rattle.picture.specs.Scenes.{shown_copper}
use Rattle.picture.specs.declared.frame.Pen.{Pen}

-- what is shown of the parts of an outline: all of them, or nothing where they are more than 100,000
abbrev pub shown_outline : List Drawn → List Drawn
shown_outline parts = shown_copper false parts

-- ---- how far an arc reaches

-- the radius of an arc that is half a circle or longer; none of a shorter one, whose way back in the same direction is longer than half a circle
abbrev pub long_radius : GridPoint → GridPoint → GridPoint → Bool → Option ℕ
long_radius from to centre clockwise = if is_large to from centre clockwise then None else Some (arc_radius from centre)

-- ---- the parts

-- a line or an arc as a part of a path: `M1 -2L3 -4`; nothing of a flash or a contour
abbrev pub edge_text : Drawn → List ℕ
edge_text (drawn.Line from to width) = edge from to
edge_text (drawn.Arc from to centre width clockwise) = edge_arc from to centre clockwise
edge_text (drawn.Flash at shape) = []
edge_text (drawn.Contour at) = []
edge_text (drawn.Corner at) = []
edge_text (drawn.Bend from to centre clockwise) = []

-- ---- the outline

-- the start of its group, by the width of its lines, then the start of the path of its lines and arcs, and these
unfoldable pub outline_start : ℤ → List ℕ → List ℕ
outline_start width edges =
    after (codes "<g class=\"outline\" fill=\"none\" stroke=\"#222\" stroke-width=\"") width ++ (codes "\"><title>outline</title>\n<path stroke-linecap=\"round\" d=\"" ++ edges)

-- the end of that path, and the start of the path of its contours: a contour without extent, which is not seen
abbrev pub contours_begin : List ℕ
contours_begin = codes "\"/>\n<path stroke-linejoin=\"round\" d=\"M0 0"

-- the end of the last contour, which is closed, and of the group
abbrev pub outline_end : List ℕ
outline_end = codes "z\"/>\n</g>\n"

-- the start of the group, and the lines and arcs, as one path, whose width, whatever the file says, is a tenth of a unit
abbrev pub edge_path : Pen → List Drawn → List ℕ
edge_path pen parts = outline_start (pos (pen.unit / 10)) (flat_map edge_text parts)

-- the contours, as one path in which each is closed before the next one begins, `zM1 -2`, and the end of the group
abbrev pub contour_path : List Drawn → List ℕ
contour_path parts = (contours_begin ++ flat_map (corner_text (codes "z")) parts) ++ outline_end

-- the outline: the lines and arcs, then the contours, which are closed and not filled; nothing where there is no part
unfoldable pub outline_text : Pen → List Drawn → List ℕ
outline_text pen parts = if length parts == 0 then [] else edge_path pen parts ++ contour_path parts
