-- The pads of a panel: plain ones, and rounded polygons, which are the shapes of macros and the contours (docs/FORMATS.md, Pictures).
use Rattle.std.specs.Prelude.{ℕ, pos, ◌==◌, List, ◌++◌, codes, if◌then◌else◌}
use Rattle.std.specs.List.{flat_map}
use Rattle.grid_units.specs.Points.{GridPoint}
use Rattle.pad_shapes.specs.Rounded.{GridRounded}
use Rattle.pad_shapes.specs.declared.pad.Pad.{Pad}
use Rattle.picture.specs.Copper.{shape_text}
use Rattle.picture.specs.Elements.{pad_paths}

-- the origin of the board: the corners of a pad are measured from there
abbrev pub origin : GridPoint
origin = record { x = pos 0; y = pos 0 }

-- the ink of a pad: the class of pads, and their colour for the line round its corners; a polygon without a radius has no such line
abbrev pub pad_ink : GridRounded → List ℕ
pad_ink pad = if pad.radius == 0 then codes "class=\"pad\"" else codes "class=\"pad\" stroke=\"#d8a35d\""

-- a pad that is a rounded polygon: with a line of twice its radius round its corners it has all points within the radius of the polygon; of a single
-- corner it is a line of no length, whose ends are round
abbrev pub rounded_pad : GridRounded → List ℕ
rounded_pad pad = shape_text (codes "<path class=\"line\"") (pad_ink pad) origin pad

-- all pads: the paths of the plain ones, then an element for each rounded one
unfoldable pub pads_text : List Pad → List GridRounded → List ℕ
pads_text plain rounded = pad_paths plain ++ flat_map rounded_pad rounded
