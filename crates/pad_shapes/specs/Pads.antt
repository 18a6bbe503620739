-- Pads of any shape: each answers as the shape inside it.
use Rattle.std.specs.Prelude.{ℕ, ◌*◌, ℤ, pos, ◌+ℤ◌, ◌-ℤ◌, Bool}
use Rattle.grid_units.specs.Points.{GridPoint}
use Rattle.pad_shapes.specs.Shapes.{IsInDisc, IsInRect, IsInObround, disc_covers, rect_covers, obround_covers}
use Rattle.pad_shapes.specs.declared.pad.Pad.{Pad}
use Rattle.pad_shapes.specs.declared.pad.Pad.TheVariants.{Disc, Rect, Obround}

-- the points of a pad are those of the shape inside it
abbrev pub IsInPad : Pad → GridPoint → Type 0
IsInPad (Disc d) p = IsInDisc d p
IsInPad (Rect r) p = IsInRect r p
IsInPad (Obround o) p = IsInObround o p

-- a pad covers what the shape inside it covers
abbrev pub pad_covers : Pad → GridPoint → ℕ → Bool
pad_covers (Disc d) c reach = disc_covers d c reach
pad_covers (Rect r) c reach = rect_covers r c reach
pad_covers (Obround o) c reach = obround_covers o c reach

-- the least x of a pad, in pm
abbrev pub pad_left : Pad → ℤ
pad_left (Disc d) = d.centre.x -ℤ pos d.radius
pad_left (Rect r) = r.centre.x -ℤ pos r.half_x
pad_left (Obround o) = o.centre.x -ℤ pos o.half_x

-- the greatest x of a pad, in pm
abbrev pub pad_right : Pad → ℤ
pad_right (Disc d) = d.centre.x +ℤ pos d.radius
pad_right (Rect r) = r.centre.x +ℤ pos r.half_x
pad_right (Obround o) = o.centre.x +ℤ pos o.half_x

-- the side of a pad along x, in pm; of a disc its diameter
abbrev pub pad_width : Pad → ℕ
pad_width (Disc d) = 2 * d.radius
pad_width (Rect r) = 2 * r.half_x
pad_width (Obround o) = 2 * o.half_x

-- the side of a pad along y, in pm; of a disc its diameter
abbrev pub pad_height : Pad → ℕ
pad_height (Disc d) = 2 * d.radius
pad_height (Rect r) = 2 * r.half_y
pad_height (Obround o) = 2 * o.half_y
