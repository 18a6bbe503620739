-- The rows of a layer: its flashes and contours without their pads.
use Rattle.std.specs.Prelude.{Bool, true, false}
use Rattle.pad_shapes.specs.declared.row.RowKind.{RowKind}
use Rattle.pad_shapes.specs.declared.row.RowKind.TheVariants as row

-- a row is that of a pad
abbrev pub is_pad_row : RowKind → Bool
is_pad_row row.Pad = true
is_pad_row row.Contour = true
is_pad_row _ = false
