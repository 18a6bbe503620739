-- What the check keeps of a copper file, and of a drill file whose role says whether its holes are plated.
use Rattle.std.specs.Prelude.{ℕ, Bool, List}
use Rattle.pad_shapes.specs.declared.wide_pad.WidePad.{WidePad}
use Rattle.grid_units.specs.Holes.{GridHole}

-- a layer: its pads in the order of the text; how many of them are flashes and how many contours, of which the strict profile has none; how
-- many flashes are no pads; and whether it is copper: it has no file function, or that of copper
pub record LayerView : Type 0 where
  pub pads : List WidePad
  pub flashed : ℕ
  pub contours : ℕ
  pub other : ℕ
  pub is_copper : Bool

-- a drill file: its holes in the order of the text; and whether its comments contradict its role
pub record DrillView : Type 0 where
  pub holes : List GridHole
  pub contradicted : Bool
