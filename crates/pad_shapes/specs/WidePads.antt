-- Pads of the wide profile: each answers as the pad inside it.
use Rattle.std.specs.Prelude.{ℕ, ℤ, Bool}
use Rattle.grid_units.specs.Points.{GridPoint}
use Rattle.pad_shapes.specs.Pads.{IsInPad, pad_covers, pad_left, pad_right}
use Rattle.pad_shapes.specs.Rounded.{IsInRounded, rounded_covers, rounded_left, rounded_right}
use Rattle.pad_shapes.specs.declared.wide_pad.WidePad.{WidePad}
use Rattle.pad_shapes.specs.declared.wide_pad.WidePad.TheVariants.{Plain, Rounded}

-- the points of a wide pad are those of the pad inside it
abbrev pub IsInWidePad : WidePad → GridPoint → Type 0
IsInWidePad (Plain pad) p = IsInPad pad p
IsInWidePad (Rounded rounded) p = IsInRounded rounded p

-- a wide pad covers what the pad inside it covers
abbrev pub wide_pad_covers : WidePad → GridPoint → ℕ → Bool
wide_pad_covers (Plain pad) c reach = pad_covers pad c reach
wide_pad_covers (Rounded rounded) c reach = rounded_covers rounded c reach

-- the least x of a wide pad, in pm
abbrev pub wide_pad_left : WidePad → ℤ
wide_pad_left (Plain pad) = pad_left pad
wide_pad_left (Rounded rounded) = rounded_left rounded

-- the greatest x of a wide pad, in pm
abbrev pub wide_pad_right : WidePad → ℤ
wide_pad_right (Plain pad) = pad_right pad
wide_pad_right (Rounded rounded) = rounded_right rounded
