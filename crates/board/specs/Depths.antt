-- How deep points and holes lie in a shape. All lengths are whole picometres.
use Rattle.std.specs.Prelude.{◌≡◌, ◌↔◌, ℕ, ℤ, pos, ◌≤◌, ◌≤ℤ◌, Bool, true}
use Rattle.grid_units.specs.Points.{GridPoint}
use Rattle.grid_units.specs.Holes.{GridHole}
use Rattle.pad_shapes.specs.Shapes.{covers_both_ends}
use Rattle.pad_shapes.specs.declared.pad.Pad.{Pad}
use Rattle.pad_shapes.specs.declared.pad.Pad.TheVariants.{Disc, Rect, Obround}
use Rattle.pad_shapes.specs.declared.wide_pad.WidePad.{WidePad}
use Rattle.pad_shapes.specs.declared.wide_pad.WidePad.TheVariants.{Plain, Rounded}

-- what a shape covers with a reach it covers with each lesser reach
abbrev pub CoversLess : {S : Type 0} → (S → GridPoint → ℕ → Bool) → Type 0
CoversLess {S} covers = (s : S) (c : GridPoint) (less reach : ℕ) → less ≤ reach → covers s c reach ≡ true → covers s c less ≡ true

-- the depth of a point in a shape: it is covered with just the reaches up to the depth; below 0 with none, and the number says no more
abbrev pub IsDepth : {S : Type 0} → (S → GridPoint → ℕ → Bool) → S → GridPoint → ℤ → Type 0
IsDepth covers s c depth = (reach : ℕ) → (covers s c reach ≡ true) ↔ (pos reach ≤ℤ depth)

-- the depth of a hole: both its ends are covered with just the reaches up to the depth, so it is the lesser depth of the two
abbrev pub IsDepthOfHole : {S : Type 0} → (S → GridPoint → ℕ → Bool) → S → GridHole → ℤ → Type 0
IsDepthOfHole covers s h depth = (reach : ℕ) → (covers_both_ends covers s h.from h.to reach ≡ true) ↔ (pos reach ≤ℤ depth)

-- the centre of the shape inside a pad
abbrev pub pad_middle : Pad → GridPoint
pad_middle (Disc d) = d.centre
pad_middle (Rect r) = r.centre
pad_middle (Obround o) = o.centre

-- the centre of the plain pad inside a wide pad, or the first corner of the rounded polygon
abbrev pub wide_pad_middle : WidePad → GridPoint
wide_pad_middle (Plain pad) = pad_middle pad
wide_pad_middle (Rounded rounded) = rounded.first
