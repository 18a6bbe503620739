-- Zones: boxes of points that bound the centres which a shape covers.
use Rattle.std.specs.Prelude.{◌≡◌, ℕ, ◌+◌, ◌≤◌, ◌≤ℤ◌, unsigned_abs, Bool, true, false}
use Rattle.grid_units.specs.Points.{GridPoint}
use Rattle.pad_shapes.specs.Rounded.{GridRounded, rounded_bottom, rounded_left, rounded_right, rounded_top}
use Rattle.pad_shapes.specs.declared.zone.Zone.{Zone}

-- p lies in the zone, its border included
pub record IsInZone (zone : Zone) (p : GridPoint) : Type 0 where
  pub left : zone.left ≤ℤ p.x
  pub right : p.x ≤ℤ zone.right
  pub bottom : zone.bottom ≤ℤ p.y
  pub top : p.y ≤ℤ zone.top

-- each side of a zone lies no further from zero than this
pub record IsWithin (far : ℕ) (zone : Zone) : Type 0 where
  pub left : unsigned_abs zone.left ≤ far
  pub right : unsigned_abs zone.right ≤ far
  pub bottom : unsigned_abs zone.bottom ≤ far
  pub top : unsigned_abs zone.top ≤ far

-- the sides of a zone are the least and the greatest x and y of a rounded polygon
pub record IsBoxOf (r : GridRounded) (zone : Zone) : Type 0 where
  pub left : zone.left ≡ rounded_left r
  pub right : zone.right ≡ rounded_right r
  pub bottom : zone.bottom ≡ rounded_bottom r
  pub top : zone.top ≡ rounded_top r

-- each centre that a shape covers with at least this reach lies in the zone
abbrev pub BoundsCentres : {S : Type 0} → (S → GridPoint → ℕ → Bool) → S → ℕ → Zone → Type 0
BoundsCentres covers s reach zone = (c : GridPoint) (r : ℕ) → reach ≤ r → covers s c r ≡ true → IsInZone zone c

-- a shape covers no centre in the zone with this reach or a greater one
abbrev pub CoversNone : {S : Type 0} → (S → GridPoint → ℕ → Bool) → S → ℕ → Zone → Type 0
CoversNone covers s reach zone = (c : GridPoint) (r : ℕ) → reach ≤ r → IsInZone zone c → covers s c r ≡ false

-- a point at the distances dx and dy from the middle lies so deep in a box that, along each axis, the reach stays inside
pub record IsInset (dx dy reach half_x half_y : ℕ) : Type 0 where
  pub x : dx + reach ≤ half_x
  pub y : dy + reach ≤ half_y
