-- What the definitions of holes at any angle say of round holes and of slots along an axis. Lengths are whole picometres.
use Rattle.std.specs.Prelude.{◌≡◌, ◌↔◌, ℕ, ◌+◌, ◌≤◌, Bool}
use Rattle.grid_units.specs.Points.{GridPoint, square, square_distance}
use Rattle.grid_units.specs.Holes.{GridHole, IsInCore}
use Rattle.pad_shapes.specs.Shapes.{IsAxisAligned, covers_both_ends}
use Rattle.pad_shapes.specs.Rounded.{IsInSlot}
use Rattle.pad_shapes.specs.Holding.{IsNearCentreLine, HoldsHole, covers_hole}

-- a round hole is covered just where its centre is
abbrev pub CoversRoundHoles : {S : Type 0} → (S → GridPoint → ℕ → Bool) → Type 0
CoversRoundHoles {S} covers =
    (s : S) (ring : ℕ) (h : GridHole) → h.from ≡ h.to → covers_hole covers ring h s ≡ covers s h.from (h.radius + ring)

-- a round hole is held just where the shape has each grid point that is no further from its centre than the radius and the ring
abbrev pub HoldsRoundHoles : {S : Type 0} → (S → GridPoint → Type 0) → Type 0
HoldsRoundHoles {S} points =
    (s : S) (ring : ℕ) (h : GridHole) → h.from ≡ h.to → HoldsHole (points s) ring h ↔ ((p : GridPoint) → square_distance p h.from ≤ square (h.radius + ring) → points s p)

-- a slot along an axis is covered just where `covers_slot` says so
abbrev pub CoversSlotsAlongAxes : {S : Type 0} → (S → GridPoint → ℕ → Bool) → Type 0
CoversSlotsAlongAxes {S} covers =
    (s : S) (ring : ℕ) (h : GridHole) → IsAxisAligned h.from h.to → covers_hole covers ring h s ≡ covers_both_ends covers s h.from h.to (h.radius + ring)

-- a slot along an axis is held just where the shape has each grid point that is no further from a grid point of its core than the radius and the ring
abbrev pub HoldsSlotsAlongAxes : {S : Type 0} → (S → GridPoint → Type 0) → Type 0
HoldsSlotsAlongAxes {S} points =
    (s : S) (ring : ℕ) (h : GridHole) → IsAxisAligned h.from h.to → HoldsHole (points s) ring h ↔ ((c p : GridPoint) → IsInCore h c → square_distance p c ≤ square (h.radius + ring) → points s p)

-- the points near the centre line of a hole are those of the slot from end to end, which are near means of the two ends
abbrev pub CentreLineIsSlot : Type 0
CentreLineIsSlot = (h : GridHole) (reach : ℕ) (p : GridPoint) → IsNearCentreLine h reach p ↔ IsInSlot h.from h.to reach p
