-- Holes at any angle: which of them a shape covers, and which it holds. Lengths are whole picometres.
use Rattle.std.specs.Prelude.{◌≡◌, ℕ, pos, ◌+◌, ◌*◌, ◌≤◌, ◌+ℤ◌, ◌-ℤ◌, ◌*ℤ◌, Bool, true}
use Rattle.grid_units.specs.Laws.{square_length}
use Rattle.grid_units.specs.Points.{GridPoint, square}
use Rattle.grid_units.specs.Holes.{GridHole}
use Rattle.pad_shapes.specs.Shapes.{covers_both_ends}

-- p is no further than the reach from some point of a hole's centre line, the straight line from one end to the other. That point is a mean of
-- the two ends, each counted as often as it takes, so its coordinates are rational; a round hole has its centre alone. Both sides are taken times
-- how often the ends count together.
pub record IsNearCentreLine (h : GridHole) (reach : ℕ) (p : GridPoint) : Type 0 where
  pub first : ℕ
  pub second : ℕ
  pub some : 1 ≤ first + second
  pub near : square_length (pos (first + second) *ℤ p.x -ℤ (pos first *ℤ h.from.x +ℤ pos second *ℤ h.to.x)) (pos (first + second) *ℤ p.y -ℤ (pos first *ℤ h.from.y +ℤ pos second *ℤ h.to.y)) ≤ square ((first + second) * reach)

-- a set of points holds a hole with its ring: it has each grid point that is no further from the centre line than the radius and the ring
abbrev pub HoldsHole : (GridPoint → Type 0) → ℕ → GridHole → Type 0
HoldsHole points ring h = (p : GridPoint) → IsNearCentreLine h (h.radius + ring) p → points p

-- a shape covers a hole with its ring: it covers both ends, which are one point where the hole is round
abbrev pub covers_hole : {S : Type 0} → (S → GridPoint → ℕ → Bool) → ℕ → GridHole → S → Bool
covers_hole covers ring h s = covers_both_ends covers s h.from h.to (h.radius + ring)

-- a shape holds each hole that it covers, at whatever angle
abbrev pub HoldsCoveredHoles : {S : Type 0} → (S → GridPoint → Type 0) → (S → GridPoint → ℕ → Bool) → Type 0
HoldsCoveredHoles {S} points covers =
    (s : S) (ring : ℕ) (h : GridHole) → covers_hole covers ring h s ≡ true → HoldsHole (points s) ring h
