-- Which holes are near a hole, and lengths that no hole of a list exceeds. All lengths are whole picometres.
use Rattle.std.specs.Prelude.{ℕ, ℤ, pos, neg_ℤ, ◌+◌, ◌<◌, ◌≤◌, ◌+ℤ◌, ◌<ℤ◌, ◌≤ℤ◌, max, List, length}
use Rattle.grid_units.specs.Points.{abs_diff}
use Rattle.grid_units.specs.Holes.{GridHole}
use Rattle.ring_rules.specs.Cores.{range_distance}
use Rattle.ring_rules.specs.Places.{hole_at}
use Rattle.ring_rules.specs.declared.finding.Drilled.{Drilled}
use Rattle.ring_rules.specs.declared.limits.Limits.{Limits}

-- the longer side of a hole's core: the length of a slot along an axis, 0 of a round hole
abbrev pub length_of : GridHole → ℕ
length_of h = max (abs_diff h.from.x h.to.x) (abs_diff h.from.y h.to.y)

-- the radius of a hole, or the longer side of its core where that is more
abbrev pub size_of : GridHole → ℕ
size_of h = max h.radius (length_of h)

-- a hole exceeds none of these limits: its radius, and the length of its core along each axis
pub record IsWithinLimits (limits : Limits) (h : GridHole) : Type 0 where
  pub radius : h.radius ≤ limits.radius
  pub x : abs_diff h.from.x h.to.x ≤ limits.x
  pub y : abs_diff h.from.y h.to.y ≤ limits.y

-- no hole of a list exceeds these limits
abbrev pub AreLimits : List Drilled → Limits → Type 0
AreLimits holes limits = (k : ℕ) → k < length holes → IsWithinLimits limits (hole_at holes k)

-- a gap that near holes are looked for within: from -10 m, of two overlapping holes of radius 5 m, to 40 m
abbrev pub IsGapBound : ℤ → Type 0
IsGapBound gap = (neg_ℤ (pos 10000000000000) ≤ℤ gap) × (gap ≤ℤ pos 40000000000000)

-- Along each axis the cores of two holes are nearer than both radii and a gap together. So are those of any two holes with less than that gap.
pub record AreNearer (gap : ℤ) (a b : GridHole) : Type 0 where
  pub x : pos (range_distance a.from.x a.to.x b.from.x b.to.x) <ℤ (pos (a.radius + b.radius) +ℤ gap)
  pub y : pos (range_distance a.from.y a.to.y b.from.y b.to.y) <ℤ (pos (a.radius + b.radius) +ℤ gap)

-- along each axis the cores of two holes are nearer than this
pub record AreWithin (far : ℕ) (a b : GridHole) : Type 0 where
  pub x : range_distance a.from.x a.to.x b.from.x b.to.x < far
  pub y : range_distance a.from.y a.to.y b.from.y b.to.y < far
