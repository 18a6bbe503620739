-- How far from a hole the entry point of one may lie that is not clear of it.
use Rattle.ring_rules.proofs.Common.{subst, ◌≡◌, ℕ, ℤ, pos, ◌+◌, ◌<◌, ◌≤◌, inl, inr, ◌+ℤ◌, ◌-ℤ◌, ◌≤ℤ◌, false, arith, int_min, int_max, ints, clamps, to_z-of_z, cases_lt, nat_tests, IsCoordinate, abs_diff, square, GridHole, positive_part, range_distance, square_of_cores, are_clear, AreNearer, AreWithin}
use mir.Syntax.{w64}
use mir.Val.{to_z, of_z}
use Rattle.ring_rules.proofs.CoreLemmas.{positive_part_is}
use Rattle.pad_shapes.proofs.ZonesLemmas.{squares-le}

pub below_square : (a b n : ℕ) → square a + square b < square n → a < n
below_square a b n h = elim (cases_lt a n) [
  | inl less ↦ less
  | inr more ↦ absurd (let s = squares-le n a more in omega (arith, s, h))
]

-- holes that are not clear for a gap are nearer
pub near_from_test : (gap : ℕ) (a b : GridHole) → are_clear gap a b ≡ false → AreNearer (pos gap) a b
near_from_test gap a b e =
    let h : square_of_cores a b < square (a.radius + b.radius + gap) = grind (arith, nat_tests) in
    let x = below_square (range_distance a.from.x a.to.x b.from.x b.to.x) (range_distance a.from.y a.to.y b.from.y b.to.y) (a.radius + b.radius + gap) h in
    let y = below_square (range_distance a.from.y a.to.y b.from.y b.to.y) (range_distance a.from.x a.to.x b.from.x b.to.x) (a.radius + b.radius + gap) (omega (arith, h)) in
    record { x = omega (arith, ints, x); y = omega (arith, ints, y) }

-- a range that ends less than so far before another one starts no more than its own length further away
pub starts_near : (a b c d : ℤ) (far margin : ℕ) → range_distance a b c d < far → far + abs_diff a b ≤ margin → ((int_min c d -ℤ pos margin) ≤ℤ a) × (a ≤ℤ (int_max c d +ℤ pos margin))
starts_near a b c d far margin near fits = (low (int_min c d) a b far margin (omega (arith, near)) fits, high (int_max c d) a b far margin (omega (arith, near)) fits) where
  low : (l a b : ℤ) (far margin : ℕ) → positive_part (l -ℤ int_max a b) < far → far + abs_diff a b ≤ margin → (l -ℤ pos margin) ≤ℤ a
  low l a b far margin h k = omega (arith, ints, clamps, positive_part_is (l -ℤ int_max a b))

  high : (g a b : ℤ) (far margin : ℕ) → positive_part (int_min a b -ℤ g) < far → far + abs_diff a b ≤ margin → a ≤ℤ (g +ℤ pos margin)
  high g a b far margin h k = omega (arith, ints, clamps, positive_part_is (int_min a b -ℤ g))

-- no core is nearer than nothing
pub none_within : (gap far : ℤ) (a b : GridHole) → (pos (a.radius + b.radius) +ℤ gap) ≤ℤ far → far ≤ℤ pos 0 → AreNearer gap a b → ⊥
none_within gap far a b most none near = let x = near.x in omega (arith, ints, x, most, none)

-- what is nearer than a gap is so with the most that it comes to
pub all_within : (gap far : ℤ) (n : ℕ) (a b : GridHole) → (pos (a.radius + b.radius) +ℤ gap) ≤ℤ far → far ≤ℤ pos n → AreNearer gap a b → AreWithin n a b
all_within gap far n a b most is near = let x = near.x in let y = near.y in record { x = omega (arith, ints, x, most, is); y = omega (arith, ints, y, most, is) }

-- a coordinate as a call passes it on
pub passed_is : (z : ℤ) → IsCoordinate z → to_z w64 (of_z w64 z) ≡ z
passed_is z h = to_z-of_z w64 z (omega (arith, ints))

-- what holds of a gap holds of it as a call passes it on
pub passed_on : (P : ℤ → Type 0) (z : ℤ) (n : ℕ) → n ≤ 10000000000000 → z ≡ pos n → P (pos n) → P (to_z w64 (of_z w64 z))
passed_on P z n fits is h = subst P (let e : pos n ≡ to_z w64 (of_z w64 z) = omega (arith, ints) in e) h
