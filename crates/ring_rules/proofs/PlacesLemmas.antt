-- Places along an axis rise with the coordinates.
use Rattle.ring_rules.proofs.Common.{ℕ, ℤ, ◌/◌, ◌^◌, ◌<◌, ◌≤◌, ◌-ℤ◌, ◌≤ℤ◌, arith, ints, positive_part, steps_above, place_of, Axis}
use Rattle.std.proofs.lemmas.Nat.{le-div, pow_pos}
use Rattle.std.proofs.Math.Nat.{div-mul-le_self}
use Rattle.ring_rules.proofs.CoreLemmas.{positive_part_is}

div-le-div : (m n k : ℕ) → 0 < k → m ≤ n → m / k ≤ n / k
div-le-div m n k h less = le-div (m / k) n k h (let q = div-mul-le_self m k in omega (arith, q, less))

part-le : (low v w : ℤ) → v ≤ℤ w → positive_part (v -ℤ low) ≤ positive_part (w -ℤ low)
part-le low v w h = omega (arith, ints, positive_part_is (v -ℤ low), positive_part_is (w -ℤ low))

pub steps-le : (low : ℤ) (shift : ℕ) (v w : ℤ) → v ≤ℤ w → steps_above low shift v ≤ steps_above low shift w
steps-le low shift v w h = div-le-div (positive_part (v -ℤ low)) (positive_part (w -ℤ low)) (2 ^ shift) (pow_pos shift) (part-le low v w h)

pub place-le : (s : Axis) (v w : ℤ) → v ≤ℤ w → place_of s v ≤ place_of s w
place-le s v w h = let steps = steps-le s.low s.shift v w h in omega (arith, steps)
