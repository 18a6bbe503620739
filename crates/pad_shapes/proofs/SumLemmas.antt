-- The sum of an offset of at most 2^104 in absolute value and a number of 64 bits, within 128 bits.
use Rattle.std.proofs.Common.{◌≡◌, ◌^◌, ◌≤◌, ◌+ℤ◌, ℤ, unsigned_abs, FitsSigned, ap, ◌∙◌, to_z, of_z, arith}
use Rattle.std.proofs.lemmas.Int.{ints, to_z-of_z}
use mir.Syntax.{w64, w128}

pub sum_fits : (offset n : ℤ) → unsigned_abs offset ≤ 2 ^ 104 → FitsSigned w64 n → FitsSigned w128 (offset +ℤ n)
sum_fits offset n near fits = omega (arith, ints)

-- a number of 64 bits that is read as one of 128
widened : (n m : ℤ) → FitsSigned w64 n → m ≡ to_z w64 (of_z w64 n) → to_z w128 (of_z w128 m) ≡ n
widened n m fits e = ap (λ z. to_z w128 (of_z w128 z)) (e ∙ to_z-of_z w64 n fits) ∙ to_z-of_z w128 n (omega (arith, ints))

-- the sum, as the code forms it
pub sum : (offset n m : ℤ) → FitsSigned w128 offset → FitsSigned w64 n → m ≡ to_z w64 (of_z w64 n) → to_z w128 (of_z w128 offset) +ℤ to_z w128 (of_z w128 m) ≡ offset +ℤ n
sum offset n m wide fits e = λ i. to_z-of_z w128 offset wide i +ℤ widened n m fits e i
