-- Lengths in picometres: exact, and within 128 bits.
use Rattle.std.proofs.Common.{◌≡◌, ℕ, ◌*◌, ◌^◌, ◌≤◌, ◌/◌, zero, suc, ℤ, pos, ◌*ℤ◌, unsigned_abs, FitsSigned, Result, Ok, Err, IfOk, Bool, true, false, cond, refl, sym, ap, subst, ◌∙◌, arith, to_z, of_z, mul-le-mul, lit<}
use Rattle.std.proofs.lemmas.Int.{ints, fits_signed_mul, unsigned_abs-mul, to_z-of_z}
use Rattle.std.proofs.Math.Nat.{div-le_self}
use Rattle.grid_units.specs.Numbers.{unit_length, picometres, within_limit, is_too_far}
use Rattle.grid_units.specs.declared.fault.Reason.{Reason}
use Rattle.grid_units.specs.declared.fault.Reason.TheVariants.{TooFar}
use Rattle.grid_units.specs.declared.lengths.Unit.{Unit as Units}
use Rattle.grid_units.specs.declared.lengths.Unit.TheVariants.{Inch, Millimetre}
use mir.Syntax.{w128, w64}

-- no digit of a length is lost
pub exact : (unit : Units) (decimals : ℕ) (n : ℤ) → decimals ≤ 8 → picometres unit decimals n *ℤ pos (10 ^ decimals) ≡ n *ℤ pos (unit_length unit)
exact Inch zero n h = omega (arith, ints)
exact Inch (suc zero) n h = omega (arith, ints)
exact Inch (suc (suc zero)) n h = omega (arith, ints)
exact Inch (suc (suc (suc zero))) n h = omega (arith, ints)
exact Inch (suc (suc (suc (suc zero)))) n h = omega (arith, ints)
exact Inch (suc (suc (suc (suc (suc zero))))) n h = omega (arith, ints)
exact Inch (suc (suc (suc (suc (suc (suc zero)))))) n h = omega (arith, ints)
exact Inch (suc (suc (suc (suc (suc (suc (suc zero))))))) n h = omega (arith, ints)
exact Inch (suc (suc (suc (suc (suc (suc (suc (suc zero)))))))) n h = omega (arith, ints)
exact Inch (suc (suc (suc (suc (suc (suc (suc (suc (suc d))))))))) n h = absurd (omega arith)
exact Millimetre zero n h = omega (arith, ints)
exact Millimetre (suc zero) n h = omega (arith, ints)
exact Millimetre (suc (suc zero)) n h = omega (arith, ints)
exact Millimetre (suc (suc (suc zero))) n h = omega (arith, ints)
exact Millimetre (suc (suc (suc (suc zero)))) n h = omega (arith, ints)
exact Millimetre (suc (suc (suc (suc (suc zero))))) n h = omega (arith, ints)
exact Millimetre (suc (suc (suc (suc (suc (suc zero)))))) n h = omega (arith, ints)
exact Millimetre (suc (suc (suc (suc (suc (suc (suc zero))))))) n h = omega (arith, ints)
exact Millimetre (suc (suc (suc (suc (suc (suc (suc (suc zero)))))))) n h = omega (arith, ints)
exact Millimetre (suc (suc (suc (suc (suc (suc (suc (suc (suc d))))))))) n h = absurd (omega arith)

-- what a length within the limit is
pub limited : (z : ℤ) (r : Result ℤ Reason) → r ≡ within_limit z → IfOk r (λ p. p ≡ z)
unfolding within_limit
limited z r e = subst (λ (x : Result ℤ Reason). IfOk x (λ p. p ≡ z)) (sym e) (by (is_too_far z))
  where
    by : (t : Bool) → IfOk (cond t (Err TooFar) (Ok z)) (λ p. p ≡ z)
    by true = tt
    by false = refl

-- so it solves the equation that the length does
pub solves : (z : ℤ) (m : ℕ) (y : ℤ) (r : Result ℤ Reason) → r ≡ within_limit z → z *ℤ pos m ≡ y → IfOk r (λ p. p *ℤ pos m ≡ y)
unfolding within_limit
solves z m y r e h = subst (λ (x : Result ℤ Reason). IfOk x (λ p. p *ℤ pos m ≡ y)) (sym e) (by (is_too_far z))
  where
    by : (t : Bool) → IfOk (cond t (Err TooFar) (Ok z)) (λ p. p *ℤ pos m ≡ y)
    by true = tt
    by false = h

-- a decimal's length is twice a whole number of pm
halved : (unit : Units) (n : ℤ) → (half : ℤ) × (picometres unit 8 n ≡ half *ℤ pos 2)
halved Inch n = (n *ℤ pos 127, omega (arith, ints))
halved Millimetre n = (n *ℤ pos 5, omega (arith, ints))

pub even : (unit : Units) (n : ℤ) (r : Result ℤ Reason) → r ≡ within_limit (picometres unit 8 n) → IfOk r (λ p. (half : ℤ) × (p ≡ half *ℤ pos 2))
unfolding within_limit
even unit n r e = subst (λ (x : Result ℤ Reason). IfOk x (λ p. (half : ℤ) × (p ≡ half *ℤ pos 2))) (sym e) (by (is_too_far (picometres unit 8 n)))
  where
    by : (t : Bool) → IfOk (cond t (Err TooFar) (Ok (picometres unit 8 n))) (λ p. (half : ℤ) × (p ≡ half *ℤ pos 2))
    by true = tt
    by false = halved unit n

pub product_fits : (n : ℤ) (q : ℕ) → FitsSigned w64 n → q ≤ 25400000000 → FitsSigned w128 (n *ℤ pos q)
product_fits n q h l = fits_signed_mul w128 n (pos q) (2 ^ 63) 25400000000 (omega (arith, ints)) l (lit< tt)

pub product_bound : (n : ℤ) (q : ℕ) → FitsSigned w64 n → q ≤ 25400000000 → unsigned_abs (n *ℤ pos q) ≤ 2 ^ 98
product_bound n q h l =
    let m : unsigned_abs n ≤ 2 ^ 63 = omega (arith, ints) in
    let p : unsigned_abs n * q ≤ 2 ^ 63 * 25400000000 = mul-le-mul m l in
    rw unsigned_abs-mul (omega arith)

in_128 : (z : ℤ) → FitsSigned w64 z → to_z w128 (of_z w128 z) ≡ z
in_128 z h = to_z-of_z w128 z (omega (arith, ints))

pub factors : (n a b : ℤ) (q : ℕ) → FitsSigned w64 n → q ≤ 25400000000 → a ≡ n → b ≡ pos q → to_z w128 (of_z w128 a) *ℤ to_z w128 (of_z w128 b) ≡ n *ℤ pos q
factors n a b q h l e f = λ i. (ap (λ z. to_z w128 (of_z w128 z)) e ∙ in_128 n h) i *ℤ (ap (λ z. to_z w128 (of_z w128 z)) f ∙ in_128 (pos q) (omega (arith, ints))) i

pub quotient_small : (unit : Units) (u p : ℕ) → u ≡ unit_length unit → u / p ≤ 25400000000
quotient_small Inch u p e = omega (arith, div-le_self u p)
quotient_small Millimetre u p e = omega (arith, div-le_self u p)

-- what is within 2 ^ 98 comes back from 128 bits
pub back_128 : (z : ℤ) → unsigned_abs z ≤ 2 ^ 98 → to_z w128 (of_z w128 z) ≡ z
back_128 z h = to_z-of_z w128 z (omega (arith, ints))
