-- Sums and steps of coordinates, within 128 bits.
use Rattle.layer_state.proofs.Common.{◌≡◌, ℕ, ◌*◌, ◌^◌, ◌≤◌, ◌<◌, ℤ, pos, ◌+ℤ◌, ◌*ℤ◌, unsigned_abs, FitsSigned, ap, ◌∙◌, arith, to_z, of_z, mul-le-mul, lit<, ints, fits_signed_mul, unsigned_abs-mul, to_z-of_z, back_128, w128, w64, Option, unwrap_or}

-- so many steps, as the code forms them
pub steps : (a step : ℤ) (count : ℕ) → a ≡ pos count → count < 2 ^ 32 → unsigned_abs step ≤ 2 ^ 71 → to_z w128 (of_z w128 a) *ℤ to_z w128 (of_z w128 step) ≡ pos count *ℤ step
steps a step count e few short = λ i. (ap (λ z. to_z w128 (of_z w128 z)) e ∙ to_z-of_z w128 (pos count) (omega (arith, ints))) i *ℤ back_128 step (omega arith) i

pub steps_fit : (count : ℕ) (step : ℤ) → count < 2 ^ 32 → unsigned_abs step ≤ 2 ^ 71 → FitsSigned w128 (pos count *ℤ step)
steps_fit count step few short = fits_signed_mul w128 (pos count) step (2 ^ 32) (2 ^ 71) (omega (arith, ints)) short (lit< tt)

steps_bound : (count : ℕ) (step : ℤ) → count < 2 ^ 32 → unsigned_abs step ≤ 2 ^ 71 → unsigned_abs (pos count *ℤ step) ≤ 2 ^ 103
steps_bound count step few short =
    let few_or_equal : count ≤ 2 ^ 32 = omega arith in
    let p : count * unsigned_abs step ≤ 2 ^ 32 * 2 ^ 71 = mul-le-mul few_or_equal short in
    rw unsigned_abs-mul (omega arith)

small_sum_fits : (a b : ℤ) → unsigned_abs a ≤ 2 ^ 98 → unsigned_abs b ≤ 2 ^ 103 → FitsSigned w128 (a +ℤ b)
small_sum_fits a b h l = omega (arith, ints)

pub stepped_fits : (start step : ℤ) (count : ℕ) → unsigned_abs start ≤ 2 ^ 98 → count < 2 ^ 32 → unsigned_abs step ≤ 2 ^ 71 → FitsSigned w128 (start +ℤ pos count *ℤ step)
stepped_fits start step count near few short = small_sum_fits start _ near (steps_bound count step few short)

-- a start moved by so many steps, as the code forms it
pub stepped : (start a step : ℤ) (count : ℕ) → a ≡ pos count → unsigned_abs start ≤ 2 ^ 98 → count < 2 ^ 32 → unsigned_abs step ≤ 2 ^ 71 → to_z w128 (of_z w128 start) +ℤ to_z w128 (of_z w128 (to_z w128 (of_z w128 a) *ℤ to_z w128 (of_z w128 step))) ≡ start +ℤ pos count *ℤ step
stepped start a step count e near few short = λ i. back_128 start near i +ℤ (ap (λ z. to_z w128 (of_z w128 z)) (steps a step count e few short) ∙ to_z-of_z w128 _ (steps_fit count step few short)) i

-- a coordinate that is named, else the last one, as the code has it
pub named : (o : Option ℤ) (r x : ℤ) → FitsSigned w64 r → FitsSigned w64 x → r ≡ unwrap_or o (to_z w64 (of_z w64 x)) → to_z w64 (of_z w64 r) ≡ unwrap_or o x
named o r x f g h = to_z-of_z w64 r f ∙ h ∙ ap (unwrap_or o) (to_z-of_z w64 x g)
