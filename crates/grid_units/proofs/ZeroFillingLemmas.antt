-- Coordinates without a point.
use Rattle.std.proofs.Common.{◌≡◌, ℕ, ◌+◌, ◌-◌, ◌*◌, ◌/◌, ◌^◌, ◌<◌, ◌≤◌, true, false, cond, List, length, replicate, ℤ, Ok, Err, sym, ap, ◌∙◌, arith, lit<}
use Rattle.std.specs.Prelude.{All}
use Rattle.std.proofs.lemmas.List.Elements.{recursion_from_All}
use Rattle.std.proofs.Common.{pow-add, mul-le-mul_right}
use Rattle.std.proofs.Math.Nat.{mul-div_cancel, one-le-pow, pow-le-pow_right}
use Rattle.grid_units.specs.declared.fault.Reason.{Reason}
use Rattle.grid_units.specs.declared.fault.Reason.TheVariants.{BadNumber}
use Rattle.grid_units.specs.declared.zero_filling.Zeros.{Zeros}
use Rattle.grid_units.specs.Results.{◌>>=◌}
use Rattle.grid_units.specs.Numbers.{is_digit, is_digits, value, without_sign, signed_value, to_units, zeros_to_fill, zero_filled, parse_zero_filled}
use Rattle.grid_units.proofs.DigitLemmas.{value-append, value_lt}
use Rattle.grid_units.proofs.SpellingsLemmas.{value-zeros, length-zeros}

scaled : (n d : ℕ) → d ≤ 8 → (n * 10 ^ (8 - d)) * 10 ^ d ≡ n * 10 ^ 8
scaled n d h =
    let eight : (8 - d) + d ≡ 8 = omega arith in
    let p : 10 ^ (8 - d) * 10 ^ d ≡ 10 ^ 8 = sym (pow-add 10 (8 - d) d) ∙ ap (λ k. 10 ^ k) eight in
    let q : n * (10 ^ (8 - d) * 10 ^ d) ≡ n * 10 ^ 8 = ap (λ k. n * k) p in
    omega (arith, q)

-- a number with d decimals, in units of 10^-8
pub scaled_is : (n d : ℕ) → d ≤ 8 → n * 10 ^ (8 - d) ≡ to_units n d
scaled_is n d h = sym (mul-div_cancel (n * 10 ^ (8 - d)) (one-le-pow d 10 (lit< tt))) ∙ ap (λ k. k / 10 ^ d) (scaled n d h)

pub to_units_equation : (n d : ℕ) → d ≤ 8 → to_units n d * 10 ^ d ≡ n * 10 ^ 8
to_units_equation n d h = ap (λ k. k * 10 ^ d) (sym (scaled_is n d h)) ∙ scaled n d h

below : (n p q : ℕ) → n < p → 0 < q → n * q < p * q
below n p q l h = omega (arith, mul-le-mul_right q l)

pub scaled_bound : (n i d : ℕ) → i ≤ 6 → d ≤ 8 → n < 10 ^ (i + d) → n * 10 ^ (8 - d) < 10 ^ 14
scaled_bound n i d hi hd l =
    let b : n * 10 ^ (8 - d) < 10 ^ (i + d) * 10 ^ (8 - d) = below n (10 ^ (i + d)) (10 ^ (8 - d)) l (one-le-pow (8 - d) 10 (lit< tt)) in
    let e : (i + d) + (8 - d) ≡ i + 8 = omega arith in
    let p : 10 ^ (i + d) * 10 ^ (8 - d) ≡ 10 ^ (i + 8) = sym (pow-add 10 (i + d) (8 - d)) ∙ ap (λ k. 10 ^ k) e in
    let m : 10 ^ (i + 8) ≤ 10 ^ 14 = pow-le-pow_right {n = 10} (lit< tt) {i = i + 8} {j = 14} (omega arith) in
    omega (arith, b, p, m)

-- the number that digits spell with zeros after them
pub filled_is : (ds : List ℕ) (k : ℕ) → value ds * 10 ^ k ≡ zero_filled ds k
filled_is ds k =
    let e : zero_filled ds k ≡ value ds * 10 ^ length {A = ℕ} (replicate k 48) + value (replicate k 48) = value-append ds (replicate k 48) in
    let p : 10 ^ length {A = ℕ} (replicate k 48) ≡ 10 ^ k = ap (λ n. 10 ^ n) (length-zeros k) in
    let r : value ds * 10 ^ length {A = ℕ} (replicate k 48) + value (replicate k 48) ≡ value ds * 10 ^ k + 0 = λ i. value ds * p i + value-zeros k i in
    omega (arith, e, r)

pub value_within : (ds : List ℕ) → All (λ b. is_digit b ≡ true) ds → length ds ≤ 12 → value ds < 10 ^ 12
value_within ds h l =
    let lt : value ds < 10 ^ length ds = value_lt ds (recursion_from_All (λ b. is_digit b ≡ true) ds h) in
    let p : 10 ^ length ds ≤ 10 ^ 12 = pow-le-pow_right {n = 10} (lit< tt) {i = length ds} {j = 12} l in
    omega (arith, lt, p)

pub filled_bound : (ds : List ℕ) (k : ℕ) → All (λ b. is_digit b ≡ true) ds → value ds * 10 ^ k < 10 ^ (length ds + k)
filled_bound ds k h =
    let lt : value ds < 10 ^ length ds = value_lt ds (recursion_from_All (λ b. is_digit b ≡ true) ds h) in
    let b : value ds * 10 ^ k < 10 ^ length ds * 10 ^ k = below (value ds) (10 ^ length ds) (10 ^ k) lt (one-le-pow k 10 (lit< tt)) in
    omega (arith, b, pow-add 10 (length ds) k)

pub wide : (i j : ℕ) → i ≤ j → 10 ^ i ≤ 10 ^ j
wide i j h = pow-le-pow_right {n = 10} (lit< tt) {i = i} {j = j} h

-- ---- a coordinate that is read

pub parse_zero_filled_ok : (text : List ℕ) (i d k : ℕ) (zeros : Zeros) (v : ℤ) → is_digits (without_sign text) ≡ true → zeros_to_fill zeros (i + d) (length (without_sign text)) ≡ Ok k → v ≡ signed_value text (to_units (zero_filled (without_sign text) k) d)
    → Ok v ≡ parse_zero_filled text i d zeros
unfolding parse_zero_filled
parse_zero_filled_ok text i d k zeros v ds m e =
    ap (λ (z : ℤ). Ok z) e ∙ sym (λ j. cond (ds j) (m j >>= λ n. Ok (signed_value text (to_units (zero_filled (without_sign text) n) d))) (Err BadNumber))

pub parse_zero_filled_err : (text : List ℕ) (i d : ℕ) (zeros : Zeros) (r : Reason) → is_digits (without_sign text) ≡ true → zeros_to_fill zeros (i + d) (length (without_sign text)) ≡ Err r → Err r ≡ parse_zero_filled text i d zeros
unfolding parse_zero_filled
parse_zero_filled_err text i d zeros r ds m = sym (λ j. cond (ds j) (m j >>= λ n. Ok (signed_value text (to_units (zero_filled (without_sign text) n) d))) (Err BadNumber))

pub parse_zero_filled_bad : (text : List ℕ) (i d : ℕ) (zeros : Zeros) → is_digits (without_sign text) ≡ false → Err BadNumber ≡ parse_zero_filled text i d zeros
unfolding parse_zero_filled
parse_zero_filled_bad text i d zeros ds = sym (λ j. cond (ds j) (zeros_to_fill zeros (i + d) (length (without_sign text)) >>= λ n. Ok (signed_value text (to_units (zero_filled (without_sign text) n) d))) (Err BadNumber))
