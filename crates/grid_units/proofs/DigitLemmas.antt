-- The value of runs of digits in a row.
use Rattle.std.proofs.Common.{◌≡◌, ℕ, zero, suc, ◌+◌, ◌-◌, ◌*◌, ◌^◌, ◌<◌, ◌≤◌, Bool, true, false, not, cond, eqb, ◌&&◌, List, [], ◌∷◌, ◌++◌, length, take, drop, ℤ, pos, ◌*ℤ◌, Ok, Err, refl, sym, ap, ◌∙◌, arith, add-zero, mul-le-mul_right, zero-mul, ltb, lit<, ◌/◌}
use Rattle.std.specs.Prelude.{neg_ℤ, All}
use Rattle.std.specs.List.{fold, list_all, AllByRecursion}
use Rattle.std.proofs.lemmas.Bool.{eqb-true, false≢true}
use Rattle.std.proofs.lemmas.Bool.Decides.{nat_tests}
use Rattle.std.proofs.lemmas.List.{length-append, length-take, take-append-drop}
use Rattle.std.proofs.lemmas.List.Sums.{fold-append}
use Rattle.std.proofs.Math.Nat.{pow-suc, mul-div_cancel, one-le-pow, pow-le-pow_right}
use Rattle.std.proofs.Math.IntN.{pos-*ℤ-pos}
use Rattle.std.proofs.lemmas.List.Elements.{recursion_from_All}
use Rattle.std.proofs.Common.{pow-add}
use Rattle.grid_units.specs.declared.fault.Reason.TheVariants.{BadNumber, TooFine, TooFar}
use Rattle.grid_units.specs.Numbers.{is_digit, is_digits, value, fits_eight_decimals, to_units, signed_value, is_negative, whole, fraction, is_decimal, value_without_point, parse_decimal}
use Rattle.grid_units.proofs.BoolLemmas.{both_true}

mul_regroup : (n d p v q : ℕ) → q ≡ p * 10 → (n * 10 + d) * p + v ≡ n * q + ((0 * 10 + d) * p + v)
mul_regroup n d p v q e = rw e (omega arith)

shift : (n : ℕ) (ds : List ℕ) → fold (λ m b. m * 10 + (b - 48)) n ds ≡ n * 10 ^ length ds + value ds
shift n [] = omega arith
shift n (d ∷ ds) =
    let one = shift (n * 10 + (d - 48)) ds in
    let two = shift (0 * 10 + (d - 48)) ds in
    let p : 10 ^ suc (length ds) ≡ 10 ^ length ds * 10 = pow-suc 10 (length ds) in
    one ∙ (mul_regroup n (d - 48) (10 ^ length ds) (value ds) (10 ^ suc (length ds)) p ∙ ap (λ v. n * 10 ^ suc (length ds) + v) (sym two))

pub value-append : (a b : List ℕ) → value (a ++ b) ≡ value a * 10 ^ length b + value b
value-append a b = fold-append (λ m x. m * 10 + (x - 48)) 0 a b ∙ shift (value a) b

and_both : (a b : Bool) → (a && b) ≡ true → (a ≡ true) × (b ≡ true)
and_both true b h = (refl, h)
and_both false b h = absurd (false≢true h)

value_zeros : (ds : List ℕ) → list_all (λ b. eqb b 48) ds ≡ true → value ds ≡ 0
value_zeros [] h = refl
value_zeros (d ∷ ds) h =
    let b = and_both (eqb d 48) (list_all (λ x. eqb x 48) ds) h in
    ap (λ x. value (x ∷ ds)) (eqb-true d 48 b.0) ∙ value_zeros ds b.1

scale : (w t a b k r : ℕ) → a * k ≡ r * b → (w * b + t * a) * k ≡ (w * k + t * r) * b
scale w t a b k r e = let f : t * (a * k) ≡ t * (r * b) = ap (λ x. t * x) e in omega (arith, f)

-- a whole part and the first eight decimals, in units of 10^-8
abbrev pub units : List ℕ → List ℕ → ℕ
units digits decimals = value digits * 10 ^ 8 + value (take 8 decimals) * 10 ^ (8 - length (take 8 decimals))

-- the units, scaled by the decimals, are the number that all the digits spell, scaled by 10^8
pub exact : (digits decimals : List ℕ) → fits_eight_decimals decimals ≡ true → units digits decimals * 10 ^ length decimals ≡ value (digits ++ decimals) * 10 ^ 8
exact digits decimals h =
    let t = take 8 decimals in
    let r = drop 8 decimals in
    let joined : t ++ r ≡ decimals = take-append-drop 8 decimals in
    let len : length t + length r ≡ length decimals = sym (length-append t r) ∙ ap length joined in
    let short : length t ≤ 8 = omega (arith, length-take 8 decimals) in
    let power : (8 - length t) + length decimals ≡ length r + 8 = omega (arith, len, short) in
    let powers : 10 ^ (8 - length t) * 10 ^ length decimals ≡ 10 ^ length r * 10 ^ 8 = sym (pow-add 10 (8 - length t) (length decimals)) ∙ (ap (λ k. 10 ^ k) power ∙ pow-add 10 (length r) 8) in
    let after : value decimals ≡ value t * 10 ^ length r = ap value (sym joined) ∙ (value-append t r ∙ (ap (λ v. value t * 10 ^ length r + v) (value_zeros r h) ∙ add-zero (value t * 10 ^ length r))) in
    let all : value (digits ++ decimals) ≡ value digits * 10 ^ length decimals + value t * 10 ^ length r = value-append digits decimals ∙ ap (λ v. value digits * 10 ^ length decimals + v) after in
    scale (value digits) (value t) (10 ^ (8 - length t)) (10 ^ 8) (10 ^ length decimals) (10 ^ length r) powers ∙ ap (λ v. v * 10 ^ 8) (sym all)

power_of_ten_step : (k : ℕ) → 0 < 10 ^ k
power_of_ten_step k = one-le-pow k 10 (lit< tt)

-- so they are the value of all the digits with these decimals
pub to_units_is : (digits decimals : List ℕ) → fits_eight_decimals decimals ≡ true → to_units (value (digits ++ decimals)) (length decimals) ≡ units digits decimals
to_units_is digits decimals h =
    ap (λ n. n / 10 ^ length decimals) (sym (exact digits decimals h)) ∙ mul-div_cancel (units digits decimals) (power_of_ten_step (length decimals))

-- and no digit is lost
pub to_units_exact : (digits decimals : List ℕ) → fits_eight_decimals decimals ≡ true → to_units (value (digits ++ decimals)) (length decimals) * 10 ^ length decimals ≡ value (digits ++ decimals) * 10 ^ 8
to_units_exact digits decimals h = ap (λ n. n * 10 ^ length decimals) (to_units_is digits decimals h) ∙ exact digits decimals h

-- the sign of a product is that of its first factor
signed_product : (t : Bool) (m k : ℕ) → cond t (neg_ℤ (pos m)) (pos m) *ℤ pos k ≡ cond t (neg_ℤ (pos (m * k))) (pos (m * k))
signed_product true zero k = pos-*ℤ-pos 0 k ∙ ap pos (zero-mul k) ∙ ap (λ n. neg_ℤ (pos n)) (sym (zero-mul k))
signed_product true (suc m) k = refl
signed_product false m k = pos-*ℤ-pos m k

-- the defining equation of a value with a sign
pub signed_equation : (text : List ℕ) (v n k m : ℕ) → v * k ≡ n * m → signed_value text v *ℤ pos k ≡ signed_value text (n * m)
signed_equation text v n k m e = signed_product (is_negative text) v k ∙ ap (signed_value text) e

pub digit_small : (b : ℕ) → is_digit b ≡ true → b - 48 ≤ 9
digit_small b h = grind (arith, nat_tests)

digits_lt : (d p v : ℕ) → d ≤ 9 → v < p → d * p + v < 10 * p
digits_lt d p v h l = omega (arith, mul-le-mul_right p h)

-- n digits spell less than 10^n
pub value_lt : (ds : List ℕ) → AllByRecursion (λ b. is_digit b ≡ true) ds → value ds < 10 ^ length ds
value_lt [] h = lit< tt
value_lt (d ∷ ds) h =
    let e : value (d ∷ ds) ≡ (0 * 10 + (d - 48)) * 10 ^ length ds + value ds = shift (0 * 10 + (d - 48)) ds in
    let p : 10 ^ suc (length ds) ≡ 10 ^ length ds * 10 = pow-suc 10 (length ds) in
    let l : (d - 48) * 10 ^ length ds + value ds < 10 * 10 ^ length ds = digits_lt (d - 48) (10 ^ length ds) (value ds) (digit_small d h.0) (value_lt ds h.1) in
    let zero_more : 0 * 10 + (d - 48) ≡ d - 48 = omega arith in
    let m : (0 * 10 + (d - 48)) * 10 ^ length ds ≡ (d - 48) * 10 ^ length ds = ap (λ k. k * 10 ^ length ds) zero_more in
    omega (arith, e, p, l, m)

padded_lt : (v p q : ℕ) → v < p → 0 < q → v * q < p * q
padded_lt v p q l h = omega (arith, mul-le-mul_right q l)

-- a test of all digits, digit by digit
pub each_digit : (xs : List ℕ) → list_all is_digit xs ≡ true → AllByRecursion (λ b. is_digit b ≡ true) xs
each_digit [] h = tt
each_digit (x ∷ xs) h = let k = both_true (is_digit x) (list_all is_digit xs) h in (k.0, each_digit xs k.1)

-- at most nine digits spell less than a billion
pub nine_digits : (text : List ℕ) → is_digits text ≡ true → length text ≤ 9 → value text ≤ 999999999
nine_digits text digits short =
    let lt : value text < 10 ^ length text = value_lt text (each_digit text (both_true (not (eqb (length text) 0)) (list_all is_digit text) digits).1) in
    let p : 10 ^ length text ≤ 10 ^ 9 = pow-le-pow_right {n = 10} (omega arith) {i = length text} {j = 9} short in
    omega (arith, lt, p)

-- eight digits at most, filled up to eight, spell less than 10^8
pub filled_lt : (ds : List ℕ) → All (λ b. is_digit b ≡ true) ds → length ds ≤ 8 → value ds * 10 ^ (8 - length ds) < 10 ^ 8
filled_lt ds h l =
    let eight : length ds + (8 - length ds) ≡ 8 = omega arith in
    let p : 10 ^ length ds * 10 ^ (8 - length ds) ≡ 10 ^ 8 = sym (pow-add 10 (length ds) (8 - length ds)) ∙ ap (λ k. 10 ^ k) eight in
    let lt : value ds * 10 ^ (8 - length ds) < 10 ^ length ds * 10 ^ (8 - length ds) = padded_lt (value ds) (10 ^ length ds) (10 ^ (8 - length ds)) (value_lt ds (recursion_from_All (λ b. is_digit b ≡ true) ds h)) (power_of_ten_step (8 - length ds)) in
    omega (arith, p, lt)

-- eight digits at most spell less than 10^8
pub value_lt_eight : (ds : List ℕ) → All (λ b. is_digit b ≡ true) ds → length ds ≤ 8 → value ds < 10 ^ 8
value_lt_eight ds h l =
    let lt : value ds < 10 ^ length ds = value_lt ds (recursion_from_All (λ b. is_digit b ≡ true) ds h) in
    let p : 10 ^ length ds ≤ 10 ^ 8 = pow-le-pow_right {n = 10} (omega arith) {i = length ds} {j = 8} l in
    omega (arith, lt, p)

-- ---- a decimal that is read

pub parse_decimal_ok : (text : List ℕ) (v : ℤ) → is_decimal text ≡ true → fits_eight_decimals (fraction text) ≡ true → ltb 999999 (value (whole text)) ≡ false → v ≡ signed_value text (to_units (value_without_point text) (length (fraction text)))
    → Ok v ≡ parse_decimal text
unfolding parse_decimal
parse_decimal_ok text v d c l e = ap (λ (z : ℤ). Ok z) e ∙ sym (λ i. cond (d i) (cond (c i) (cond (l i) (Err TooFar) (Ok (signed_value text (to_units (value_without_point text) (length (fraction text)))))) (Err TooFine)) (Err BadNumber))

-- the value of the parts that were read
pub read_value : (text w f : List ℕ) (n : ℕ) → w ≡ whole text → f ≡ fraction text → fits_eight_decimals f ≡ true → n ≡ value w → signed_value text (n * 10 ^ 8 + value (take 8 f) * 10 ^ (8 - length (take 8 f))) ≡ signed_value text (to_units (value_without_point text) (length (fraction text)))
read_value text w f n ws fs c e =
    let here : n * 10 ^ 8 + value (take 8 f) * 10 ^ (8 - length (take 8 f)) ≡ value w * 10 ^ 8 + value (take 8 f) * 10 ^ (8 - length (take 8 f)) = ap (λ m. m * 10 ^ 8 + value (take 8 f) * 10 ^ (8 - length (take 8 f))) e in
    ap (signed_value text) (here ∙ sym (to_units_is w f c) ∙ (λ i. to_units (value (ws i ++ fs i)) (length (fs i))))
