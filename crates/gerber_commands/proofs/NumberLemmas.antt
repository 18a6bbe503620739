-- Digits and their values.
use Rattle.gerber_commands.proofs.Common.{◌≡◌, ℕ, suc, ◌+◌, ◌-◌, ◌*◌, ◌^◌, ◌<◌, ◌≤◌, Bool, true, false, cond, eqb, not, ◌&&◌, List, [], ◌∷◌, length, take, drop, get_or, Ok, refl, sym, ap, subst, ◌∙◌, arith, neg_ℤ, list_all, prefix_len, AllByRecursion, pow-suc, length-drop, take_all, take_rest, take_more, fold-append, eqb-true, le-ltb, is_digit, value, without_sign, is_digits, is_negative, significant_digits}
use Rattle.std.specs.Prelude.{pos}
use Rattle.gerber_commands.specs.Numbers.{int_of}

leading_zero : (t : Bool) (b : ℕ) (bs : List ℕ) → eqb b 48 ≡ t → value (drop (prefix_len (λ c. eqb c 48) bs) bs) ≡ value bs → value (drop (cond t (1 + prefix_len (λ c. eqb c 48) bs) 0) (b ∷ bs)) ≡ value (b ∷ bs)
leading_zero true b bs e h =
    let z : b ≡ 48 = eqb-true b 48 e in
    let n : 1 + prefix_len (λ c. eqb c 48) bs ≡ suc (prefix_len (λ c. eqb c 48) bs) = omega arith in
    ap (λ k. value (drop k (b ∷ bs))) n ∙ (h ∙ ap (λ d. value (d ∷ bs)) (sym z))
leading_zero false b bs e h = refl

-- leading zeros do not change the value
pub value_significant : (digits : List ℕ) → value (significant_digits digits) ≡ value digits
value_significant [] = refl
value_significant (b ∷ bs) = leading_zero (eqb b 48) b bs refl (value_significant bs)

pub int_ok : (run : List ℕ) (n : ℕ) → is_digits (without_sign run) ≡ true → length (significant_digits (without_sign run)) ≤ 12 → n ≡ value (significant_digits (without_sign run)) → int_of run ≡ Ok (cond (is_negative run) (neg_ℤ (pos n)) (pos n))
unfolding int_of
int_ok run n h le e = let same : n ≡ value (without_sign run) = e ∙ value_significant (without_sign run) in rw (h, le-ltb _ _ le, ← same) refl

pub read_ok : (run digits : List ℕ) (k n : ℕ) → digits ≡ without_sign run → is_digits digits ≡ true → k ≡ prefix_len (λ b. eqb b 48) digits → length (take (length digits - k) (drop k digits)) ≤ 12 → n ≡ value (take (length digits - k) (drop k digits))
    → int_of run ≡ Ok (cond (is_negative run) (neg_ℤ (pos n)) (pos n))
read_ok run digits k n same ds k-is le n-is =
    let sig : take (length digits - k) (drop k digits) ≡ significant_digits (without_sign run) = take_rest digits k ∙ (ap (λ j. drop j digits) k-is ∙ ap significant_digits same) in
    let short : length (significant_digits (without_sign run)) ≤ 12 = omega (arith, le, ap length sig) in
    int_ok run n (sym (ap is_digits same) ∙ ds) short (n-is ∙ ap value sig)

-- ---- one more digit

pub value_more : (bytes : List ℕ) (i n b d : ℕ) → i < length bytes → b ≡ get_or bytes i d → n ≡ value (take i bytes) → n * 10 + (b - 48) ≡ value (take (i + 1) bytes)
value_more bytes i n b d lt is before =
    let all : value (take (i + 1) bytes) ≡ value (take i bytes) * 10 + (get_or bytes i d - 48) = ap value (take_more bytes i d lt) ∙ fold-append (λ m x. m * 10 + (x - 48)) 0 (take i bytes) (get_or bytes i d ∷ []) in
    (λ j. before j * 10 + (is j - 48)) ∙ sym all

pub bound_more : (n i d : ℕ) → n < 10 ^ i → d ≤ 9 → n * 10 + d < 10 ^ (i + 1)
bound_more n i d lt le =
    let k : i + 1 ≡ suc i = omega arith in
    let p : 10 ^ (i + 1) ≡ 10 ^ i * 10 = ap (λ j. 10 ^ j) k ∙ pow-suc 10 i in
    omega (arith, p, lt, le)

-- ---- a run of at most 12 digits

all_true : (p : ℕ → Bool) (xs : List ℕ) → AllByRecursion (λ b. p b ≡ true) xs → list_all p xs ≡ true
all_true p [] h = refl
all_true p (x ∷ xs) h = ap (λ t. t && list_all p xs) h.0 ∙ all_true p xs h.1

not_empty : (xs : List ℕ) → 0 < length xs → not (eqb (length xs) 0) ≡ true
not_empty xs lt = by (eqb (length xs) 0) refl
  where
    by : (t : Bool) → eqb (length xs) 0 ≡ t → not t ≡ true
    by true e = absurd (omega (arith, eqb-true (length xs) 0 e, lt))
    by false e = refl

are_digits : (xs : List ℕ) → 0 < length xs → AllByRecursion (λ b. is_digit b ≡ true) xs → is_digits xs ≡ true
are_digits xs lt h = ap (λ t. t && list_all is_digit xs) (not_empty xs lt) ∙ all_true is_digit xs h

pub spells : (run part : List ℕ) (n : ℕ) → without_sign run ≡ part → 0 < length part → length part ≤ 12 → AllByRecursion (λ b. is_digit b ≡ true) part → n ≡ value part → int_of run ≡ Ok (cond (is_negative run) (neg_ℤ (pos n)) (pos n))
spells run part n is some short digits n-is =
    let size : length (significant_digits (without_sign run)) ≤ 12 = omega (arith, ap length is, short, length-drop (prefix_len (λ b. eqb b 48) (without_sign run)) (without_sign run)) in
    int_ok run n (ap is_digits is ∙ are_digits part some digits) size (n-is ∙ ap value (sym is) ∙ sym (value_significant (without_sign run)))

-- a run that is a sign, where one stands there, and just the first digits
pub all_digits : (run digits : List ℕ) (n len : ℕ) → digits ≡ without_sign run → 0 < len → len ≤ 12 → len ≡ length digits → AllByRecursion (λ b. is_digit b ≡ true) (take len digits) → n ≡ value (take len digits) → int_of run ≡ Ok (cond (is_negative run) (neg_ℤ (pos n)) (pos n))
all_digits run digits n len same some short whole all n-is =
    let is : take len digits ≡ digits = take_all len digits (omega (arith, whole)) in
    spells run digits n (sym same) (omega (arith, whole, some)) (omega (arith, whole, short)) (subst (AllByRecursion (λ b. is_digit b ≡ true)) is all) (n-is ∙ ap value is)
