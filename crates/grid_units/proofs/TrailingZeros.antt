-- The last digits of a number, from the front and from the end.
use Rattle.std.proofs.Common.{◌≡◌, ℕ, zero, suc, ◌+◌, ◌-◌, ◌*◌, ◌/◌, ◌%◌, ◌^◌, ◌<◌, Bool, true, false, cond, eqb, ◌&&◌, List, [], ◌∷◌, ◌++◌, length, refl, sym, ap, ◌∙◌, arith}
use Rattle.std.proofs.lemmas.List.{length-append}
use mathlib.Core.List.{append_assoc}
use Rattle.std.proofs.lemmas.Bool.{eqb-true}
use Rattle.std.proofs.Math.Nat.{pow-suc, div-div-eq-div-mul}
use Rattle.grid_units.specs.Spellings.{places, without_end_zeros, fraction_text, fraction_text_or_zero}

pub length-places : (w n : ℕ) → length (places w n) ≡ w
unfolding places
length-places zero n = refl
length-places (suc w) n = length-append (places w (n / 10)) ((48 + n % 10) ∷ []) ∙ omega (arith, length-places w (n / 10))

-- the first of the last digits
pub places_front : (w n : ℕ) → places (suc w) n ≡ (48 + n / 10 ^ w % 10) ∷ places w n
unfolding places
places_front zero n = ap (λ m. (48 + m % 10) ∷ []) (div_one n)
  where
    div_one : (n : ℕ) → n ≡ n / 10 ^ 0
    div_one n = omega arith
places_front (suc w) n =
    ap (λ l. l ++ (48 + n % 10) ∷ []) (places_front w (n / 10)) ∙ ap (λ m. (48 + m % 10) ∷ places (suc w) n) (quotient w n)
  where
    power : (w : ℕ) → 10 * 10 ^ w ≡ 10 ^ suc w
    power w = omega (arith, pow-suc 10 w)

    quotient : (w n : ℕ) → n / 10 / 10 ^ w ≡ n / 10 ^ suc w
    quotient w n = div-div-eq-div-mul n 10 (10 ^ w) ∙ ap (λ k. n / k) (power w)

-- a zero at the end is dropped
pub trim_zero : (xs : List ℕ) → without_end_zeros (xs ++ 48 ∷ []) ≡ without_end_zeros xs
unfolding without_end_zeros
trim_zero [] = refl
trim_zero (x ∷ xs) = ap (λ (t : List ℕ). cond (eqb x 48 && eqb (length t) 0) [] (x ∷ t)) (trim_zero xs)

pub not_zero : (n : ℕ) → 0 < n → eqb n 0 ≡ false
not_zero n h = by (eqb n 0) refl
  where
    by : (t : Bool) → eqb n 0 ≡ t → eqb n 0 ≡ false
    by true e = absurd (omega (arith, h, eqb-true n 0 e))
    by false e = e

pub skips : (t u : Bool) (x : ℕ) (xs : List ℕ) → u ≡ false → cond (t && u) [] (x ∷ xs) ≡ x ∷ xs
skips true u x xs h = ap (λ v. cond v [] (x ∷ xs)) h
skips false u x xs h = refl

pub keeps : (t : Bool) (x : ℕ) (xs : List ℕ) → 0 < length xs → cond (t && eqb (length xs) 0) [] (x ∷ xs) ≡ x ∷ xs
keeps t x xs h = skips t (eqb (length xs) 0) x xs (not_zero (length xs) h)

-- digits that end with no zero are kept
pub trim_kept : (xs : List ℕ) (b : ℕ) → eqb b 48 ≡ false → without_end_zeros (xs ++ b ∷ []) ≡ xs ++ b ∷ []
unfolding without_end_zeros
trim_kept [] b h = ap (λ t. cond (t && true) [] (b ∷ [])) h
trim_kept (x ∷ xs) b h = ap (λ (t : List ℕ). cond (eqb x 48 && eqb (length t) 0) [] (x ∷ t)) (trim_kept xs b h) ∙ keeps (eqb x 48) x (xs ++ b ∷ []) (omega (arith, length-append xs (b ∷ [])))

-- the last digits of a number that ends with a zero
pub places_zero : (w n : ℕ) → n % 10 ≡ 0 → without_end_zeros (places (suc w) n) ≡ without_end_zeros (places w (n / 10))
unfolding places
places_zero w n h = ap (λ d. without_end_zeros (places w (n / 10) ++ (48 + d) ∷ [])) h ∙ trim_zero (places w (n / 10))

pub places_kept : (w n : ℕ) → 0 < n % 10 → without_end_zeros (places (suc w) n) ≡ places (suc w) n
unfolding places
places_kept w n h = trim_kept (places w (n / 10)) (48 + n % 10) (by (eqb (48 + n % 10) 48) refl)
  where
    by : (t : Bool) → eqb (48 + n % 10) 48 ≡ t → eqb (48 + n % 10) 48 ≡ false
    by true e = absurd (omega (arith, h, eqb-true (48 + n % 10) 48 e))
    by false e = e

pub places_none : (n : ℕ) → places 0 n ≡ []
unfolding places
places_none n = refl

pub trimmed_none : without_end_zeros [] ≡ []
unfolding without_end_zeros
trimmed_none = refl

-- a width above 0, or nothing left
pub places_kept_at : (w n : ℕ) → 0 < w → 0 < n % 10 → without_end_zeros (places w n) ≡ places w n
places_kept_at zero n l h = absurd (omega arith)
places_kept_at (suc w) n l h = places_kept w n h

pub places_zero_at : (w n : ℕ) → 0 < w → n % 10 ≡ 0 → without_end_zeros (places (w - 1) (n / 10)) ≡ without_end_zeros (places w n)
places_zero_at zero n l h = absurd (omega arith)
places_zero_at (suc w) n l h = let e : suc w - 1 ≡ w = omega arith in ap (λ k. without_end_zeros (places k (n / 10))) e ∙ sym (places_zero w n h)

pub places_front_at : (w n : ℕ) → 0 < w → places w n ≡ (48 + n / 10 ^ (w - 1) % 10) ∷ places (w - 1) n
places_front_at zero n l = absurd (omega arith)
places_front_at (suc w) n l = let e : suc w - 1 ≡ w = omega arith in places_front w n ∙ sym (ap (λ k. (48 + n / 10 ^ k % 10) ∷ places k n) e)

fraction_text_is : (xs : List ℕ) → 0 < length xs → fraction_text xs ≡ 46 ∷ xs
fraction_text_is [] l = absurd (omega arith)
fraction_text_is (x ∷ xs) l = refl

fraction_text_or_zero_is : (xs : List ℕ) → 0 < length xs → fraction_text_or_zero xs ≡ 46 ∷ xs
fraction_text_or_zero_is [] l = absurd (omega arith)
fraction_text_or_zero_is (x ∷ xs) l = refl

-- a point and then digits
pub pointed_places : (old mid new ts : List ℕ) (w n : ℕ) → 0 < w → places w n ≡ ts → mid ≡ old ++ 46 ∷ [] → new ≡ mid ++ places w n → new ≡ old ++ fraction_text ts
pointed_places old mid new ts w n l same first second =
    second ∙ ap (λ m. m ++ places w n) first ∙ append_assoc old (46 ∷ []) (places w n) ∙ ap (λ xs. old ++ 46 ∷ xs) same
    ∙ ap (λ xs. old ++ xs) (sym (fraction_text_is ts (omega (arith, length-places w n, ap length same))))

pub any_pointed_places : (old mid new ts : List ℕ) (w n : ℕ) → 0 < w → places w n ≡ ts → mid ≡ old ++ 46 ∷ [] → new ≡ mid ++ places w n → new ≡ old ++ fraction_text_or_zero ts
any_pointed_places old mid new ts w n l same first second =
    second ∙ ap (λ m. m ++ places w n) first ∙ append_assoc old (46 ∷ []) (places w n) ∙ ap (λ xs. old ++ 46 ∷ xs) same
    ∙ ap (λ xs. old ++ xs) (sym (fraction_text_or_zero_is ts (omega (arith, length-places w n, ap length same))))

-- no digits are left
pub nothing_left : (ts : List ℕ) (w n : ℕ) → w ≡ 0 → places w n ≡ ts → ts ≡ []
nothing_left ts w n none same = sym same ∙ ap (λ k. places k n) none ∙ places_none n
