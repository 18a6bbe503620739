-- Lists of the values of variables.
use Rattle.macro_shapes.proofs.Common.{◌≡◌, ℕ, ℤ, ◌-◌, ◌<◌, ◌≤◌, min, Bool, true, false, cond, eqb, List, length, get_or, Option, None, refl, sym, ap, ◌∙◌, inl, inr, arith, cases_lt, get_or_past, lookup}

-- the value at a number, read at its place
pub lookup_past : (xs : List (Option ℤ)) (n : ℕ) → length xs < n → lookup xs n ≡ None
lookup_past xs n h = by (eqb n 0) refl
  where
    by : (t : Bool) → eqb n 0 ≡ t → cond t None (get_or xs (n - 1) None) ≡ None
    by true p = refl
    by false p = get_or_past xs (n - 1) None (omega arith)

pub lookup_capped : (xs : List (Option ℤ)) (n : ℕ) → length xs ≤ 999 → lookup xs (min n 1000) ≡ lookup xs n
lookup_capped xs n h = elim (cases_lt 1000 n) [
  | inl large ↦ let e : min n 1000 ≡ 1000 = omega arith in ap (lookup xs) e ∙ (lookup_past xs 1000 (omega arith) ∙ sym (lookup_past xs n (omega arith)))
  | inr small ↦ let e : min n 1000 ≡ n = omega arith in ap (lookup xs) e
]
