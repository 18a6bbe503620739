-- Slots of a reader of a package.
use Rattle.package_check.proofs.Common.{◌≡◌, ◌<◌, ◌≤◌, ◌++◌, ℕ, zero, suc, List, [], ◌∷◌, Option, Some, None, length, set, arith, refl, ◌∙◌, get_or-set_other, get_or-set_same, length-set, IsPutAt, kept_at}

-- an empty slot at the end changes nothing
pub empty_more : {X : Type 0} (slots : List (Option X)) (i : ℕ) → kept_at (slots ++ None ∷ []) i ≡ kept_at slots i
empty_more [] zero = refl
empty_more [] (suc i) = refl
empty_more (x ∷ xs) zero = refl
empty_more (x ∷ xs) (suc i) = empty_more xs i

-- slots with empty ones added, and one of them filled
pub slot_filled : {X : Type 0} (before long : List (Option X)) (index : ℕ) (one : X) → ((i : ℕ) → kept_at long i ≡ kept_at before i) → index < length long → ((n : ℕ) → length before ≤ n → index < n → length long ≤ n)
    → IsPutAt index one before (set long index (Some one))
slot_filled before long index one same inside size = record {
  here = get_or-set_same long index (Some one) None inside;
  others = λ i other. get_or-set_other long index i (Some one) None other ∙ same i;
  size = λ n le lt. let most = size n le lt in omega (arith, most, length-set long index (Some one));
}
