-- The places of the rows of a layer.
use Rattle.report.proofs.Common.{◌≡◌, ◌<◌, ◌+◌, ◌∷◌, ℕ, suc, Bool, true, false, cond, List, [], Option, Some, None, length, refl, subst, arith, All, cons_option, enumerate_from, filter_map, find, All-cons, is_pad_row, FeatureRow, other_row, others, pad_place, pad_places, Other}
use Rattle.std.specs.Option.{IfSome}

-- an optional element at the head
pub at_head : {X : Type 0} (P : X → Type 0) (x : Option X) (xs : List X) → IfSome x P → All P xs → All P (cons_option x xs)
at_head P None xs h all = all
at_head P (Some x) xs h all = All-cons P x xs h all

-- the same bound with `suc`
further : (k n place : ℕ) → place < (k + 1) + n → place < k + suc n
further k n place lt = omega (arith, lt)

-- ---- pads

place_below : (k n : ℕ) (t : Bool) → IfSome (cond t (Some k) None) (λ place. place < k + suc n)
place_below k n true = omega arith
place_below k n false = tt

weaker : {X : Type 0} (P Q : X → Type 0) (xs : List X) → ((x : X) → P x → Q x) → All P xs → All Q xs
weaker P Q xs f all = λ k d lt. f _ (all k d lt)

places_below_from : (k : ℕ) (rows : List FeatureRow) → All (λ place. place < k + length rows) (filter_map pad_place (enumerate_from k rows))
places_below_from k [] = λ i d lt. absurd (omega (arith, lt))
places_below_from k (r ∷ rs) =
    at_head (λ place. place < k + suc (length rs)) _ _ (place_below k (length rs) (is_pad_row r.what))
    (weaker (λ place. place < (k + 1) + length rs) (λ place. place < k + suc (length rs)) _ (further k (length rs)) (places_below_from (k + 1) rs))

-- each place of a pad is that of a row
pub places_below : (rows : List FeatureRow) → All (λ place. place < length rows) (pad_places rows)
places_below rows = weaker (λ place. place < 0 + length rows) (λ place. place < length rows) _ (λ place lt. omega (arith, lt)) (places_below_from 0 rows)

-- ---- other rows

-- what holds of each row that is no pad, at its place, holds of all others
module _ (P : Other → Type 0) where
  pub if_other : (k : ℕ) (r : FeatureRow) (t : Bool) → is_pad_row r.what ≡ t → ((is_pad_row r.what ≡ false) → P (record { place = k; at = r.at; what = r.what })) → IfSome (cond t None (Some (record { place = k; at = r.at; what = r.what }))) P
  if_other k r true e here = tt
  if_other k r false e here = here e

-- another row stands before the end of the layer, and is no pad
abbrev pub IsOtherBefore : ℕ → Other → Type 0
IsOtherBefore n other = (other.place < n) × (is_pad_row other.what ≡ false)

others_before_from : (k : ℕ) (rows : List FeatureRow) → All (IsOtherBefore (k + length rows)) (filter_map other_row (enumerate_from k rows))
others_before_from k [] = λ i d lt. absurd (omega (arith, lt))
others_before_from k (r ∷ rs) =
    at_head (IsOtherBefore (k + suc (length rs))) (other_row (k, r)) _ (if_other (IsOtherBefore (k + suc (length rs))) k r (is_pad_row r.what) refl (λ not_pad. (omega arith, not_pad)))
    (weaker (IsOtherBefore ((k + 1) + length rs)) (IsOtherBefore (k + suc (length rs))) _ (λ other is. (further k (length rs) other.place is.0, is.1)) (others_before_from (k + 1) rs))

-- each other row stands before the end of the layer, and is no pad
pub others_before : (rows : List FeatureRow) → All (IsOtherBefore (length rows)) (others rows)
others_before rows = weaker (IsOtherBefore (0 + length rows)) (IsOtherBefore (length rows)) _ (λ other is. (let lt = is.0 in omega (arith, lt), is.1)) (others_before_from 0 rows)

-- what holds of all elements holds of the one that `find` returns
pub found_has : {X : Type 0} (P : X → Type 0) (p : X → Bool) (xs : List X) (x : X) → All P xs → find p xs ≡ Some x → P x
found_has P p [] x all e = cc
found_has P p (y ∷ ys) x all e = by (p y) e (λ h. found_has P p ys x (λ k d lt. all (suc k) d (omega (arith, lt))) h)
  where
    by : (t : Bool) → cond t (Some y) (find p ys) ≡ Some x → (find p ys ≡ Some x → P x) → P x
    by true h rest = subst P (some_is h) (all 0 y (omega arith))
      where
        some_is : Some y ≡ Some x → y ≡ x
        some_is h = cc
    by false h rest = rest h
