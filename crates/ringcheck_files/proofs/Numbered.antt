-- Rows that are numbered.
use Rattle.ringcheck_files.proofs.Common.{◌≡◌, ◌<◌, ◌≤◌, ◌+◌, ◌++◌, ℕ, zero, suc, List, [], ◌∷◌, length, drop, get_or, arith, refl, ap, sym, ◌∙◌, append_assoc, row, rows_from}
use Rattle.std.proofs.lemmas.List.{append-nil}

module _ {A : Type 0} (fields : ℕ → A → List (List ℕ)) where
  -- the row of the element at a place, and those after it
  pub next_row : (elements : List A) (i n : ℕ) (d : A) → i < length elements
      → rows_from fields n (drop i elements) ≡ row (fields n (get_or elements i d)) ++ rows_from fields (n + 1) (drop (i + 1) elements)
  unfolding rows_from
  next_row [] i n d lt = absurd (omega arith)
  next_row (x ∷ xs) zero n d lt = refl
  next_row (x ∷ xs) (suc i) n d lt = let k : suc i + 1 ≡ suc (i + 1) = omega arith in rw k (next_row xs i n d (omega arith))

  pub no_row : (elements : List A) (i n : ℕ) → length elements ≤ i → rows_from fields n (drop i elements) ≡ []
  unfolding rows_from
  no_row [] zero n lt = refl
  no_row [] (suc i) n lt = refl
  no_row (x ∷ xs) zero n lt = absurd (omega arith)
  no_row (x ∷ xs) (suc i) n lt = no_row xs i n (omega arith)

  -- one more row
  pub row_more : (elements : List A) (i n : ℕ) (x : A) (told before after : List ℕ) → i < length elements → x ≡ get_or elements i x
      → told ≡ before ++ rows_from fields n (drop i elements) → after ≡ before ++ row (fields n x)
      → told ≡ after ++ rows_from fields (n + 1) (drop (i + 1) elements)
  row_more elements i n x told before after lt here was is =
      let rest = rows_from fields (n + 1) (drop (i + 1) elements) in
      was ∙ ap (λ t. before ++ t) (next_row elements i n x lt)
      ∙ ap (λ e. before ++ (row (fields n e) ++ rest)) (sym here)
      ∙ sym (append_assoc before (row (fields n x)) rest)
      ∙ ap (λ t. t ++ rest) (sym is)

  pub rows_end : (elements : List A) (i n : ℕ) (told before : List ℕ) → length elements ≤ i → told ≡ before ++ rows_from fields n (drop i elements) → before ≡ told
  rows_end elements i n told before lt was = sym (was ∙ ap (λ t. before ++ t) (no_row elements i n lt) ∙ append-nil before)
