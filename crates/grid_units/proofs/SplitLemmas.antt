-- The first part of a text, and the others.
use Rattle.std.proofs.Common.{◌≡◌, ℕ, suc, ◌+◌, ◌≤◌, Bool, true, false, cond, not, eqb, ltb, List, [], ◌∷◌, length, take, drop, Option, None, Some, refl, ap, ◌∙◌, arith}
use Rattle.std.specs.List.{onto_first, position, position_or_len}
use Rattle.std.proofs.lemmas.List.Splits.{slice_split_first}
use Rattle.std.proofs.lemmas.Bool.{ltb-true, ltb-false}
use Rattle.grid_units.specs.Rows.{split_by}

-- a measure of an optional text that is left: 0 for none, else one more than its bytes
abbrev pub left_of : Option (List ℕ) → ℕ
left_of None = 0
left_of (Some text) = suc (length text)

pub split_some : (at : ℕ) (text : List ℕ) (i : ℕ) → position (λ b. eqb b at) text ≡ Some i → split_by at text ≡ take i text ∷ split_by at (drop (i + 1) text)
split_some at text i e = by (ltb (position_or_len (λ b. eqb b at) text) (length text)) refl e
  where
    same : (m n : ℕ) → Some m ≡ Some n → m ≡ n
    same m n h = cc

    by : (t : Bool) → ltb (position_or_len (λ b. eqb b at) text) (length text) ≡ t → cond t (Some (position_or_len (λ b. eqb b at) text)) None ≡ Some i → split_by at text ≡ take i text ∷ split_by at (drop (i + 1) text)
    by true lt h =
        let k : position_or_len (λ b. eqb b at) text ≡ i = same _ _ h in
        slice_split_first (λ b. eqb b at) text 0 (ltb-true _ _ lt) ∙ (λ j. take (k j) text ∷ split_by at (drop (k j + 1) text))
    by false lt h = absurd cc

none_step : (at b : ℕ) (bs : List ℕ) (t : Bool) → (length bs ≤ position_or_len (λ c. eqb c at) bs → split_by at bs ≡ bs ∷ []) → suc (length bs) ≤ cond (not t) (1 + position_or_len (λ c. eqb c at) bs) 0 → cond t ([] ∷ split_by at bs) (onto_first b (split_by at bs)) ≡ (b ∷ bs) ∷ []
none_step at b bs true again lt = absurd (omega arith)
none_step at b bs false again lt = ap (onto_first b) (again (omega arith))

none_by : (at : ℕ) (text : List ℕ) → length text ≤ position_or_len (λ b. eqb b at) text → split_by at text ≡ text ∷ []
none_by at [] h = refl
none_by at (b ∷ bs) h = none_step at b bs (eqb b at) (none_by at bs) h

pub split_none : (at : ℕ) (text : List ℕ) → position (λ b. eqb b at) text ≡ None → split_by at text ≡ text ∷ []
split_none at text e = by (ltb (position_or_len (λ b. eqb b at) text) (length text)) refl e
  where
    by : (t : Bool) → ltb (position_or_len (λ b. eqb b at) text) (length text) ≡ t → cond t (Some (position_or_len (λ b. eqb b at) text)) None ≡ None → split_by at text ≡ text ∷ []
    by true lt h = absurd cc
    by false lt h = none_by at text (ltb-false _ _ lt)
