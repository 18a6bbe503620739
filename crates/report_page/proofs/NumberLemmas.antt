-- The numbers of the rows.
use Rattle.report_page.proofs.Common.{◌≡◌, ◌∙◌, ◌<◌, ◌+◌, ◌-◌, ◌++◌, ℕ, zero, suc, inl, inr, List, [], ◌∷◌, length, map, get_or, arith, enumerate_from, get_or_append_left, get_or-append_right, length-append, length-map, NumbersEachOnce, row_numbers, length-enumerate_from, number_of}
use Rattle.std.proofs.lemmas.Bool.{cases_lt}
use Rattle.report.specs.declared.BoardReport.{BoardReport}

-- the numbers of some findings, of which the first has this position
abbrev numbers : {X : Type 0} → ℕ → List X → List ℕ
numbers {X} n xs = map (λ (finding : ℕ × X). number_of finding.0) (enumerate_from n xs)

numbers_length : {X : Type 0} (n : ℕ) (xs : List X) → length (numbers n xs) ≡ length xs
numbers_length {X} n xs = length-map (enumerate_from n xs) (λ (finding : ℕ × X). number_of finding.0) ∙ length-enumerate_from n xs

number_at : {X : Type 0} (n : ℕ) (xs : List X) (i d : ℕ) → i < length xs → get_or (numbers n xs) i d ≡ n + i + 1
number_at n [] i d lt = absurd (omega (arith, lt))
number_at n (x ∷ xs) zero d lt = let e : n + 1 ≡ n + 0 + 1 = omega arith in e
number_at n (x ∷ xs) (suc i) d lt =
    let e : n + 1 + i + 1 ≡ n + suc i + 1 = omega arith in number_at (n + 1) xs i d (omega arith) ∙ e

row_at : {X Y : Type 0} (rings : List X) (gaps : List Y) (i d : ℕ) → i < length rings + length gaps
    → get_or (numbers 0 rings ++ numbers (length rings) gaps) i d ≡ i + 1
row_at rings gaps i d lt = elim (cases_lt i (length rings)) [
  | inl low ↦
      let e : 0 + i + 1 ≡ i + 1 = omega arith in
      get_or_append_left (numbers 0 rings) (numbers (length rings) gaps) d i (omega (arith, low, numbers_length 0 rings)) ∙ (number_at 0 rings i d low ∙ e)
  | inr high ↦
      let e : length rings + (i - length rings) + 1 ≡ i + 1 = omega (arith, high) in
      get_or-append_right (numbers 0 rings) (numbers (length rings) gaps) (length rings) i d (numbers_length 0 rings) high
      ∙ (number_at (length rings) gaps (i - length rings) d (omega (arith, lt, high)) ∙ e)
]

pub numbers_each_once : (report : BoardReport) → NumbersEachOnce report
numbers_each_once report =
    let rings = report.rings.items in
    let gaps = report.gaps.items in
    let all : length (row_numbers report) ≡ length rings + length gaps =
    length-append (numbers 0 rings) (numbers (length rings) gaps) ∙ omega (arith, numbers_length 0 rings, numbers_length (length rings) gaps) in record {
      all = all;
      at = λ i d lt. row_at rings gaps i d (omega (arith, lt, all));
    }
