-- A text is cut into lines in one way, so it has one reading.
use Rattle.drill_text.proofs.Common.{◌≡◌, ℕ, cond, eqb, List, [], ◌∷◌, ◌++◌, length, take, Result, sym, ap, ◌∙◌, append_assoc, fold, AllByRecursion, append-nil, ne_eqb, Fault, DrillCommand, bytes_of, HasNoBreak, Splits, Kind, ShowsBy, ReadsBy, shown_within, read_by, text_limit}
use Rattle.std.proofs.lemmas.List.Sums.{fold-append}

-- one more byte: the LF of a line, or another
next : List (List ℕ) × List ℕ → ℕ → List (List ℕ) × List ℕ
next c b = cond (eqb b 10) (c.0 ++ c.1 ∷ [], []) (c.0, c.1 ++ b ∷ [])

inside : (lines : List (List ℕ)) (a rest : List ℕ) → HasNoBreak rest → fold next (lines, a) rest ≡ (lines, a ++ rest)
unfolding next
inside lines a [] h = ap (λ (x : List ℕ). (lines, x)) (sym (append-nil a))
inside lines a (b ∷ bs) h =
    ap (λ t. fold next (cond t (lines ++ a ∷ [], []) (lines, a ++ b ∷ [])) bs) (ne_eqb b 10 h.0)
    ∙ (inside lines (a ++ b ∷ []) bs h.1 ∙ ap (λ (x : List ℕ). (lines, x)) (append_assoc a (b ∷ []) bs))

one_line : (lines : List (List ℕ)) (line : List ℕ) → HasNoBreak line → fold next (lines, []) (line ++ 10 ∷ []) ≡ (lines ++ line ∷ [], [])
unfolding next
one_line lines line h = fold-append next (lines, []) line (10 ∷ []) ∙ ap (λ p. fold next p (10 ∷ [])) (inside lines [] line h)

all_lines : (first lines : List (List ℕ)) → AllByRecursion HasNoBreak lines → fold next (first, []) (bytes_of lines) ≡ (first ++ lines, [])
all_lines first [] h = ap (λ (x : List (List ℕ)). (x, [])) (sym (append-nil first))
all_lines first (line ∷ lines) h =
    fold-append next (first, []) (line ++ 10 ∷ []) (bytes_of lines)
    ∙ (ap (λ p. fold next p (bytes_of lines)) (one_line first line h.0)
    ∙ (all_lines (first ++ line ∷ []) lines h.1 ∙ ap (λ (x : List (List ℕ)). (x, [])) (append_assoc first (line ∷ []) lines)))

finds : (text : List ℕ) (lines : List (List ℕ)) (rest : List ℕ) → Splits text lines rest → fold next ([], []) text ≡ (lines, rest)
finds text lines rest s =
    ap (fold next ([], [])) s.whole
    ∙ (fold-append next ([], []) (bytes_of lines) rest
    ∙ (ap (λ p. fold next p rest) (all_lines [] lines s.each) ∙ inside lines [] rest s.partial))

same_parts : (text : List ℕ) (lines : List (List ℕ)) (rest : List ℕ) (lines2 : List (List ℕ)) (rest2 : List ℕ) → Splits text lines rest → Splits text lines2 rest2 → (let p : List (List ℕ) × List ℕ = (lines, rest) in p ≡ (lines2, rest2))
same_parts text lines rest lines2 rest2 s t = sym (finds text lines rest s) ∙ finds text lines2 rest2 t

pub one_shown_in : (p : Kind) (text : List ℕ) (a b : Result (List DrillCommand) Fault) → ShowsBy p text a → ShowsBy p text b → a ≡ b
one_shown_in p text a b s t =
    let e = same_parts (take text_limit text) s.lines s.rest t.lines t.rest s.splits t.splits in
    s.answer_is ∙ (ap (λ (q : List (List ℕ) × List ℕ). shown_within p (length text) q.0 q.1) e ∙ sym t.answer_is)

pub one_read_in : (p : Kind) (text : List ℕ) (a b : Result (List DrillCommand) Fault) → ReadsBy p text a → ReadsBy p text b → a ≡ b
one_read_in p text a b s t =
    let e = same_parts (take text_limit text) s.lines s.rest t.lines t.rest s.splits t.splits in
    s.answer_is ∙ (ap (λ (q : List (List ℕ) × List ℕ). read_by p (length text) q.0 q.1) e ∙ sym t.answer_is)
