-- A fault that a text shows stays with what follows it.
use Rattle.drill_text.proofs.Common.{◌≡◌, ℕ, zero, suc, ◌-◌, ◌<◌, cond, ltb, List, [], ◌∷◌, ◌++◌, length, take, Result, Ok, Err, refl, sym, ap, subst, ◌∙◌, arith, inl, inr, take-append-le, length-append, lt-ltb, ltb-true, DrillCommand, Fault, TooLong, Splits, ◌>>=◌, fault, bind_err, guard_err, Kind, shown_by, ShowsBy, ReadsBy, HasFault, text_limit}
use Rattle.drill_text.proofs.PieceLemmas.{fault_stays}
use Rattle.drill_text.proofs.FinishLemmas.{shows_reads}

checks_len : ℕ → List (List ℕ) → List DrillCommand → Result (List DrillCommand) Fault
checks_len len lines commands = cond (ltb text_limit len) (Err (fault (suc (length lines)) text_limit TooLong)) (Ok commands)

-- the first elements of two joined lists
take_both : (n : ℕ) (xs ys : List ℕ) → take n (xs ++ ys) ≡ take n xs ++ take (n - length xs) ys
take_both zero xs ys = let none : 0 - length xs ≡ 0 = omega arith in rw none refl
take_both (suc n) [] ys = let all : suc n - 0 ≡ suc n = omega arith in rw all refl
take_both (suc n) (x ∷ xs) ys = let less : suc n - suc (length xs) ≡ n - length xs = omega arith in rw less (ap (λ (l : List ℕ). x ∷ l) (take_both n xs ys))

-- the fault of the lines within the limit
pub within_limit : (p : Kind) (text : List ℕ) (f : Fault) → HasFault p (take text_limit text) f → ShowsBy p text (Err f)
unfolding checks_len
within_limit p text f h = record {
  lines = h.lines;
  rest = h.rest;
  splits = h.splits;
  answer_is = sym (ap (λ r. r >>= checks_len (length text) h.lines) h.fault);
}

pub shows_stay_in : (p : Kind) (text more : List ℕ) (f : Fault) → ShowsBy p text (Err f) → ShowsBy p (text ++ more) (Err f)
unfolding checks_len
shows_stay_in p text more f s =
    elim (bind_err (shown_by p s.lines s.rest) (checks_len (length text) s.lines) f (sym s.answer_is)) [
      | inl h ↦
          (let prefix : HasFault p (take text_limit text) f = record { lines = s.lines; rest = s.rest; splits = s.splits; fault = h } in
          within_limit p (text ++ more) f (subst (λ (x : List ℕ). HasFault p x f) (sym (take_both text_limit text more)) (fault_stays p (take text_limit text) (take (text_limit - length text) more) f prefix)))
      | inr h ↦
          (let g = guard_err (ltb text_limit (length text)) (fault (suc (length s.lines)) text_limit TooLong) f h.0 h.2 in
          let long : text_limit < length text = ltb-true _ _ g.0 in
          let longer : text_limit < length (text ++ more) = omega (arith, long, length-append text more) in
          record {
            lines = s.lines;
            rest = s.rest;
            splits = subst (λ (x : List ℕ). Splits x s.lines s.rest) (sym (take-append-le text_limit text more (omega (arith, long)))) s.splits;
            answer_is = sym (ap (λ r. r >>= checks_len (length (text ++ more)) s.lines) h.1
                ∙ (ap (λ t. cond t (Err (fault (suc (length s.lines)) text_limit TooLong)) (Ok h.0)) (lt-ltb text_limit (length (text ++ more)) longer) ∙ ap (λ (x : Fault). Err x) g.1));
          })
    ]

pub shown_is_read_in : (p : Kind) (text more : List ℕ) (f : Fault) → ShowsBy p text (Err f) → ReadsBy p (text ++ more) (Err f)
shown_is_read_in p text more f s = shows_reads p (text ++ more) f (shows_stay_in p text more f s)
