-- The end of a text, from what a reader holds.
use Rattle.drill_text.proofs.Common.{◌≡◌, ℕ, suc, ◌≤◌, true, false, cond, ltb, List, length, Result, Ok, Err, sym, ap, subst, ◌∙◌, arith, inl, inr, list_any, take_all, le-ltb, DrillCommand, Fault, Fail, TooLong, Truncated, Strict, Keep, Progress, Splits, ◌>>=◌, fault, Answers, IfFault, Kind, ReadsAsBy, ReadsBy, Shows, ShowsBy, commands_at_end, is_finish, place_after_count, plain, shown_by, with_rest, DrillFile, file_of, ReadsAs, Holds, bind_err, guard_err, text_limit}
use Rattle.grid_units.specs.declared.fault.Fail.TheVariants as fails

ends_with : Kind → ℕ → List (List ℕ) → List ℕ → List DrillCommand → Result (List DrillCommand) Fault
ends_with p len lines rest commands = cond (ltb text_limit len) (Err (fault (suc (length lines)) text_limit TooLong)) (with_rest p lines rest commands >>= commands_at_end len lines rest)

-- a whole text reads as its last line leaves it
pub reads_is : {p : Kind} {keep : Keep} (r : Progress) (text : List ℕ) (h : Holds r p keep text) (answer : Result (List DrillCommand) Fault) → r.offset ≤ text_limit
    → (with_rest p h.lines r.line.items h.commands >>= commands_at_end (length text) h.lines r.line.items) ≡ answer → ReadsBy p text answer
unfolding ends_with
reads_is {p = p} r text h answer le e =
    let short : length text ≤ text_limit = omega (arith, h.offset, le) in
    let rest = r.line.items in
    let cs = h.commands in
    record {
      lines = h.lines;
      rest = rest;
      splits = subst (λ (t : List ℕ). Splits t h.lines rest) (sym (take_all text_limit text short)) h.splits;
      answer_is = sym (ap (λ s. s >>= ends_with p (length text) h.lines rest) h.spelled
          ∙ (ap (λ t. cond t (Err (fault (suc (length h.lines)) text_limit TooLong)) (with_rest p h.lines rest cs >>= commands_at_end (length text) h.lines rest)) (le-ltb text_limit (length text) short) ∙ e));
    }

-- the last line has a fault
pub reads_fault : (p : Kind) (keep : Keep) (r : Progress) (text : List ℕ) (e : Fail) → r.offset ≤ text_limit → (h : Holds r p keep text)
    → IfFault (λ f. with_rest p h.lines r.line.items h.commands ≡ Err f) e → Answers (λ (d : DrillFile). d) (ReadsAsBy p (file_of p.plating keep) text) (Err e)
reads_fault p keep r text fails.Memory le h k = tt
reads_fault p keep r text (fails.Refused f) le h k = reads_is r text h (Err f) le (ap (λ s. s >>= commands_at_end (length text) h.lines r.line.items) k)

-- the last line leaves the end of the file among the commands, or not
pub reads_ended : {p : Kind} {keep : Keep} (r : Progress) (text : List ℕ) (h : Holds r p keep text) (new : List DrillCommand) → r.offset ≤ text_limit → with_rest p h.lines r.line.items h.commands ≡ Ok new → list_any is_finish new ≡ true → ReadsBy p text (Ok new)
reads_ended r text h new le e some =
    reads_is r text h (Ok new) le (ap (λ s. s >>= commands_at_end (length text) h.lines r.line.items) e ∙ ap (λ t. cond t (Ok new) (Err (fault (place_after_count (length h.lines) r.line.items) (length text) Truncated))) some)

pub reads_truncated : {p : Kind} {keep : Keep} (r : Progress) (text : List ℕ) (h : Holds r p keep text) (new : List DrillCommand) → r.offset ≤ text_limit → with_rest p h.lines r.line.items h.commands ≡ Ok new → list_any is_finish new ≡ false
    → ReadsBy p text (Err (fault (place_after_count r.lines r.line.items) r.offset Truncated))
reads_truncated r text h new le e none =
    reads_is r text h (Err (fault (place_after_count r.lines r.line.items) r.offset Truncated)) le (ap (λ s. s >>= commands_at_end (length text) h.lines r.line.items) e
    ∙ (ap (λ t. cond t (Ok new) (Err (fault (place_after_count (length h.lines) r.line.items) (length text) Truncated))) none
    ∙ (ap (λ n. Err (fault (place_after_count n r.line.items) (length text) Truncated)) (sym h.count) ∙ ap (λ b. Err (fault (place_after_count r.lines r.line.items) b Truncated)) (sym h.offset))))

checks_len : ℕ → List (List ℕ) → List DrillCommand → Result (List DrillCommand) Fault
checks_len len lines commands = cond (ltb text_limit len) (Err (fault (suc (length lines)) text_limit TooLong)) (Ok commands)

-- a fault that a text shows is the one that it has
pub shows_reads : (p : Kind) (text : List ℕ) (f : Fault) → ShowsBy p text (Err f) → ReadsBy p text (Err f)
unfolding checks_len ends_with
shows_reads p text f s = record {
  lines = s.lines;
  rest = s.rest;
  splits = s.splits;
  answer_is = elim (bind_err (shown_by p s.lines s.rest) (checks_len (length text) s.lines) f (sym s.answer_is)) [
    | inl h ↦ sym (ap (λ r. r >>= ends_with p (length text) s.lines s.rest) h)
    | inr h ↦ (let g = guard_err (ltb text_limit (length text)) (fault (suc (length s.lines)) text_limit TooLong) f h.0 h.2 in
        sym (ap (λ r. r >>= ends_with p (length text) s.lines s.rest) h.1 ∙ (ap (λ t. cond t (Err (fault (suc (length s.lines)) text_limit TooLong)) (with_rest p s.lines s.rest h.0 >>= commands_at_end (length text) s.lines s.rest)) g.0 ∙ ap (λ (x : Fault). Err x) g.1)))
  ];
}

-- a fault that a text shows refuses it, however its commands would be seen
pub shown_refused : {T V : Type 0} (view : T → V) (see : List DrillCommand → V) (text : List ℕ) (e : Fail) → IfFault (λ f. Shows text (Err f)) e → Answers view (ReadsAs see text) (Err e)
shown_refused view see text fails.Memory h = tt
shown_refused view see text (fails.Refused f) h = shows_reads (plain Strict) text f h
