-- What a whole text shows, from what a reader holds.
use Rattle.drill_text.proofs.Common.{◌≡◌, ℕ, suc, ◌+◌, ◌<◌, ◌≤◌, cond, ltb, List, ◌++◌, length, Result, Ok, Err, sym, ap, subst, ◌∙◌, arith, append_assoc, take_all, take_at, length-append, lt-ltb, DrillCommand, Fault, Fail, TooLong, Keep, Progress, Splits, ◌>>=◌, fault, Kind, ShowsBy, Holds, HasFault, Refuses, RefusesText, text_limit}
use Rattle.grid_units.specs.declared.fault.Fail.TheVariants as fails
use Rattle.drill_text.proofs.FaultsStay.{within_limit}

-- the length is checked last: where the first bytes of a text show a fault, the whole shows it too
checks_len : ℕ → List (List ℕ) → List DrillCommand → Result (List DrillCommand) Fault
checks_len len items commands = cond (ltb text_limit len) (Err (fault (suc (length items)) text_limit TooLong)) (Ok commands)

pub fault_within : (p : Kind) (text : List ℕ) (f : Fault) → length text ≤ text_limit → HasFault p text f → ShowsBy p text (Err f)
fault_within p text f le h = within_limit p text f (subst (λ (t : List ℕ). HasFault p t f) (sym (take_all text_limit text le)) h)

pub fault_of_prefix : (p : Kind) (prefix more : List ℕ) (f : Fault) → length prefix ≡ text_limit → HasFault p prefix f → ShowsBy p (prefix ++ more) (Err f)
fault_of_prefix p prefix more f e h = within_limit p (prefix ++ more) f (subst (λ (t : List ℕ). HasFault p t f) (sym (take_at prefix more text_limit e)) h)

pub too_long_text : {p : Kind} {keep : Keep} (r : Progress) (prefix more : List ℕ) → length prefix ≡ text_limit → 0 < length more → Holds r p keep prefix → ShowsBy p (prefix ++ more) (Err (fault (r.lines + 1) text_limit TooLong))
unfolding checks_len
too_long_text r prefix more e some h =
    let long : text_limit < length (prefix ++ more) = omega (arith, length-append prefix more) in
    let place : suc (length h.lines) ≡ r.lines + 1 = omega (arith, h.count) in
    record {
      lines = h.lines;
      rest = r.line.items;
      splits = subst (λ (t : List ℕ). Splits t h.lines r.line.items) (sym (take_at prefix more text_limit e)) h.splits;
      answer_is = sym (ap (λ s. s >>= checks_len (length (prefix ++ more)) h.lines) h.spelled ∙ (ap (λ t. cond t (Err (fault (suc (length h.lines)) text_limit TooLong)) (Ok h.commands)) (lt-ltb text_limit (length (prefix ++ more)) long) ∙ ap (λ n. Err (fault n text_limit TooLong)) place));
    }

pub refuses_within : (old : Progress) (piece : List ℕ) (e : Fail) → old.offset + length piece ≤ text_limit → Refuses old piece e → RefusesText old piece e
refuses_within old piece fails.Memory le h = λ p keep text holds. tt
refuses_within old piece (fails.Refused f) le h = λ p keep text holds. fault_within p (text ++ piece) f (omega (arith, holds.offset, length-append text piece)) (h p keep text holds)

pub refuses_beyond : (old : Progress) (prefix more : List ℕ) (e : Fail) → old.offset + length prefix ≡ text_limit → Refuses old prefix e → RefusesText old (prefix ++ more) e
refuses_beyond old prefix more fails.Memory len h = λ p keep text holds. tt
refuses_beyond old prefix more (fails.Refused f) len h = λ p keep text holds.
    subst (λ (t : List ℕ). ShowsBy p t (Err f)) (append_assoc text prefix more) (fault_of_prefix p (text ++ prefix) more f (omega (arith, holds.offset, length-append text prefix)) (h p keep text holds))
