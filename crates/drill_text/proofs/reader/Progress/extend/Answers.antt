use Rattle.drill_text.proofs.Common.{◌≡◌, ◌≢◌, ◌+◌, suc, ℕ, List, ◌++◌, Err, length, sym, ap, subst, ◌∙◌, arith, length-append, recursion_from_All, TooLong, Splits, fault, shown_by, Refuses}
use Rattle.drill_text.proofs.SplitsLemmas.{Splits-grow}
use Rattle.drill_text.proofs.ProfileLemmas.{shown_by_ok, show_by_ok, show_by_long}
use Rattle.drill_text.proofs.reader.Progress.extend.Goals as goal

pub returns-clause-ok : goal.returns-clause-ok
returns-clause-ok c p keep text h =
    let old = c.args.self.now in
    let run = c.args.run.now in
    let items = c.in_ok-extend_from_slice.ensures.items in
    let before = shown_by_ok p h.lines old.line.items h.commands h.spelled in
    record {
      lines = h.lines;
      splits = subst (λ (x : List ℕ). Splits (text ++ run) h.lines x) (sym items) (Splits-grow text h.lines old.line.items run h.splits (recursion_from_All (λ b. b ≢ 10) run c.requires.inside));
      commands = h.commands;
      spelled = ap (shown_by p h.lines) items ∙ show_by_ok p h.lines (old.line.items ++ run) h.commands before.0 (omega (arith, length-append old.line.items run, old.line.ok.0, c.if-run-len.false));
      has_read = h.has_read;
      count = h.count;
      start = h.start;
      offset = omega (arith, h.offset, length-append text run);
    }

pub returns-then-run-len-clause-err : goal.returns-then-run-len-clause-err
returns-then-run-len-clause-err c = subst (Refuses c.args.self.now c.args.run.now) (sym c.refusal.ensures) (λ p keep text h.
    let old = c.args.self.now in
    let run = c.args.run.now in
    let before = shown_by_ok p h.lines old.line.items h.commands h.spelled in
    let place : suc (length h.lines) ≡ old.lines + 1 = omega (arith, h.count) in
    record {
      lines = h.lines;
      rest = old.line.items ++ run;
      splits = Splits-grow text h.lines old.line.items run h.splits (recursion_from_All (λ b. b ≢ 10) run c.requires.inside);
      fault = show_by_long p h.lines (old.line.items ++ run) h.commands before.0 (omega (arith, length-append old.line.items run, old.line.ok.0, c.if-run-len.true)) ∙ (ap (λ b. Err (fault (suc (length h.lines)) b TooLong)) (sym h.start) ∙ ap (λ n. Err (fault n old.start TooLong)) place);
    })
