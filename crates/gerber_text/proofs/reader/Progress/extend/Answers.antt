use Rattle.gerber_text.proofs.Common.{◌≡◌, ◌+◌, ◌<◌, suc, false, ℕ, List, ◌++◌, Err, length, refl, sym, ap, subst, ◌∙◌, arith, AllByRecursion, length-append, recursion_from_All, TooLong, IsInside, end_byte, IsUnfinished, OffsetByte, Splits, offset_bytes, bytes_of, has_end, fault, Refuses, err_from_is_err_and}
use Rattle.gerber_text.proofs.OffsetByteLemmas.{first_offset-append}
use Rattle.gerber_text.proofs.ShowsLemmas.{running_ok, show_ok, show_long, kept_all, out_of_memory}
use Rattle.gerber_text.proofs.ReaderStepLemmas.{FaultsStay, lengthens, run_inside, run_kept, length-bytes_of}
use Rattle.gerber_text.proofs.reader.Progress.extend.Goals as goal

-- a reader inside an item, and a run that stays inside
longer : (item run text : List ℕ) (items : List (List OffsetByte)) (rest : List OffsetByte) → Splits (offset_bytes text) items rest → has_end items ≡ false → item ≡ bytes_of rest → 0 < length item → AllByRecursion (IsInside (end_byte item)) run → FaultsStay text items rest run
longer item run text items rest s none is long inside =
    lengthens text items rest run s (subst (λ (x : List ℕ). IsUnfinished (x ++ run)) is (run_inside item run long (subst IsUnfinished (sym is) (s.partial none)) inside)) (run_kept (end_byte item) run inside)

pub returns-clause-ok : goal.returns-clause-ok
returns-clause-ok c profile gone text h =
    let run = c.args.run.now in
    let item = c.args.self.now.item.items in
    let none = sym h.ended ∙ c.requires.running in
    let is = h.pending none in
    let begun : 0 < length item = omega (arith, c.args.self.now.item.ok.0, c.requires.begun) in
    let long = longer item run text h.items h.rest h.splits none is begun (recursion_from_All (IsInside (end_byte item)) run c.requires.inside) in
    let before = running_ok profile h.items h.rest _ none h.commands in
    let size : length h.rest ≡ length item = sym (length-bytes_of h.rest) ∙ ap length (sym is) in
    let some : 0 < length h.rest = omega (arith, size, begun) in
    record {
      items = h.items;
      rest = h.rest ++ long.more;
      splits = long.splits;
      commands = show_ok profile h.items (h.rest ++ long.more) _ none before.0 (omega (arith, long.long, size, c.args.self.now.item.ok.0, c.if-run-len.false));
      profile_is = h.profile_is;
      latest = h.latest;
      count = h.count;
      pending = λ _. c.in_ok-extend_from_slice.ensures.items ∙ (ap (λ (x : List ℕ). x ++ run) is ∙ sym long.bytes);
      start = λ _ _. h.start none some ∙ sym (first_offset-append h.rest long.more some);
      offset = omega (arith, h.offset, length-append text run);
      ended = h.ended;
    }

pub returns-then-run-len-clause-err : goal.returns-then-run-len-clause-err
returns-then-run-len-clause-err c = subst (Refuses c.args.self.now c.args.self.now.commands.items c.args.run.now) (sym c.refuse.ensures) (λ profile gone text h.
    let run = c.args.run.now in
    let item = c.args.self.now.item.items in
    let none = sym h.ended ∙ c.requires.running in
    let is = h.pending none in
    let begun : 0 < length item = omega (arith, c.args.self.now.item.ok.0, c.requires.begun) in
    let long = longer item run text h.items h.rest h.splits none is begun (recursion_from_All (IsInside (end_byte item)) run c.requires.inside) in
    let before = running_ok profile h.items h.rest _ none h.commands in
    let size : length h.rest ≡ length item = sym (length-bytes_of h.rest) ∙ ap length (sym is) in
    let some : 0 < length h.rest = omega (arith, size, begun) in
    let place : suc (length h.items) ≡ c.args.self.now.items + 1 = omega (arith, h.count) in
    record {
      items = h.items;
      rest = h.rest ++ long.more;
      splits = long.splits;
      kept = length h.items;
      within = omega arith;
      spelled = kept_all profile c.args.self.now gone text h;
      reported = (show_long profile h.items (h.rest ++ long.more) _ none before.0 (omega (arith, long.long, size, c.args.self.now.item.ok.0, c.if-run-len.true)) ∙ (ap (λ b. Err (fault (suc (length h.items)) b TooLong)) (first_offset-append h.rest long.more some ∙ sym (h.start none some)) ∙ ap (λ p. Err (fault p c.args.self.now.start TooLong)) place), sym place);
    })

pub returns-in_err-extend_from_slice-clause-err : goal.returns-in_err-extend_from_slice-clause-err
returns-in_err-extend_from_slice-clause-err c =
    let p = err_from_is_err_and c.from_residual.result c.from_residual.ensures.1 in
    rw (p.1, p.2) (out_of_memory c.args.self.now c.args.self.now.commands.items c.args.run.now refl)
