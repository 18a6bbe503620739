use Rattle.gerber_text.proofs.Common.{◌≡◌, ◌+◌, suc, true, List, ◌++◌, Err, length, sym, ap, subst, ◌∙◌, arith, false≢true, length-append, recursion_from_All, AfterEnd, may_follow_end, OffsetByte, Splits, offset_bytes, offset_bytes_from, fault, Refuses}
use Rattle.gerber_text.proofs.OffsetByteLemmas.{offset_bytes-append}
use Rattle.gerber_text.proofs.SplitsLemmas.{Splits-grow}
use Rattle.gerber_text.proofs.ShowsLemmas.{ended_more, all_follow, stray, kept_all}
use Rattle.gerber_text.proofs.reader.Progress.skip_trailing.Goals as goal

pub returns-in-None-clause-ok : goal.returns-in-None-clause-ok
returns-in-None-clause-ok c profile gone text h =
    let bytes = c.args.bytes.now in
    let more = offset_bytes_from (length text) bytes in
    let some = sym h.ended ∙ c.requires.ended in
    record {
      items = h.items;
      rest = h.rest ++ more;
      splits = subst (λ (ms : List OffsetByte). Splits ms h.items (h.rest ++ more)) (sym (offset_bytes-append text bytes)) (Splits-grow (offset_bytes text) h.items h.rest more h.splits (λ none. absurd (false≢true (sym none ∙ some))));
      commands = ended_more profile h.items h.rest more _ some h.commands ∙ all_follow (length text) (suc (length h.items)) _ bytes (recursion_from_All (λ b. may_follow_end b ≡ true) bytes c.in-None.ensures.none);
      profile_is = h.profile_is;
      latest = h.latest;
      count = h.count;
      pending = λ none. absurd (false≢true (sym none ∙ some));
      start = λ none _. absurd (false≢true (sym none ∙ some));
      offset = omega (arith, h.offset, length-append text bytes);
      ended = h.ended;
    }

pub returns-in-Some-clause-err : goal.returns-in-Some-clause-err
returns-in-Some-clause-err c = subst (Refuses c.args.self.now c.args.self.now.commands.items c.args.bytes.now) (sym c.refuse.ensures) (λ profile gone text h.
    let bytes = c.args.bytes.now in
    let more = offset_bytes_from (length text) bytes in
    let some = sym h.ended ∙ c.requires.ended in
    let at : length text + c.in-Some.at ≡ c.args.self.now.offset + c.in-Some.at = omega (arith, h.offset) in
    let place : suc (length h.items) ≡ c.args.self.now.items + 1 = omega (arith, h.count) in
    let found = c.in-Some.ensures.some in
    record {
      items = h.items;
      rest = h.rest ++ more;
      splits = subst (λ (ms : List OffsetByte). Splits ms h.items (h.rest ++ more)) (sym (offset_bytes-append text bytes)) (Splits-grow (offset_bytes text) h.items h.rest more h.splits (λ none. absurd (false≢true (sym none ∙ some))));
      kept = length h.items;
      within = omega arith;
      spelled = kept_all profile c.args.self.now gone text h;
      reported = (ended_more profile h.items h.rest more _ some h.commands ∙ (stray (length text) (suc (length h.items)) _ bytes c.in-Some.at found.0 (recursion_from_All (λ b. may_follow_end b ≡ true) _ found.1) found.2 ∙ (ap (λ b. Err (fault (suc (length h.items)) b AfterEnd)) at ∙ ap (λ p. Err (fault p (c.args.self.now.offset + c.in-Some.at) AfterEnd)) place)), sym place);
    })
