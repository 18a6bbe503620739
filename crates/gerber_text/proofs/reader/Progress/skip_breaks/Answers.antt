use Rattle.gerber_text.proofs.Common.{List, take, sym, subst, arith, length-append, length-take, recursion_from_All, is_line_break, Splits, OffsetByte}
use Rattle.std.specs.Prelude.{◌≡◌, true}
use Rattle.gerber_text.proofs.OffsetByteLemmas.{offset_bytes-breaks}
use Rattle.gerber_text.proofs.reader.Progress.skip_breaks.Goals as goal

pub returns-clause-ok : goal.returns-clause-ok
returns-clause-ok c profile gone text h =
    let run = take c.breaks_len-len.result c.args.bytes.now in
    record {
      items = h.items;
      rest = h.rest;
      splits = subst (λ (ms : List OffsetByte). Splits ms h.items h.rest) (sym (offset_bytes-breaks text run (recursion_from_All (λ b. is_line_break b ≡ true) run c.breaks_len-len.ensures.breaks))) h.splits;
      commands = h.commands;
      profile_is = h.profile_is;
      latest = h.latest;
      count = h.count;
      pending = h.pending;
      start = h.start;
      offset = omega (arith, h.offset, length-append text run, length-take c.breaks_len-len.result c.args.bytes.now, c.breaks_len-len.ensures.within);
      ended = h.ended;
    }
