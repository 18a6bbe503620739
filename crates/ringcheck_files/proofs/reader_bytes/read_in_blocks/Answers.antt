use Rattle.ringcheck_files.proofs.Common.{◌++◌, ℕ, List, Ok, Option, take, arith, subst, append_assoc, IsNextRead}
use Rattle.ringcheck_files.proofs.HandingOn.{handed_more}
use Rattle.ringcheck_files.proofs.reader_bytes.read_in_blocks.Goals as goal

pub hand_on-requires : goal.hand_on-requires
hand_on-requires g c = c.loop-read_counter.invariant.within

pub loop-read_counter-preserved-in-Ok-Some : goal.loop-read_counter-preserved-in-Ok-Some
loop-read_counter-preserved-in-Ok-Some g c =
    let inv = c.loop-read_counter.invariant in
    let total = c.in_ok-total-in-Ok-Some.ensures.total in
    let gives =
    subst (λ (o : Option ℕ). IsNextRead (g.R.Read.remaining c.loop-read_counter.reader) (g.R.Read.remaining c.read.new.reader) c.read.new.block (Ok o)) c.in-Ok-Some.field-0-is c.in-Ok-Some.ensures.gives in
    let piece = take c.in-Ok-Some.count c.read.new.block in
    record {
      block = omega (arith, inv.block, c.read.auto.block);
      made = omega (arith, c.read.ensures.made, c.made.ensures, c.loop-read_counter-test.true);
      within = total.1;
      so_far =
          handed_more (g.R.Read.remaining c.args.reader.now) (g.R.Read.remaining c.loop-read_counter.reader) (g.R.Read.remaining c.read.new.reader)
          (λ bytes. (start : g.row.S.Denot) (text : List ℕ) → g.S.Sink.has_taken start c.args.sink.now text → g.S.Sink.has_taken start c.loop-read_counter.sink (text ++ bytes))
          (λ bytes. (start : g.row.S.Denot) (text : List ℕ) → g.S.Sink.has_taken start c.args.sink.now text → g.S.Sink.has_taken start c.hand_on.new.sink (text ++ bytes)) c.loop-read_counter.total
          c.in_ok-total-in-Ok-Some.total piece inv.so_far gives.1 total.0
          (λ bytes so_far start text h. subst (g.S.Sink.has_taken start c.hand_on.new.sink) (append_assoc text bytes piece) (c.in_ok-total-in-Ok-Some.ensures.taken start (text ++ bytes) (so_far start text h)));
    }
