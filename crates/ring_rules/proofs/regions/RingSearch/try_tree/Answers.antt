use Rattle.ring_rules.proofs.Common.{arith, gives_ring_at}
use Rattle.ring_rules.proofs.MarksLemmas.{removes_none, removes_both}
use Rattle.ring_rules.proofs.TreeLemmas.{passes_both, still_over}
use Rattle.ring_rules.proofs.regions.RingSearch.try_tree.Goals as goal

pub loop-i-init : goal.loop-i-init
loop-i-init g c = record { over = c.requires.over; removes = removes_none _ c.args.marks.now; tried = λ i from below. absurd (omega (arith, from, below)) }

pub loop-i-preserved : goal.loop-i-preserved
loop-i-preserved g c =
    let removes = removes_both _ c.args.marks.now c.loop-i.marks c.try_next-next.new.marks c.loop-i.invariant.removes c.try_next-next.ensures.removes in
    record { over = c.try_next-next.ensures.over; removes = removes; tried = c.try_next-next.ensures.tried c.args.run.start c.loop-i.invariant.tried }

pub returns : goal.returns
returns g c =
    let test = gives_ring_at g.S.PadShape.covers c.args.self.now.index.now c.args.self.now.pad.now in
    let now = c.try_run.ensures.removes in
    record {
      over = still_over c.args.self.now.index.now test c.loop-i.open_nodes c.loop-i.marks c.try_run.new.marks now c.loop-i.invariant.over;
      removes = removes_both test c.args.marks.now c.loop-i.marks c.try_run.new.marks c.loop-i.invariant.removes now;
      tried = passes_both test c.args.run.start c.loop-i.done c.loop-i.done c.args.run.end c.loop-i.marks c.try_run.new.marks now (omega arith) c.loop-i.invariant.tried c.try_run.ensures.tried;
    }
