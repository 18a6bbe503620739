use Rattle.ring_rules.proofs.Common.{spot_at, gives_ring, is_marked, RingIndex}
use Rattle.ring_rules.proofs.MarksAfterPads.{marked_by_more}
use Rattle.ring_rules.proofs.pads.try_pads.Goals as goal

pub loop-pad-preserved : goal.loop-pad-preserved
loop-pad-preserved g c =
    let index : RingIndex = c.args.index.now in
    record {
      over = c.try_pad.ensures.over;
      marked = λ i h. marked_by_more (gives_ring g.S.PadShape.covers index.rules.profile index.rules.ring (spot_at index.cells.spots i).hole) c.args.pads.now c.loop-pad.pad-index c.pad-item.result c.loop-pad-test.true c.pad-item.is
          (is_marked c.args.marks.now i) (is_marked c.loop-pad.marks i) (is_marked c.try_pad.new.marks i) (c.loop-pad.invariant.marked i h)
          (c.try_pad.ensures.removes.kept i) (c.try_pad.ensures.removes.passed i) (c.try_pad.ensures.tried i h);
    }
