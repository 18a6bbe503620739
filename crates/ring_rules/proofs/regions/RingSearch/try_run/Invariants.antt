use Rattle.ring_rules.proofs.Common.{◌≡◌, false, gives_ring_at, RemovesMarks, NoMarkPassesFrom, HasNoMarkFrom}
use Rattle.ring_rules.proofs.regions.RingSearch.try_run.Given as goal

-- the spots so far are tried
abbrev pub invariant-loop-i : goal.invariant-loop-i
invariant-loop-i g l = record {
  removes : RemovesMarks (gives_ring_at g.S.PadShape.covers l.self.index.now l.self.pad.now) l.initial.marks l.marks;
  tried : NoMarkPassesFrom (gives_ring_at g.S.PadShape.covers l.self.index.now l.self.pad.now) l.fn.run.start l.i l.marks;
  none : l.is_left ≡ false → HasNoMarkFrom l.fn.run.start l.i l.marks;
}
