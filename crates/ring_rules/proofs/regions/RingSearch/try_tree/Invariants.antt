use Rattle.ring_rules.proofs.Common.{◌-◌, length, gives_ring_at, RemovesMarks, AreMarksOver, NoMarkPassesFrom}
use Rattle.ring_rules.proofs.regions.RingSearch.try_tree.Given as goal

-- the spots before `done` are tried
abbrev pub invariant-loop-i : goal.invariant-loop-i
invariant-loop-i g l = record {
  over : AreMarksOver l.self.index.now l.open_nodes l.marks;
  removes : RemovesMarks (gives_ring_at g.S.PadShape.covers l.self.index.now l.self.pad.now) l.initial.marks l.marks;
  tried : NoMarkPassesFrom (gives_ring_at g.S.PadShape.covers l.self.index.now l.self.pad.now) l.fn.run.start l.done l.marks;
}

abbrev pub decreases-loop-i : goal.decreases-loop-i
decreases-loop-i g l = length l.self.index.now.cells.nodes.items - l.i
