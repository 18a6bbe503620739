use Rattle.ring_rules.proofs.Common.{gives_ring_at, RemovesMarks, AreMarksOver, NoMarkPassesIn}
use Rattle.ring_rules.proofs.regions.RingSearch.try_rows.Given as goal

-- the rows so far are tried
abbrev pub invariant-loop-row : goal.invariant-loop-row
invariant-loop-row g l = record {
  over : AreMarksOver l.self.index.now l.open_nodes l.marks;
  removes : RemovesMarks (gives_ring_at g.S.PadShape.covers l.self.index.now l.self.pad.now) l.initial.marks l.marks;
  tried : NoMarkPassesIn (gives_ring_at g.S.PadShape.covers l.self.index.now l.self.pad.now) l.self.index.now.cells.x l.self.index.now.cells.y l.self.index.now.cells.spots l.region.top l.row l.region.left l.region.right l.marks;
}
