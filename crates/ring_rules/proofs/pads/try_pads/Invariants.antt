use Rattle.ring_rules.proofs.Common.{◌≡◌, ℕ, ◌<◌, length, take, ◌&&◌, not, list_any, spot_at, gives_ring, is_marked, AreMarksOver}
use Rattle.ring_rules.proofs.pads.try_pads.Given as goal

-- a mark is left where none of the pads so far covers the hole
abbrev pub invariant-loop-pad : goal.invariant-loop-pad
invariant-loop-pad g l = record {
  over : AreMarksOver l.index l.open_nodes l.marks;
  marked : (i : ℕ) → i < length l.index.cells.spots → is_marked l.marks i ≡ (is_marked l.initial.marks i && not (list_any (gives_ring g.S.PadShape.covers l.index.rules.profile l.index.rules.ring (spot_at l.index.cells.spots i).hole) (take l.pad-index l.pads)));
}
