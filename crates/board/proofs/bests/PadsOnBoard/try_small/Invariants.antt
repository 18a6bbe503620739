use Rattle.board.proofs.Common.{◌<◌, length, All, AllImprove, AreTriedOrLarge}
use Rattle.board.proofs.bests.PadsOnBoard.try_small.Given as goal

-- each pad so far was tried or is listed
abbrev pub invariant-loop-place : goal.invariant-loop-place
invariant-loop-place g l = record {
  improves : AllImprove g.S.PadShape.covers l.self.pads.now l.self.holes.now l.initial.bests l.bests;
  large : All (λ k. k < length l.self.pads.now) l.large.items;
  tried : AreTriedOrLarge g.S.PadShape.covers l.self.pads.now l.place l.self.holes.now l.large.items l.bests;
}
