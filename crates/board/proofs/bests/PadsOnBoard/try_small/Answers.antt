use Rattle.board.proofs.Common.{arith}
use Rattle.board.proofs.BestPadsLemmas.{all_improve_twice}
use Rattle.board.proofs.bests.PadsOnBoard.try_small.Goals as goal

pub loop-place-preserved : goal.loop-place-preserved
loop-place-preserved g c = record {
  improves = all_improve_twice g.S.PadShape.covers c.args.self.now.pads.now c.args.self.now.holes.now c.args.bests.now c.loop-place.bests c.try_or_list.new.bests c.loop-place.invariant.improves c.in_ok-try_or_list.ensures.improves;
  large = c.in_ok-try_or_list.ensures.large;
  tried = c.in_ok-try_or_list.ensures.tried;
}

pub returns-clause-tried : goal.returns-clause-tried
returns-clause-tried g c = λ place h. c.loop-place.invariant.tried place (omega (arith, h, c.loop-place-test.false))
