use Rattle.board.proofs.Common.{inl, inr}
use Rattle.board.proofs.BestPadsLemmas.{all_improve_twice, all_still_no_better, best_pads_of_all}
use Rattle.board.proofs.bests.PadsOnBoard.try_pads.Goals as goal

pub returns : goal.returns
returns g c =
    let covers = g.S.PadShape.covers in
    let pads = c.args.self.now.pads.now in
    let holes = c.args.self.now.holes.now in
    best_pads_of_all covers pads holes g.met.S.DepthShape.covers_less c.args.bests.now c.try_large.new.bests c.requires.size c.requires.none
    (all_improve_twice covers pads holes c.args.bests.now c.try_small.new.bests c.try_large.new.bests c.in_ok-large.ensures.improves c.in_ok-try_large.ensures.improves)
    (λ place h. elim (c.in_ok-large.ensures.tried place h) [
      | inl listed ↦ c.in_ok-try_large.ensures.below place listed
      | inr tried ↦ all_still_no_better covers pads holes place c.try_small.new.bests c.try_large.new.bests c.in_ok-try_large.ensures.improves tried
    ])
