use Rattle.board.proofs.Common.{◌≡◌, Option, List, length, drop, sym, subst, ◌∙◌, take_at, AreBestPads, BestPad}
use Rattle.board.proofs.bests.PadsOnBoard.best_pads.Goals as goal

pub returns : goal.returns
returns g c =
    let all : length c.try_pads.new.bests ≡ c.in_ok-bests.bests.len = c.try_pads.auto.bests ∙ c.deref_mut.ensures.len in
    subst (λ (bs : List (Option BestPad)). AreBestPads g.S.PadShape.covers c.args.self.now.pads.now c.args.self.now.holes.now bs)
    (sym (take_at c.try_pads.new.bests (drop (length c.try_pads.new.bests) c.in_ok-bests.bests.items) c.in_ok-bests.bests.len all))
    c.in_ok-try_pads.ensures
