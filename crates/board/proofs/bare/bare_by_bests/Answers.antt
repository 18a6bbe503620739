use Rattle.board.proofs.Common.{◌≡◌, map, sym, subst, ◌∙◌, IfOk-weaker, AreBare, has_no_best_pad}
use Rattle.board.proofs.BareLemmas.{bare_by_bests}
use Rattle.board.proofs.bare.bare_by_bests.Goals as goal

pub returns : goal.returns
returns g c =
    let pads = c.args.pads.now in
    let holes = c.args.holes.now in
    let bests = c.in_ok-bests.bests.items in
    IfOk-weaker c.without_best_pad.result (λ v. v.items ≡ map has_no_best_pad c.deref.result.now) (λ v. AreBare g.S.PadShape.covers pads holes v.items)
    (λ v is. subst (AreBare g.S.PadShape.covers pads holes) (sym (is ∙ (λ i. map has_no_best_pad (c.deref.ensures.value i)))) (bare_by_bests g.S.PadShape.covers pads holes bests c.in_ok-bests.ensures)) c.without_best_pad.ensures
