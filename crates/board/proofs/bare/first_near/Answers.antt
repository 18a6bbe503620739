use Rattle.board.proofs.Common.{sym, ◌∙◌, get_or_default}
use Rattle.board.proofs.BareLemmas.{none_more}
use Rattle.board.proofs.bare.first_near.Goals as goal

pub loop-place-preserved : goal.loop-place-preserved
loop-place-preserved g c =
    none_more g.S.PadShape.covers c.args.pads.now c.loop-place.place c.index-pads-place.result c.args.zone.now
    (λ s. get_or_default c.args.pads.now c.loop-place.place s c.index-pads-place.result c.loop-place-test.true ∙ sym c.index-pads-place.is)
    c.loop-place.invariant (c.may_cover.ensures c.if-may_cover.false)
