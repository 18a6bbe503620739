use Rattle.board.proofs.Common.{◌≡◌, Bool, false, length, sym, subst, ◌∙◌, get_or_default, replicate, IfOk-weaker, AreBare}
use Rattle.board.proofs.BareLemmas.{none_bare}
use Rattle.board.proofs.bare.bare_holes.Goals as goal

pub returns-in-Some : goal.returns-in-Some
returns-in-Some g c =
    IfOk-weaker c.vec-in-Some.result (λ v. ((y : Bool) → y ≡ false → y ≡ false) → v.items ≡ replicate (length c.args.holes.now) false) (λ v. AreBare g.S.PadShape.covers c.args.pads.now c.args.holes.now v.items)
    (λ v is. subst (AreBare g.S.PadShape.covers c.args.pads.now c.args.holes.now) (sym (is (λ y same. same)))
    (none_bare g.S.PadShape.covers c.args.pads.now c.args.holes.now c.in-Some.place c.index-pads-place.result c.in-Some.ensures.place (λ s. get_or_default c.args.pads.now c.in-Some.place s c.index-pads-place.result c.in-Some.ensures.place ∙ sym c.index-pads-place.is) (sym c.covers_all.ensures ∙ c.if-covers_all.true)))
    c.vec-in-Some.ensures.items_if_clones_equal
