-- One part that makes no contour stands for parts that make none.
use Rattle.layer_features.proofs.Common.{◌≡◌, ◌∙◌, List, [], ◌∷◌, ◌++◌, ap, subst, sym, true, Part, starts_no_pad, MakeSameContour}
use Rattle.layer_features.specs.declared.part.Part.TheVariants as part
use Rattle.layer_features.proofs.ForgettingLemmas.{forgotten}
use Rattle.layer_features.proofs.forget.forget.Goals as goal

pub returns : goal.returns
returns c =
    let old = c.args.parts.now.items in
    let over : starts_no_pad old ≡ true = ap starts_no_pad (sym c.deref.ensures.value) ∙ (sym c.in_ok-over.ensures ∙ c.if-not-over.false) in
    let one : c.push.new.self.items ≡ part.Other ∷ [] = c.in_ok-push.ensures.items ∙ ap (λ (l : List Part). l ++ part.Other ∷ []) c.clear.ensures.items in
    subst (λ (l : List Part). MakeSameContour l old) (sym one) (forgotten old over)
