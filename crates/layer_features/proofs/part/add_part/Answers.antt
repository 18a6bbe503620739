-- The part was added, and the parts may have been forgotten since.
use Rattle.layer_features.proofs.Common.{◌++◌, [], List, Option, subst, sym, cons_option, Part, MakeSameContour}
use Rattle.layer_features.proofs.ForgettingLemmas.{none_added}
use Rattle.layer_features.proofs.part.add_part.Goals as goal

pub returns-in_ok-forget-in-Some : goal.returns-in_ok-forget-in-Some
returns-in_ok-forget-in-Some c =
    subst (λ (o : Option Part). MakeSameContour c.forget.new.parts.items (c.args.parts.now.items ++ cons_option o [])) (sym c.in-Some.is)
    (subst (λ (l : List Part). MakeSameContour c.forget.new.parts.items l) c.in_ok-push-in-Some.ensures.items c.in_ok-forget-in-Some.ensures)

pub returns-in-None : goal.returns-in-None
returns-in-None c = subst (λ (o : Option Part). MakeSameContour c.args.parts.now.items (c.args.parts.now.items ++ cons_option o [])) (sym c.in-None.is) (none_added c.args.parts.now.items)
