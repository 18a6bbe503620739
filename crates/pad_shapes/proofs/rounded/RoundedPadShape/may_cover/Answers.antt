use Rattle.std.proofs.lemmas.Bool.{false_from_ne_true, not-false}
use Rattle.pad_shapes.proofs.rounded.RoundedPadShape.may_cover.Goals as goal

pub returns : goal.returns
returns c = λ missed p r less inside. false_from_ne_true _ (λ e. c.are_apart.ensures (not-false c.are_apart.result missed) p inside (c.centres-own.ensures.bound p r less e))
