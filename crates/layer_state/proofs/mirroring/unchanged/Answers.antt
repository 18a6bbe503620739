-- The shape is a rounded polygon already.
use Rattle.layer_state.proofs.Common.{◌≡◌, ◌∙◌, true, Some, ap, subst, GridRounded, is_outline}
use Rattle.layer_state.proofs.OrientLemmas.{unturned}
use Rattle.layer_state.proofs.mirroring.unchanged.Goals as goal

pub returns : goal.returns
returns c =
    ap (λ (r : GridRounded). Some r) c.in_ok-share.ensures
    ∙ unturned c.args.shape.now (subst (λ (r : GridRounded). is_outline r.first r.others ≡ true) c.get.ensures c.others.ensures.in_range.outline)
