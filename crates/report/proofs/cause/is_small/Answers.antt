use Rattle.report.proofs.Common.{◌≡◌, ◌+◌, ◌∙◌, ap, subst, GridPoint, abs_diff, half_apart}
use Rattle.std.specs.Prelude.{not}
use Rattle.report.proofs.PadSymmetry.{ends_alike}
use Rattle.report.proofs.cause.is_small.Goals as goal

pub returns : goal.returns
returns c =
    let pad = c.args.pad.now in
    let h = c.args.hole.now in
    let at = c.end_at.result in
    let x = subst (λ (m : GridPoint). abs_diff at.x m.x ≡ half_apart h.from.x h.to.x) c.middle.ensures c.end_at.ensures.x in
    let y = subst (λ (m : GridPoint). abs_diff at.y m.y ≡ half_apart h.from.y h.to.y) c.middle.ensures c.end_at.ensures.y in
    ap not (c.covers_ring.ensures ∙ ends_alike pad h at (h.radius + c.args.rules.ring) x y)
