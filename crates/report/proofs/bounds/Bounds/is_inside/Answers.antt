use Rattle.report.proofs.Common.{sym, ap, ◌∙◌, GridPoint, rounded_covers, covers_both_ends}
use Rattle.report.proofs.FirstInHole.{inside_in}
use Rattle.report.proofs.bounds.Bounds.is_inside.Goals as goal

pub returns-then-covers_slot : goal.returns-then-covers_slot
returns-then-covers_slot c = λ e held w.
    let h = c.args.hole.now in
    let b = c.args.self.now in
    let below = ap (λ (to : GridPoint). covers_both_ends rounded_covers h b.least to 0) (sym c.corner.ensures) ∙ sym c.covers_slot.ensures ∙ c.if-covers_slot.true in
    let above = ap (λ (from : GridPoint). covers_both_ends rounded_covers h from b.greatest 0) (sym c.corner-then-covers_slot.ensures) ∙ sym c.covers_slot-then-covers_slot.ensures ∙ e in
    inside_in h c.requires b held below above w
