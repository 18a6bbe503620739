-- A region starts, or it can make no contour any more, or a part is added.
use Rattle.layer_features.proofs.Common.{◌++◌, [], List, Option, ap, subst, sym, ◌∙◌, cons_option, pencil_state, Part, part_by, plot_state, is_over, MakeSameContour, parts_after}
use Rattle.layer_features.proofs.ForgettingLemmas.{over_stays, started, went_on}
use Rattle.layer_features.proofs.part.add_parts.Goals as goal

pub returns-then-starts_region : goal.returns-then-starts_region
returns-then-starts_region c =
    let s = pencil_state c.args.pencil.now in
    let old = c.args.parts.now.items in
    subst (λ (l : List Part). MakeSameContour l (parts_after c.args.command.now s old)) (sym c.clear.ensures.items) (started c.args.command.now s old (sym c.starts_region.ensures ∙ c.if-starts_region.true))

pub returns-then-is_over : goal.returns-then-is_over
returns-then-is_over c =
    let s = pencil_state c.args.pencil.now in
    let old = c.args.parts.now.items in
    went_on c.args.command.now s old old (sym c.starts_region.ensures ∙ c.if-starts_region.false) (over_stays old (cons_option (part_by (plot_state s) c.args.command.now) []) (ap is_over (sym c.deref.ensures.value) ∙ (sym c.is_over.ensures ∙ c.if-is_over.true)))

pub returns : goal.returns
returns c =
    let s = pencil_state c.args.pencil.now in
    let old = c.args.parts.now.items in
    went_on c.args.command.now s c.add_part.new.parts.items old (sym c.starts_region.ensures ∙ c.if-starts_region.false)
    (subst (λ (o : Option Part). MakeSameContour c.add_part.new.parts.items (old ++ cons_option o [])) c.part_by.ensures c.in_ok-add_part.ensures)
