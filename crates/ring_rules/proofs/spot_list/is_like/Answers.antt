use Rattle.ring_rules.proofs.Common.{sym, ◌∙◌}
use Rattle.std.proofs.lemmas.Bool.{eqb-true}
use Rattle.ring_rules.proofs.FormLemmas.{like, passed_alike}
use Rattle.ring_rules.proofs.spot_list.is_like.Goals as goal
use Rattle.ring_rules.proofs.spot_list.is_like.Goals.{then-way_x, else-way_x}

pub returns-then-way_y : goal.returns-then-way_y
returns-then-way_y c = λ e. elim c.if-way_x.branch [
  | then-way_x w ↦ like c.args.form.now c.args.hole.now
      (sym c.way_x.ensures.value ∙ (passed_alike c.way_x.result c.way_x-2.result c.way_x.type_inv c.way_x-2.type_inv w.if-way_x.true ∙ c.way_x-2.ensures.value))
      (sym w.way_y.ensures.value ∙ (passed_alike w.way_y.result w.way_y-then-way_x.result w.way_y.type_inv w.way_y-then-way_x.type_inv (eqb-true _ _ (sym w.value-is ∙ c.if-way_y.true)) ∙ w.way_y-then-way_x.ensures.value))
      (let r = sym c.radius.ensures.value ∙ (passed_alike c.radius.result c.radius-then-way_y.result c.radius.type_inv c.radius-then-way_y.type_inv (eqb-true _ _ e) ∙ c.radius-then-way_y.ensures.value) in cc)
  | else-way_x w ↦ absurd (w.if-way_x.false (eqb-true _ _ (sym w.value-is ∙ c.if-way_y.true)))
]
