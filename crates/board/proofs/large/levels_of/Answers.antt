use Rattle.std.proofs.lemmas.List.Elements.{All-push}
use Rattle.board.proofs.Common.{sym, subst, ◌∙◌, All, AreGroups}
use Rattle.board.proofs.large.levels_of.Goals as goal
use Rattle.board.proofs.large.levels_of.Goals.{then-size-order+in_ok-level_of+in_ok-push, else-size-order}

pub loop-size-preserved : goal.loop-size-preserved
loop-size-preserved g c =
    let are = AreGroups g.S.PadShape.covers c.args.pads.now c.args.order.now in
    elim c.if-size-order.branch [
      | then-size-order+in_ok-level_of+in_ok-push w ↦
          subst (All are) (sym ((λ i. (w.levels-is i).items) ∙ w.in_ok-push.ensures.items)) (All-push are c.loop-size.levels.items w.in_ok-level_of.field-0 c.loop-size.invariant w.in_ok-level_of.ensures)
      | else-size-order w ↦ subst (All are) (λ i. (sym w.levels-is i).items) c.loop-size.invariant
    ]
