use Rattle.std.proofs.lemmas.List.Elements.{All-push}
use Rattle.board.proofs.Common.{sym, subst, All, IsGroup}
use Rattle.board.proofs.large.level_of.Goals as goal

pub loop-start-preserved : goal.loop-start-preserved
loop-start-preserved g c =
    let is = IsGroup g.S.PadShape.covers c.args.pads.now c.args.order.now in
    subst (All is) (sym c.in_ok-push.ensures.items) (All-push is c.loop-start.groups.items c.group_of.result c.loop-start.invariant c.group_of.ensures)
