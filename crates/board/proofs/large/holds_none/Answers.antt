use Rattle.board.proofs.Common.{sym, subst, GridPoint, IsDeepIn}
use Rattle.board.proofs.GroupLemmas.{holds_not_first, holds_not_second}
use Rattle.board.proofs.large.holds_none.Goals as goal

pub returns-then-not-holds : goal.returns-then-not-holds
returns-then-not-holds c = λ e. holds_not_first c.args.hull.now c.in-Some.hull c.args.depth c.args.hole.now c.holds.result c.in-Some.is e
    (λ deep. c.holds.ensures (subst (λ (p : GridPoint). IsDeepIn c.in-Some.hull p c.args.depth) (sym c.from.ensures) deep))

pub returns-else-not-holds : goal.returns-else-not-holds
returns-else-not-holds c = λ e. holds_not_second c.args.hull.now c.in-Some.hull c.args.depth c.args.hole.now c.holds-else-not-holds.result c.in-Some.is e
    (λ deep. c.holds-else-not-holds.ensures (subst (λ (p : GridPoint). IsDeepIn c.in-Some.hull p c.args.depth) (sym c.to.ensures) deep))
