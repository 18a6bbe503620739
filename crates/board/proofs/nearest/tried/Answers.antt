use Rattle.board.proofs.TriedPairs.{tried_far, tried_old, tried_new}
use Rattle.board.proofs.nearest.tried.Goals as goal

pub returns-then-is_further : goal.returns-then-is_further
returns-then-is_further c = tried_far c.args.holes.now c.args.first c.args.second c.args.best c.requires (c.is_further.ensures c.if-is_further.true)

pub returns-then-is_no_further : goal.returns-then-is_no_further
returns-then-is_no_further c =
    tried_old c.args.holes.now c.args.first c.args.second c.args.best c.pair_at-next.result c.requires c.pair_at-next.ensures (c.is_no_further.ensures.first c.if-is_no_further.true)

pub returns-else-is_no_further : goal.returns-else-is_no_further
returns-else-is_no_further c =
    tried_new c.args.holes.now c.args.first c.args.second c.args.best c.pair_at-next.result c.if-second-first.false c.if-holes-second.false c.pair_at-next.ensures (c.is_no_further.ensures.other c.if-is_no_further.false)
