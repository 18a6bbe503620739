use Rattle.board.proofs.GroupLemmas.{hull_of_wider}
use Rattle.board.proofs.Common.{[]}
use Rattle.board.proofs.large.hull_around.Goals as goal

pub returns-clause-pad : goal.returns-clause-pad
returns-clause-pad g c = hull_of_wider g.S.PadShape.covers [] c.args.pad.now c.in_ok-hull-2.field-0 c.around.result c.in_ok-hull-2.ensures c.around.ensures.other
