-- The greatest reach is the depth, and without one nothing is covered.
use Rattle.board.proofs.DepthsLemmas.{reach_is_depth, none_is_depth}
use Rattle.board.proofs.shapes.PlacedRoundedDepthShape.depth.Goals as goal

pub returns-in-Some-clause-exact : goal.returns-in-Some-clause-exact
returns-in-Some-clause-exact c = reach_is_depth c.args.self.now c.args.at c.in-Some.reach c.in-Some.ensures

pub returns-in-None-clause-exact : goal.returns-in-None-clause-exact
returns-in-None-clause-exact c = none_is_depth c.args.self.now c.args.at c.in-None.ensures
