use Rattle.pad_shapes.proofs.HoleLawsLemmas.{holds_round}
use Rattle.pad_shapes.proofs.hole_laws.round_holes_are_as_centres.Goals as goal

pub returns-clause-holds : goal.returns-clause-holds
returns-clause-holds g c s = holds_round (g.S.PadShape.points s)
