use Rattle.pad_shapes.proofs.HoleLawsLemmas.{holds_along_axis}
use Rattle.pad_shapes.proofs.hole_laws.slots_along_axes_are_as_cores.Goals as goal

pub returns-clause-holds : goal.returns-clause-holds
returns-clause-holds g c s = holds_along_axis (g.S.PadShape.points s)
