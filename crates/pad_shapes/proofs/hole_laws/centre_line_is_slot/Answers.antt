use Rattle.pad_shapes.proofs.HoleLawsLemmas.{centre_line_is_slot}
use Rattle.pad_shapes.proofs.hole_laws.centre_line_is_slot.Goals as goal

pub returns : goal.returns
returns c = centre_line_is_slot
