use Rattle.layer_state.proofs.Common.{arith}
use Rattle.layer_state.proofs.KeptFlashesLemmas.{pads_and_others}
use Rattle.layer_state.proofs.flashes.Flashes.pad_count.Goals as goal

pub returns : goal.returns
returns c parts flashes h = omega (arith, h.count, h.others, pads_and_others flashes)
