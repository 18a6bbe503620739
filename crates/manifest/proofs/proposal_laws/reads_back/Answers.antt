use Rattle.manifest.proofs.DistinctNames.{names_once}
use Rattle.manifest.proofs.ReadsBack.{reads_back}
use Rattle.manifest.proofs.FunctionLayers.{shorts}
use Rattle.manifest.proofs.StackLemmas.{all_among}
use Rattle.manifest.proofs.proposal_laws.reads_back.Goals as goal

pub returns : goal.returns
returns c = λ profile files entries in_manifest_order decision_for. reads_back profile entries (names_once profile files entries in_manifest_order.permutation) (shorts profile files entries in_manifest_order.permutation) (all_among profile files entries in_manifest_order.permutation) decision_for
