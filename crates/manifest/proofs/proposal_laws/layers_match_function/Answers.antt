use Rattle.manifest.proofs.FunctionLayers.{names_its_own}
use Rattle.manifest.proofs.StackLemmas.{all_among, in_place}
use Rattle.manifest.proofs.proposal_laws.layers_match_function.Goals as goal

pub returns : goal.returns
returns c = record { own = names_its_own; among = λ profile files entries in_manifest_order. all_among profile files entries in_manifest_order.permutation; placed = in_place }
