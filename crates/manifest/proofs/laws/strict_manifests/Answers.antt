use Rattle.manifest.proofs.StrictManifests.{same_manifest}
use Rattle.manifest.proofs.laws.strict_manifests.Goals as goal

pub returns : goal.returns
returns c = same_manifest
