use Rattle.manifest.proofs.ManifestReasons.{manifest_is_listed}
use Rattle.manifest.proofs.laws.manifest_reasons.Goals as goal

pub returns : goal.returns
returns c = manifest_is_listed
