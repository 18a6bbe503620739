use Rattle.package_check.proofs.LayerFiles as files
use Rattle.package_check.proofs.laws.layers_have_files.Goals as goal

pub returns : goal.returns
returns c = files.layers_have_files
