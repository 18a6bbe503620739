use Rattle.print_json.proofs.Common.{sym}
use Rattle.print_json.proofs.Lists.{length_files}
use Rattle.print_json.proofs.arrays.FilesValues.count.Goals as goal

pub returns : goal.returns
returns c = sym (length_files _ _ _)
