use Rattle.package_check.proofs.BoardsLemmas.{files_counted}
use Rattle.package_check.proofs.laws.file_counts_add_up.Goals as goal

pub returns : goal.returns
returns c = files_counted
