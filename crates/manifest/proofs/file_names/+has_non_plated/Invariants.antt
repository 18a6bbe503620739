use Rattle.manifest.proofs.Common.{length}
use Rattle.manifest.proofs.file_names.+has_non_plated.Given as goal

abbrev pub decreases-has_non_plated : goal.decreases-has_non_plated
decreases-has_non_plated l = length l.words.now
