use Rattle.manifest.proofs.MixedFileLemmas.{mixed_is_read, never_alone}
use Rattle.manifest.proofs.proposal_laws.mixed_files_are_read.Goals as goal

pub returns : goal.returns
returns c = record { strict = never_alone; wide = mixed_is_read }
