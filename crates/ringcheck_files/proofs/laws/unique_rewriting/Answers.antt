use Rattle.ringcheck_files.proofs.RewritingUniqueness as once
use Rattle.ringcheck_files.proofs.laws.unique_rewriting.Goals as goal

pub returns : goal.returns
returns c = once.unique_rewriting c.readings_in_profiles.ensures.unique c.unique_reading.ensures.read c.drill_texts.ensures
