use Rattle.package_check.proofs.ReadingUniqueness as once
use Rattle.package_check.proofs.laws.unique_reading.Goals as goal

pub returns : goal.returns
returns c = once.unique_reading c.readings_in_profiles.ensures.unique c.unique_reading.ensures.read c.drill_texts.ensures c.readings_of_kinds.ensures.read
