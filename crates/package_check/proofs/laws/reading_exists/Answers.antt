use Rattle.package_check.proofs.Existence as existence
use Rattle.package_check.proofs.laws.reading_exists.Goals as goal

pub returns : goal.returns
returns c = existence.reading_exists c.readings_in_profiles.ensures.each c.first_faults.ensures.answer c.first_faults.ensures.first c.readings_of_kinds.ensures.some
