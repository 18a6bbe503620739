use Rattle.package_check.proofs.NoObliqueSlots as slots
use Rattle.package_check.proofs.laws.sound_is_straight.Goals as goal

pub returns : goal.returns
returns c = slots.sound_is_straight c.files_say_once.ensures.holes
