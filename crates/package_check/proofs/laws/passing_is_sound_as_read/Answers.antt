use Rattle.package_check.proofs.Passing.{passing_is_sound}
use Rattle.package_check.proofs.laws.passing_is_sound_as_read.Goals as goal

pub returns : goal.returns
returns c = passing_is_sound c.holes_hold.ensures c.rings_hold.ensures.straight c.gaps_hold.ensures
