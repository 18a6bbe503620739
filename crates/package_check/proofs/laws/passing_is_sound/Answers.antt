use Rattle.package_check.proofs.laws.passing_is_sound.Goals as goal

pub returns : goal.returns
returns c sources rules report is none = c.sound_as_read_is_sound.ensures sources rules (c.passing_is_sound_as_read.ensures sources rules report is none)
