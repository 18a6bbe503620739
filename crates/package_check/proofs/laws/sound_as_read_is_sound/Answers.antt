use Rattle.package_check.proofs.WrittenPackages as written
use Rattle.package_check.proofs.laws.sound_as_read_is_sound.Goals as goal

pub returns : goal.returns
returns c = written.sound_as_read_is_sound c.exact_texts.ensures.written c.flashed_pads.ensures.layer c.wide_pads.ensures.legal c.text_grammar.ensures.written c.drilled_holes.ensures.drilled c.wide_grammar.ensures.written c.wide_holes.ensures c.drill_texts.ensures c.strict_profile.ensures.read c.readings_of_kinds.ensures.same c.mixed_files.ensures.called
