use Rattle.package_check.proofs.SaidOnce.{holes_once, pads_once}
use Rattle.package_check.proofs.laws.files_say_once.Goals as goal

pub returns : goal.returns
returns c = record {
  pads = pads_once c.exact_texts.ensures.unique c.flashed_pads.ensures.unique c.wide_pads.ensures.unique;
  holes = holes_once c.text_grammar.ensures.one c.drilled_holes.ensures.one c.mixed_files.ensures.listed;
}
