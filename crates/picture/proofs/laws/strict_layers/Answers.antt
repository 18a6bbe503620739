use Rattle.picture.proofs.StrictLemmas.{strict_plain, strict_rounded, strict_text}
use Rattle.picture.proofs.laws.strict_layers.Goals as goal

pub returns-clause-pads : goal.returns-clause-pads
returns-clause-pads c = strict_plain

pub returns-clause-rounded : goal.returns-clause-rounded
returns-clause-rounded c = strict_rounded

pub returns-clause-text : goal.returns-clause-text
returns-clause-text c = strict_text
