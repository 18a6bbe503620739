use Rattle.drill_text.proofs.WideDrilling.{wide_holes_are_drilled}
use Rattle.drill_text.proofs.laws.wide_holes.Goals as goal

pub returns : goal.returns
returns c = wide_holes_are_drilled
