use Rattle.pad_shapes.specs.Inner.RoundedLaws.{rounded_contains_lines}
use Rattle.pad_shapes.proofs.laws.rounded_holds_oblique_slots.Goals as goal

pub returns : goal.returns
returns c = rounded_contains_lines
