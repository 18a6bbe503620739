use Rattle.macro_shapes.proofs.Common.{ap, ◌∙◌, w64, to_z-of_z, to_z, of_z, in_range}
use Rattle.macro_shapes.proofs.ArithmeticLemmas.{in_range_is}
use Rattle.macro_shapes.proofs.arithmetic.in_range.Goals as goal

pub returns : goal.returns
returns c =
    in_range_is c.from_units.result (to_z w64 (of_z w64 c.args.units)) c.from_units.ensures.valid c.from_units.ensures.value
    ∙ ap in_range (to_z-of_z w64 c.args.units c.ranges.units)
