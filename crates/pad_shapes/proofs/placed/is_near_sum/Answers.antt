-- The sum fits 128 bits.
use Rattle.std.proofs.Common.{not, ap, ◌∙◌, to_z, of_z}
use Rattle.std.proofs.lemmas.Int.{to_z-of_z}
use mir.Syntax.{w128}
use Rattle.grid_units.specs.Numbers.{is_too_far}
use Rattle.pad_shapes.proofs.SumLemmas.{sum, sum_fits}
use Rattle.pad_shapes.proofs.placed.is_near_sum.Goals as goal

pub returns : goal.returns
returns c =
    ap not (c.is_too_far.ensures ∙ ap is_too_far
    (ap (λ z. to_z w128 (of_z w128 z)) (sum c.args.offset c.args.n c.from.result c.ranges.offset c.ranges.n c.from.ensures)
    ∙ to_z-of_z w128 _ (sum_fits c.args.offset c.args.n c.requires c.ranges.n)))
