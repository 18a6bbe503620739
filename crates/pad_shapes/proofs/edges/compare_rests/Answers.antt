use Rattle.std.proofs.Common.{◌-◌, arith}
use Rattle.pad_shapes.proofs.EdgesLemmas.{gain_above}
use Rattle.pad_shapes.proofs.edges.compare_rests.Goals as goal

pub returns-then-depth-more : goal.returns-then-depth-more
returns-then-depth-more c =
    gain_above c.args.depth c.args.rest c.args.gain c.args.loss (c.args.gain - c.args.loss) c.requires.rest (omega (arith, c.if-gain-loss.false)) c.if-depth-more.true
