use Rattle.std.proofs.Common.{rules, arith}
use Rattle.std.proofs.lemmas.Grind.{common_steps}
use Rattle.pad_shapes.proofs.polygon.high_corner.Goals as goal

pub loop-corner-preserved : goal.loop-corner-preserved
loop-corner-preserved c = record { x_so_far = grind (arith, common_steps); y_so_far = grind (arith, common_steps); x_in_range = search rules; y_in_range = search rules }
