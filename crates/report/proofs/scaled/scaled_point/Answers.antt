use Rattle.report.proofs.Common.{ap, ◌∙◌, scaled_coordinate}
use Rattle.board.proofs.PassedIntegers.{same}
use Rattle.report.proofs.RescaledCounts.{placed_at}
use Rattle.report.proofs.scaled.scaled_point.Goals as goal

pub returns : goal.returns
returns c =
    let x = same c.scaled.result c.scaled.type_inv ∙ (c.scaled.ensures ∙ ap (scaled_coordinate c.args.factor) (same c.x.result c.x.type_inv ∙ c.x.ensures.value)) in
    let y = same c.scaled-2.result c.scaled-2.type_inv ∙ (c.scaled-2.ensures ∙ ap (scaled_coordinate c.args.factor) (same c.y.result c.y.type_inv ∙ c.y.ensures.value)) in
    placed_at c.args.factor c.args.point _ _ c.new.result x y c.new.ensures.valid c.new.ensures.value
