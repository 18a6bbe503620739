use Rattle.macro_shapes.proofs.Common.{sym, ap, ◌∙◌, option_and_then, grid_point}
use Rattle.macro_shapes.proofs.GridLemmas.{point_is}
use Rattle.macro_shapes.specs.Primitives.{turned_x, turned_y}
use Rattle.macro_shapes.proofs.primitive.placed.Goals as goal

pub returns-in_err-point : goal.returns-in_err-point
returns-in_err-point c =
    c.from_residual.ensures
    ∙ ap (option_and_then (λ p. grid_point (turned_x c.args.turns p) (turned_y c.args.turns p))) (sym c.in_err-point.was ∙ c.point_of.ensures ∙ point_is c.args.unit c.args.x c.args.y)

pub returns : goal.returns
returns c =
    c.turned.ensures
    ∙ ap (option_and_then (λ p. grid_point (turned_x c.args.turns p) (turned_y c.args.turns p))) (sym c.in_ok-point.was ∙ c.point_of.ensures ∙ point_is c.args.unit c.args.x c.args.y)
