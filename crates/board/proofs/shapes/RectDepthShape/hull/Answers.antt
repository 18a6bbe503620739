use Rattle.board.proofs.Common.{◌≡◌, ℕ, min, ap, ◌∙◌}
use Rattle.board.proofs.HullLemmas.{rect_hull}
use Rattle.board.proofs.PassedIntegers.{natural}
use Rattle.board.proofs.shapes.RectDepthShape.hull.Goals as goal

pub returns : goal.returns
returns c =
    let half_x : c.unsigned_abs-half_x.result ≡ c.args.self.now.half_x = natural c.half_x.result c.args.self.now.half_x c.unsigned_abs-half_x.result c.half_x.type_inv c.half_x.ensures.value c.unsigned_abs-half_x.ensures.value in
    let half_y : c.unsigned_abs-half_y.result ≡ c.args.self.now.half_y = natural c.half_y.result c.args.self.now.half_y c.unsigned_abs-half_y.result c.half_y.type_inv c.half_y.ensures.value c.unsigned_abs-half_y.ensures.value in
    let radius : c.min-radius.result ≡ min c.args.self.now.half_x c.args.self.now.half_y = c.min-radius.ensures ∙ (ap (λ (n : ℕ). min n c.unsigned_abs-half_y.result) half_x ∙ ap (min c.args.self.now.half_x) half_y) in
    rect_hull c.args.self.now _ c.centre.ensures half_x half_y radius half_x half_y radius
