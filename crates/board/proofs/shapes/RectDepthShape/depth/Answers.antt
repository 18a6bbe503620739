use Rattle.board.proofs.Common.{◌≡◌, ℕ, ℤ, pos, ◌-ℤ◌, ap, ◌∙◌, int_min, GridPoint, abs_diff, rect_covers, IsDepth}
use Rattle.board.proofs.DepthsLemmas.{straight_depth}
use Rattle.board.proofs.PassedIntegers.{on, natural, lesser}
use Rattle.board.proofs.shapes.RectDepthShape.depth.Goals as goal

pub returns-clause-exact : goal.returns-clause-exact
returns-clause-exact c =
    let half_x : c.unsigned_abs.result ≡ c.args.self.now.half_x = natural c.half_x.result c.args.self.now.half_x c.unsigned_abs.result c.half_x.type_inv c.half_x.ensures.value c.unsigned_abs.ensures.value in
    let half_y : c.unsigned_abs-2.result ≡ c.args.self.now.half_y = natural c.half_y.result c.args.self.now.half_y c.unsigned_abs-2.result c.half_y.type_inv c.half_y.ensures.value c.unsigned_abs-2.ensures.value in
    let dx : c.apart_x.result ≡ abs_diff c.args.at.x c.args.self.now.centre.x = c.apart_x.ensures.value ∙ ap (λ (q : GridPoint). abs_diff c.args.at.x q.x) c.centre.ensures in
    let dy : c.apart_y.result ≡ abs_diff c.args.at.y c.args.self.now.centre.y = c.apart_y.ensures.value ∙ ap (λ (q : GridPoint). abs_diff c.args.at.y q.y) c.centre-2.ensures in
    let deep_x : c.less-deep_x.result ≡ pos c.args.self.now.half_x -ℤ pos (abs_diff c.args.at.x c.args.self.now.centre.x) = c.less-deep_x.ensures ∙ (ap (λ (n : ℕ). pos n -ℤ pos c.apart_x.result) half_x ∙ ap (λ (n : ℕ). pos c.args.self.now.half_x -ℤ pos n) dx) in
    let deep_y : c.less-deep_y.result ≡ pos c.args.self.now.half_y -ℤ pos (abs_diff c.args.at.y c.args.self.now.centre.y) = c.less-deep_y.ensures ∙ (ap (λ (n : ℕ). pos n -ℤ pos c.apart_y.result) half_y ∙ ap (λ (n : ℕ). pos c.args.self.now.half_y -ℤ pos n) dy) in
    on (IsDepth rect_covers c.args.self.now c.args.at) c.min.result (int_min (pos c.args.self.now.half_x -ℤ pos (abs_diff c.args.at.x c.args.self.now.centre.x)) (pos c.args.self.now.half_y -ℤ pos (abs_diff c.args.at.y c.args.self.now.centre.y))) c.min.type_inv
    (c.min.ensures.value ∙ (lesser c.less-deep_x.result c.less-deep_y.result c.less-deep_x.type_inv c.less-deep_y.type_inv ∙ (ap (λ (z : ℤ). int_min z c.less-deep_y.result) deep_x ∙ ap (int_min (pos c.args.self.now.half_x -ℤ pos (abs_diff c.args.at.x c.args.self.now.centre.x))) deep_y)))
    (straight_depth (abs_diff c.args.at.x c.args.self.now.centre.x) (abs_diff c.args.at.y c.args.self.now.centre.y) c.args.self.now.half_x c.args.self.now.half_y)
