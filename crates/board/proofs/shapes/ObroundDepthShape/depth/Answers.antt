use Rattle.board.proofs.Common.{◌≡◌, ℕ, ◌-◌, min, ap, ◌∙◌, GridPoint, abs_diff, end_radius, obround_covers, IsDepth}
use Rattle.board.proofs.DepthsLemmas.{obround_depth}
use Rattle.board.proofs.PassedIntegers.{on, natural}
use Rattle.board.proofs.shapes.ObroundDepthShape.depth.Goals as goal

past_of : (past at half radius a h r : ℕ) → past ≡ at - (half - radius) → at ≡ a → half ≡ h → radius ≡ r → past ≡ a - (h - r)
past_of past at half radius a h r is x y z = cc

pub returns-clause-exact : goal.returns-clause-exact
returns-clause-exact c =
    let half_x : c.unsigned_abs-half_x.result ≡ c.args.self.now.half_x = natural c.half_x.result c.args.self.now.half_x c.unsigned_abs-half_x.result c.half_x.type_inv c.half_x.ensures.value c.unsigned_abs-half_x.ensures.value in
    let half_y : c.unsigned_abs-half_y.result ≡ c.args.self.now.half_y = natural c.half_y.result c.args.self.now.half_y c.unsigned_abs-half_y.result c.half_y.type_inv c.half_y.ensures.value c.unsigned_abs-half_y.ensures.value in
    let radius : c.min-radius.result ≡ end_radius c.args.self.now = c.min-radius.ensures ∙ (ap (λ (n : ℕ). min n c.unsigned_abs-half_y.result) half_x ∙ ap (min c.args.self.now.half_x) half_y) in
    on (IsDepth obround_covers c.args.self.now c.args.at) c.less.result _ c.less.type_inv c.less.ensures
    (obround_depth c.args.self.now c.args.at c.min-radius.result c.saturating_sub-past_x.result c.saturating_sub-past_y.result c.length_rounded_up.result radius
    (past_of _ _ _ _ _ _ _ c.saturating_sub-past_x.ensures (c.apart_x.ensures.value ∙ ap (λ (q : GridPoint). abs_diff c.args.at.x q.x) c.centre.ensures) half_x radius)
    (past_of _ _ _ _ _ _ _ c.saturating_sub-past_y.ensures (c.apart_y.ensures.value ∙ ap (λ (q : GridPoint). abs_diff c.args.at.y q.y) c.centre-2.ensures) half_y radius)
    c.length_rounded_up.ensures.exact)
