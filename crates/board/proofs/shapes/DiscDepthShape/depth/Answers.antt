use Rattle.board.proofs.Common.{ap, ◌∙◌, GridPoint, abs_diff, disc_covers, IsDepth}
use Rattle.board.proofs.DepthsLemmas.{disc_depth}
use Rattle.board.proofs.PassedIntegers.{on, natural}
use Rattle.board.proofs.shapes.DiscDepthShape.depth.Goals as goal

pub returns-clause-exact : goal.returns-clause-exact
returns-clause-exact c =
    on (IsDepth disc_covers c.args.self.now c.args.at) c.less.result _ c.less.type_inv c.less.ensures
    (disc_depth c.args.self.now c.args.at c.unsigned_abs.result c.apart_x.result c.apart_y.result c.length_rounded_up-far.result
    (natural c.radius.result c.args.self.now.radius c.unsigned_abs.result c.radius.type_inv c.radius.ensures.value c.unsigned_abs.ensures.value)
    (c.apart_x.ensures.value ∙ ap (λ (q : GridPoint). abs_diff c.args.at.x q.x) c.centre.ensures) (c.apart_y.ensures.value ∙ ap (λ (q : GridPoint). abs_diff c.args.at.y q.y) c.centre-2.ensures)
    c.length_rounded_up-far.ensures.exact)
