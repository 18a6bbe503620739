use Rattle.board.proofs.Common.{◌≡◌, refl}
use Rattle.board.proofs.HullLemmas.{disc_hull}
use Rattle.board.proofs.PassedIntegers.{natural}
use Rattle.board.proofs.shapes.DiscDepthShape.hull.Goals as goal

pub returns : goal.returns
returns c =
    let radius : c.unsigned_abs-radius.result ≡ c.args.self.now.radius = natural c.radius.result c.args.self.now.radius c.unsigned_abs-radius.result c.radius.type_inv c.radius.ensures.value c.unsigned_abs-radius.ensures.value in
    disc_hull c.args.self.now _ c.centre.ensures radius radius radius refl refl radius
