use Rattle.std.proofs.lemmas.Result.{IfOk-weaker}
use Rattle.board.proofs.Common.{Drilled, IsPair, IsNearest, IsNearestForLater, List, length}
use Rattle.board.proofs.NearestSearch.{nearest_of_all}
use Rattle.board.proofs.nearest.first_nearest.Goals as goal

pub returns : goal.returns
returns c =
    let holes : List Drilled = c.args.holes.now in
    IfOk-weaker c.nearest_for_later.result (IsNearestForLater c.args.holes.now c.in_ok-early.early.count (length c.args.holes.now) c.args.nearest) (IsNearest c.args.holes.now (IsPair c.args.holes.now))
    (λ best later. nearest_of_all holes c.args.nearest best c.requires c.in_ok-early.early.count c.in_ok-early.ensures.count later) c.nearest_for_later.ensures
