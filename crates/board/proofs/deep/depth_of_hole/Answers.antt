use Rattle.board.proofs.Common.{◌≡◌, refl, subst, ◌∙◌, int_min, GridPoint, IsDepth, IsDepthOfHole}
use Rattle.board.proofs.DepthsLemmas.{lesser_depth, round_hole}
use Rattle.board.proofs.PassedIntegers.{on, lesser}
use Rattle.board.proofs.deep.depth_of_hole.Goals as goal

pub returns-clause-exact : goal.returns-clause-exact
returns-clause-exact g c =
    let covers = g.S.PadShape.covers in
    let pad = c.args.pad.now in
    let from : IsDepth g.S.PadShape.covers c.args.pad.now c.args.hole.now.from c.depth-from.result = subst (λ (p : GridPoint). IsDepth g.S.PadShape.covers c.args.pad.now p c.depth-from.result) c.from.ensures c.depth-from.ensures.exact in
    let to : IsDepth g.S.PadShape.covers c.args.pad.now c.args.hole.now.to c.depth-to.result = subst (λ (p : GridPoint). IsDepth g.S.PadShape.covers c.args.pad.now p c.depth-to.result) c.to.ensures c.depth-to.ensures.exact in
    on (IsDepthOfHole g.S.PadShape.covers c.args.pad.now c.args.hole.now) c.min.result (int_min c.depth-from.result c.depth-to.result) c.min.type_inv
    (c.min.ensures.value ∙ lesser c.depth-from.result c.depth-to.result c.depth-from.type_inv c.depth-to.type_inv)
    (λ n. lesser_depth (covers pad c.args.hole.now.from n) (covers pad c.args.hole.now.to n) c.depth-from.result c.depth-to.result n (from n) (to n))

pub returns-then-is_round-clause-exact : goal.returns-then-is_round-clause-exact
returns-then-is_round-clause-exact g c =
    let same : c.args.hole.now.from ≡ c.args.hole.now.to = c.is_round.ensures.exact.0 c.if-is_round.true in
    let from : IsDepth g.S.PadShape.covers c.args.pad.now c.args.hole.now.from c.depth-from.result = subst (λ (p : GridPoint). IsDepth g.S.PadShape.covers c.args.pad.now p c.depth-from.result) c.from.ensures c.depth-from.ensures.exact in
    on (IsDepthOfHole g.S.PadShape.covers c.args.pad.now c.args.hole.now) c.depth-from.result c.depth-from.result c.depth-from.type_inv refl
    (round_hole g.S.PadShape.covers c.args.pad.now c.args.hole.now c.depth-from.result same from)
