use Rattle.board_report.proofs.Common.{◌≡◌, ◌<◌, ◌∙◌, List, length, get_or, ap, subst, sym, arith, nat_tests, AreBestPads, wide_pad_covers, Drilled, layer_pads, layer_uncounted}
use Rattle.std.specs.Prelude.{IfOk}
use Rattle.report.specs.Causes.{HoldsRowsAndBests, UncountedPads, uncounted_pads}
use Rattle.pad_shapes.specs.declared.row.FeatureRow.{FeatureRow}
use Rattle.board_report.proofs.BestPads.{bests_at}
use Rattle.board_report.proofs.rings.cause_finder_on.Goals as goal

pub returns-in-Some : goal.returns-in-Some
returns-in-Some c =
    let board = c.args.board.now in
    let pads = layer_pads board c.args.layer in
    let bests = c.args.board_data.now.bests.now in
    let rows = c.layer_rows-rows.result.now in
    let given = uncounted_pads c.layer_uncounted-uncounted.result in
    let found = c.with_bests.result in
    let within : c.args.layer < length bests = (let t = c.in-Some.ensures.lookup.0 in grind (arith, nat_tests)) in
    let are = bests_at board bests c.args.layer c.in-Some.bests.now c.deref.result.now c.requires.bests within c.in-Some.ensures.lookup.1 c.deref.ensures.value in
    let here = subst (λ (holes : List Drilled). AreBestPads wide_pad_covers pads holes c.deref.result.now) (sym c.holes-holes.ensures) are in
    subst (λ (some : List FeatureRow). IfOk found (HoldsRowsAndBests some pads (layer_uncounted board c.args.layer) board.holes)) c.layer_rows-rows.ensures
    (subst (λ (some : UncountedPads). IfOk found (HoldsRowsAndBests rows pads some board.holes)) c.layer_uncounted-uncounted.ensures
    (subst (λ (some : List Drilled). IfOk found (HoldsRowsAndBests rows pads given some)) c.holes-holes.ensures (c.with_bests.ensures pads here)))
