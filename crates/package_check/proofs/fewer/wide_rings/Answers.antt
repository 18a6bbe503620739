use Rattle.package_check.proofs.Common.{◌≡◌, ◌+◌, ◌∙◌, ◌++◌, ℕ, List, ap, get_or, subst, sym, take, GridRules, enumerate_from, flat_map, enumerated_all, flat_listed_more, in_wide, layer_rings}
use Rattle.package_check.proofs.fewer.wide_rings.Goals as goal

pub loop-layer-preserved : goal.loop-layer-preserved
loop-layer-preserved c =
    let board = c.args.board.now in
    let rules = in_wide c.args.rules in
    let layer = c.loop-layer.layer in
    let rings = c.loop-layer.rings.items in
    let files = c.layer_indexes-file-items.result.now in
    let same : files ≡ board.layer_indexes = c.layer_indexes-file-items.ensures in
    let was = subst (λ (xs : List ℕ). rings ≡ flat_map (layer_rings rules board) (take layer (enumerate_from 0 xs))) (sym same) c.loop-layer.invariant in
    let widely = c.in_ok-index.ensures.rules ∙ c.in_profile-rules.ensures in
    let now = c.in_ok-push_layer.ensures ∙ (ap (λ (r : GridRules). rings ++ layer_rings r board (layer, get_or files layer 0)) widely ∙ flat_listed_more (layer_rings rules board) rings files layer 0 c.loop-layer-test.true was) in
    subst (λ (xs : List ℕ). c.push_layer.new.findings.items ≡ flat_map (layer_rings rules board) (take (layer + 1) (enumerate_from 0 xs))) same now

pub returns : goal.returns
returns c =
    let board = c.args.board.now in
    let by = layer_rings (in_wide c.args.rules) board in
    let all = subst (λ (xs : List ℕ). take c.loop-layer.layer (enumerate_from 0 xs) ≡ enumerate_from 0 xs) c.layer_indexes-file-items.ensures (enumerated_all c.layer_indexes-file-items.result.now c.loop-layer.layer c.loop-layer-test.false) in
    c.loop-layer.invariant ∙ ap (flat_map by) all
