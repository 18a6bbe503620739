use Rattle.ring_rules.proofs.Common.{[], Finding, ◌≡◌, ◌<◌, List, length, map, get_or, ◌++◌, Bor, ap, sym, ◌∙◌, arith, length-map, get_or-map, flat_map, layer_findings, GridRules}
use Rattle.ring_rules.proofs.EnumeratedLists.{flat_listed_more, enumerated_all}
use Rattle.ring_rules.proofs.TriedPads.{layer_by_coverings}
use Rattle.ring_rules.proofs.rings.ring_findings.Goals as goal

pub loop-layer-preserved : goal.loop-layer-preserved
loop-layer-preserved g c =
    let inside : c.loop-layer.layer < length (map (λ (pads : Bor (List g.row.S.Denot)). pads.now) c.args.layers.now) =
    omega (arith, length-map c.args.layers.now (λ (pads : Bor (List g.row.S.Denot)). pads.now), c.loop-layer-test.true) in
    let read : get_or (map (λ (pads : Bor (List g.row.S.Denot)). pads.now) c.args.layers.now) c.loop-layer.layer c.index-layers-layer.result.now ≡ c.index-layers-layer.result.now =
    get_or-map (λ (pads : Bor (List g.row.S.Denot)). pads.now) c.args.layers.now c.loop-layer.layer c.index-layers-layer.result c.index-layers-layer.result.now c.loop-layer-test.true
    ∙ ap (λ (pads : Bor (List g.row.S.Denot)). pads.now) (sym c.index-layers-layer.is) in
    let rules = c.in_ok-index.index.rules in
    let pads = c.index-layers-layer.result.now in
    (c.in_ok-push_findings.ensures c.loop-layer.layer (map g.S.PadShape.covers pads) (c.try_pads.ensures.tried c.args.holes.now c.loop-layer.layer [] c.in_ok-search.ensures)
    ∙ ap (λ (fs : List Finding). c.loop-layer.findings.items ++ fs) (layer_by_coverings g.S.PadShape.covers rules.profile rules.ring c.loop-layer.layer c.args.holes.now pads))
    ∙ (ap (λ (rules : GridRules). c.loop-layer.findings.items ++ layer_findings g.S.PadShape.covers rules.profile rules.ring c.args.holes.now c.loop-layer.layer c.index-layers-layer.result.now) c.in_ok-index.ensures.rules
    ∙ (ap (λ pads. c.loop-layer.findings.items ++ layer_findings g.S.PadShape.covers c.args.rules.profile c.args.rules.ring c.args.holes.now c.loop-layer.layer pads) (sym read)
    ∙ flat_listed_more (λ layer. layer_findings g.S.PadShape.covers c.args.rules.profile c.args.rules.ring c.args.holes.now layer.0 layer.1) c.loop-layer.findings.items (map (λ (pads : Bor (List g.row.S.Denot)). pads.now) c.args.layers.now) c.loop-layer.layer c.index-layers-layer.result.now inside c.loop-layer.invariant))

pub returns : goal.returns
returns g c =
    c.loop-layer.invariant ∙ ap (flat_map (λ layer. layer_findings g.S.PadShape.covers c.args.rules.profile c.args.rules.ring c.args.holes.now layer.0 layer.1))
    (enumerated_all (map (λ (pads : Bor (List g.row.S.Denot)). pads.now) c.args.layers.now) c.loop-layer.layer (omega (arith, length-map c.args.layers.now (λ (pads : Bor (List g.row.S.Denot)). pads.now), c.loop-layer-test.false)))
