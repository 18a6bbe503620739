use Rattle.board.proofs.Common.{Bool, Drilled, ◌++◌, enumerate_from, filter, finding_of, is_ring_finding, ◌≡◌, ◌<◌, ◌≤◌, Option, Bor, List, [], get_or, length, map, sym, subst, ap, ◌∙◌, arith, flat_map, get_or-map, length-map, layer_findings, AreBestPads, BestPad}
use Rattle.std.specs.Global.{Vec}
use Rattle.ring_rules.proofs.EnumeratedLists.{enumerated_all, flat_listed_more}
use Rattle.board.proofs.lacking.ring_findings_from_bests.Goals as goal

pub lacking_by-requires : goal.lacking_by-requires
lacking_by-requires g c =
    let pads = map (λ (pads : Bor (List g.row.S.Denot)). pads.now) c.args.layers.now in
    let bests = c.args.bests.now in
    let layer = c.loop-layer.layer in
    let layer_bests = c.index-bests-layer.result in
    let size = c.requires.size in
    let more = length-map bests (λ (layer_bests : Vec (Option BestPad)). layer_bests.items) in
    let inside : layer < length pads = omega (arith, size, more, c.loop-layer-test.true) in
    let there : get_or (map (λ (layer_bests : Vec (Option BestPad)). layer_bests.items) bests) layer [] ≡ c.deref.result.now =
    get_or-map (λ (layer_bests : Vec (Option BestPad)). layer_bests.items) bests layer layer_bests [] c.loop-layer-test.true ∙ (sym (ap (λ (layer_bests : Vec (Option BestPad)). layer_bests.items) c.index-bests-layer.is) ∙ sym c.deref.ensures.value) in
    subst (λ (bs : List (Option BestPad)). AreBestPads g.S.PadShape.covers (get_or pads layer []) c.args.holes.now bs) there (c.requires.each layer inside)

pub loop-layer-preserved : goal.loop-layer-preserved
loop-layer-preserved g c =
    let pads = map (λ (pads : Bor (List g.row.S.Denot)). pads.now) c.args.layers.now in
    let layer = c.loop-layer.layer in
    let size = c.requires.size in
    let more = length-map c.args.bests.now (λ (layer_bests : Vec (Option BestPad)). layer_bests.items) in
    let inside : layer < length pads = omega (arith, size, more, c.loop-layer-test.true) in
    let test : Drilled → Bool = is_ring_finding g.S.PadShape.covers c.args.rules.profile c.args.rules.ring layer (get_or pads layer []) in
    (c.in_ok-layer_findings.ensures test (c.deref-in-loop-layer.ensures.value ∙ c.in_ok-lacking.ensures)
    ∙ (λ j. c.loop-layer.findings.items ++ map (finding_of (c.profile.ensures j) layer) (filter (λ hole. test hole.1) (enumerate_from 0 c.args.holes.now))))
    ∙ flat_listed_more (λ layer. layer_findings g.S.PadShape.covers c.args.rules.profile c.args.rules.ring c.args.holes.now layer.0 layer.1) c.loop-layer.findings.items pads layer [] inside c.loop-layer.invariant

pub returns : goal.returns
returns g c =
    let pads = map (λ (pads : Bor (List g.row.S.Denot)). pads.now) c.args.layers.now in
    let size = c.requires.size in
    let more = length-map c.args.bests.now (λ (layer_bests : Vec (Option BestPad)). layer_bests.items) in
    let all : length pads ≤ c.loop-layer.layer = omega (arith, size, more, c.loop-layer-test.false) in
    c.loop-layer.invariant
    ∙ ap (flat_map (λ layer. layer_findings g.S.PadShape.covers c.args.rules.profile c.args.rules.ring c.args.holes.now layer.0 layer.1)) (enumerated_all pads c.loop-layer.layer all)
