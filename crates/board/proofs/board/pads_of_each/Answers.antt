use Rattle.std.specs.Global.{Vec}
use Rattle.std.proofs.lemmas.List.{map_push}
use Rattle.board.proofs.Common.{◌++◌, ◌∷◌, [], Bor, List, map, sym, ◌∙◌, map_more}
use Rattle.pad_shapes.specs.declared.wide_pad.WidePad.{WidePad}
use Rattle.board.proofs.board.pads_of_each.Goals as goal

pub loop-layer-preserved : goal.loop-layer-preserved
loop-layer-preserved c =
    let pads = λ (pads : Bor (List WidePad)). pads.now in
    let items = λ (layer : Vec WidePad). layer.items in
    (λ i. map pads (c.in_ok-push.ensures.items i)) ∙ (map_push pads c.loop-layer.all.items c.as_slice.result
    ∙ ((λ i. c.loop-layer.invariant i ++ (c.as_slice.ensures.value ∙ (λ j. items (c.layer-item.is j))) i ∷ []) ∙ sym (map_more items c.args.layers.now c.loop-layer.layer-index c.layer-item.result c.loop-layer-test.true)))
