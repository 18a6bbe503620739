use Rattle.drawing.proofs.Common.{◌≡◌, ◌<◌, ◌∙◌, List, ap, ap₂, sym, map, length, get_or, ℕ, subst, fold, get_or-map, length-map, joined_to, pad_extent}
use Rattle.pad_shapes.specs.declared.wide_pad.WidePad.{WidePad}
use Rattle.drawing.proofs.ExtentLemmas.{layers_more}
use Rattle.drawing.proofs.bounds.with_layers.Goals as goal

pub loop-layer-preserved : goal.loop-layer-preserved
loop-layer-preserved c =
    let i = c.loop-layer.layer-index in
    let item = c.layer-item.result in
    let layers : List (List WidePad) = map (λ layer. layer.now) c.args.layers.now in
    let is : item.now ≡ get_or layers i item.now = ap (λ layer. layer.now) c.layer-item.is ∙ sym (get_or-map (λ layer. layer.now) c.args.layers.now i item item.now c.loop-layer-test.true) in
    let inside : i < length layers = subst (λ (n : ℕ). i < n) (sym (length-map c.args.layers.now (λ layer. layer.now))) c.loop-layer-test.true in
    c.with_pads-all.ensures
    ∙ (ap₂ (λ all (pads : List WidePad). fold joined_to all (map pad_extent pads)) c.loop-layer.invariant is
    ∙ layers_more (λ (layer : List WidePad). map pad_extent layer) c.args.before layers i item.now inside)
