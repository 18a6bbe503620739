use Rattle.package_check.proofs.Common.{◌≡◌, List, [], map, ◌++◌, ap, sym, ◌∙◌, WidePad, wide_pad_covers, Finding, map-append, on_ok_weaker, layer_findings, Covering, layer_by_coverings, layer_rings}
use Rattle.package_check.proofs.fewer.push_layer.Goals as goal

-- three lists of pads, each given by what it covers, are one list
joined : (a b c : List WidePad) → (map wide_pad_covers a ++ map wide_pad_covers b) ++ map wide_pad_covers c ≡ map wide_pad_covers ((a ++ b) ++ c)
joined a b c = ap (λ (ys : List Covering). ys ++ map wide_pad_covers c) (sym (map-append wide_pad_covers a b)) ∙ sym (map-append wide_pad_covers (a ++ b) c)

pub returns : goal.returns
returns c =
    let board = c.args.board.now in
    let layer = c.args.layer in
    let file = c.args.file in
    let rules = c.args.index.now.rules in
    let holes = c.holes-holes.result.now in
    let pads = c.pads_of.result.now in
    let macros = c.macros_of.result.now in
    let contours = c.contours_of.result.now in
    let tried = c.try_pads-3.ensures.tried holes layer (map wide_pad_covers pads ++ map wide_pad_covers macros)
    (c.try_pads-2.ensures.tried holes layer (map wide_pad_covers pads) (c.try_pads.ensures.tried holes layer [] c.in_ok-search.ensures)) in
    let found : layer_findings (λ covering. covering) rules.profile rules.ring holes layer ((map wide_pad_covers pads ++ map wide_pad_covers macros) ++ map wide_pad_covers contours) ≡ layer_rings rules board (layer, file) =
    ap (layer_findings (λ (covering : Covering). covering) rules.profile rules.ring holes layer) (joined pads macros contours)
    ∙ (layer_by_coverings wide_pad_covers rules.profile rules.ring layer holes ((pads ++ macros) ++ contours)
    ∙ (λ i. layer_findings wide_pad_covers rules.profile rules.ring (c.holes-holes.ensures i) layer ((c.pads_of.ensures i ++ c.macros_of.ensures i) ++ c.contours_of.ensures i))) in
    on_ok_weaker c.push_findings.result
    (λ pushed. pushed layer ((map wide_pad_covers pads ++ map wide_pad_covers macros) ++ map wide_pad_covers contours) tried ∙ ap (λ (fs : List Finding). c.args.findings.now.items ++ fs) found)
    c.push_findings.ensures
