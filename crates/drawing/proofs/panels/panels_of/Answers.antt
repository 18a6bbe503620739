use Rattle.drawing.proofs.Common.{◌≡◌, List, ℕ, subst, map, AllZip, enumerate_from, enumerated_all, IsPanel}
use Rattle.drawing.proofs.PanelLists.{zip_placed}
use Rattle.drawing.proofs.panels.panels_of.Goals as goal

pub loop-layer-preserved : goal.loop-layer-preserved
loop-layer-preserved c =
    let names : List (List ℕ) = map (λ name. name.now) c.args.names.now in
    zip_placed (IsPanel names c.args.board.now c.args.edge.now c.args.findings.now c.args.layout.now) c.layer_indexes-files.result.now c.loop-layer.layer 0
    c.loop-layer.panels.items c.add.new.panels.items c.in_ok-panel.panel c.loop-layer-test.true c.loop-layer.invariant c.in_ok-panel.ensures c.in_ok-add.ensures

pub returns : goal.returns
returns c =
    let names : List (List ℕ) = map (λ name. name.now) c.args.names.now in
    let is = IsPanel names c.args.board.now c.args.edge.now c.args.findings.now c.args.layout.now in
    let files : c.layer_indexes-files.result.now ≡ c.args.board.now.layer_indexes =
    c.layer_indexes-files.ensures in
    subst (λ (xs : List ℕ). AllZip is (enumerate_from 0 xs) c.loop-layer.panels.items) files
    (subst (λ marks. AllZip is marks c.loop-layer.panels.items) (enumerated_all c.layer_indexes-files.result.now c.loop-layer.layer c.loop-layer-test.false) c.loop-layer.invariant)
