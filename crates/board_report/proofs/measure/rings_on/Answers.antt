use Rattle.board_report.proofs.Common.{Bor, ◌≡◌, ◌+◌, ◌<◌, ◌≤◌, ℕ, List, [], length, get_or, map, ap, sym, subst, ◌∙◌, arith, rules, Vec, get_or-map, length-map, wide_pad_covers, WidePad, Drilled, AreBestPads, MeetsOnLayers, BestPad, AreLayerBests, AreRowLines}
use Rattle.std.specs.Prelude.{Option}
use Rattle.board_report.proofs.JoinedRows.{none}
use Rattle.board_report.proofs.LayerBestsLemmas.{all_kept, none_kept, one_more}
use Rattle.board_report.proofs.UnitMistakeLinesLemmas.{ScalesAt, all_layers, first_layer, later_layer, no_layer_yet}
use Rattle.board_report.proofs.measure.rings_on.Goals as goal
use Rattle.board_report.proofs.measure.rings_on.Goals.{then-layer-eq0+in_ok-scales, else-layer-eq0}

pub loop-layer-init : goal.loop-layer-init
loop-layer-init c = record {
  met = subst (λ (layers : List (Bor (List WidePad))). MeetsOnLayers wide_pad_covers c.args.profile (map (λ pads. pads.now) layers) c.holes-holes.result.now 0 c.met_without_layers-met.result) c.deref-2.ensures.value (c.met_without_layers-met.ensures c.args.profile);
  lines = subst (AreRowLines c.args.profile c.args.board.now (λ key. key.layer < 0)) (sym c.new-lines.ensures.items) (none c.args.profile c.args.board.now (λ key. key.layer < 0) (λ key less some. omega (arith, less)));
  scales = subst (ScalesAt c.args.board.now 0) (sym c.new-scales.ensures.items) (no_layer_yet c.args.board.now);
  bests = λ keeps. subst (λ (kept : List (Vec (Option BestPad))). AreLayerBests c.args.board.now 0 (map (λ bests. bests.items) kept)) (sym c.new-kept.ensures.items) (none_kept c.args.board.now);
}

pub loop-layer-preserved : goal.loop-layer-preserved
loop-layer-preserved c = record {
  met = search rules;
  lines = search rules;
  scales = elim c.if-layer-eq0.branch [
    | then-layer-eq0+in_ok-scales w ↦
        subst (ScalesAt c.args.board.now (c.loop-layer.layer + 1)) (sym (ap (λ v. v.items) w.scales-is)) (first_layer c.args.board.now c.loop-layer.layer w.in_ok-scales.scales.items w.in_ok-scales.ensures)
    | else-layer-eq0 w ↦
        subst (ScalesAt c.args.board.now (c.loop-layer.layer + 1)) (sym (ap (λ v. v.items) w.scales-is))
        (later_layer c.args.board.now c.loop-layer.layer c.loop-layer.scales.items w.if-layer-eq0.false c.loop-layer.invariant.scales)
  ];
  bests = λ keeps. one_more c.args.board.now c.loop-layer.layer c.loop-layer.kept.items c.keep.new.kept.items c.in_ok-bests.bests (c.in_ok-keep.ensures keeps) (c.loop-layer.invariant.bests keeps)
      (subst (λ (holes : List Drilled). AreBestPads wide_pad_covers (get_or c.args.board.now.layers c.loop-layer.layer []) holes c.in_ok-bests.bests.items) c.holes-holes.ensures
      (subst (λ (pads : List WidePad). AreBestPads wide_pad_covers pads c.holes-holes.result.now c.in_ok-bests.bests.items)
      (ap (λ pads. pads.now) c.index.ensures
      ∙ sym (get_or-map (λ pads. pads.now) c.in_ok-layers.layers.items c.loop-layer.layer c.index.result.now [] (search rules))
      ∙ ap (λ (layers : List (List WidePad)). get_or layers c.loop-layer.layer []) c.in_ok-layers.ensures) c.in_ok-bests.ensures));
}

all_layers_seen : (c : goal.After-drop-files-2) → c.loop-layer.layer ≡ length c.args.board.now.layers
all_layers_seen c =
    let size : c.len-layer-end.result ≡ length c.in_ok-layers.layers.items = search rules in
    let mapped = length-map c.in_ok-layers.layers.items (λ pads. pads.now) in
    let all = ap length c.in_ok-layers.ensures in
    omega (arith, size, mapped, all, c.loop-layer-test.false, c.loop-layer.auto.layer-end)

pub returns-clause-scales : goal.returns-clause-scales
returns-clause-scales c =
    let size : c.len-layer-end.result ≡ length c.in_ok-layers.layers.items = search rules in
    let mapped = length-map c.in_ok-layers.layers.items (λ pads. pads.now) in
    let all = ap length c.in_ok-layers.ensures in
    let past : length c.args.board.now.layers ≤ c.loop-layer.layer = omega (arith, size, mapped, all, c.loop-layer-test.false) in
    all_layers c.args.board.now c.loop-layer.layer c.loop-layer.scales.items past c.loop-layer.invariant.scales

pub returns-clause-lines : goal.returns-clause-lines
returns-clause-lines c = subst (λ (n : ℕ). AreRowLines c.args.profile c.args.board.now (λ key. key.layer < n) c.loop-layer.lines.items) (all_layers_seen c) c.loop-layer.invariant.lines

pub returns-clause-met : goal.returns-clause-met
returns-clause-met c =
    let board = c.args.board.now in
    subst (λ (holes : List Drilled). MeetsOnLayers wide_pad_covers c.args.profile board.layers holes (length board.layers) c.loop-layer.met) c.holes-holes.ensures
    (subst (λ (layers : List (List WidePad)). MeetsOnLayers wide_pad_covers c.args.profile layers c.holes-holes.result.now (length board.layers) c.loop-layer.met) c.in_ok-layers.ensures
    (subst (λ (n : ℕ). MeetsOnLayers wide_pad_covers c.args.profile (map (λ pads. pads.now) c.in_ok-layers.layers.items) c.holes-holes.result.now n c.loop-layer.met) (all_layers_seen c) c.loop-layer.invariant.met))

pub returns-clause-bests : goal.returns-clause-bests
returns-clause-bests c = λ keeps. all_kept c.args.board.now c.loop-layer.layer (length c.args.board.now.layers) (map (λ bests. bests.items) c.loop-layer.kept.items) (all_layers_seen c) (c.loop-layer.invariant.bests keeps)
