use Rattle.board_report.proofs.Common.{◌≡◌, ◌<◌, true, map, wide_pad_covers, MeetsOnLayers, AreLayerBests, AreRowLines}
use Rattle.board_report.proofs.UnitMistakeLinesLemmas.{ScalesAt}
use Rattle.board_report.proofs.measure.rings_on.Given as goal

abbrev pub invariant-loop-layer : goal.invariant-loop-layer
invariant-loop-layer l = record {
  met : MeetsOnLayers wide_pad_covers l.profile (map (λ pads. pads.now) l.layers.items) l.holes l.layer l.met;
  lines : AreRowLines l.profile l.board (λ key. key.layer < l.layer) l.lines.items;
  scales : ScalesAt l.board l.layer l.scales.items;
  bests : l.keeps ≡ true → AreLayerBests l.board l.layer (map (λ bests. bests.items) l.kept.items);
}
