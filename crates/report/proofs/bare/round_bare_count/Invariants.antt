use Rattle.report.proofs.Common.{◌≡◌, ◌≤◌, List, take, count_by, wide_pad_covers, WidePad, AreBare, is_bare}
use Rattle.report.proofs.bare.round_bare_count.Given as goal

abbrev pub invariant-loop-place : goal.invariant-loop-place
invariant-loop-place l = record {
  count : (pads : List WidePad) → AreBare wide_pad_covers pads l.holes l.bare → l.count ≡ count_by (is_bare pads) (take l.place l.holes);
  few : l.count ≤ l.place;
}
