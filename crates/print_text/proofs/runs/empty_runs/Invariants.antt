use Rattle.print_text.proofs.Common.{◌≡◌, length, AreRuns}
use Rattle.print_text.proofs.runs.empty_runs.Given as goal

abbrev pub invariant-loop-layer : goal.invariant-loop-layer
invariant-loop-layer l = record {
  long : length l.runs.items ≡ l.layer;
  empty : AreRuns l.rings 0 l.runs.items;
}
