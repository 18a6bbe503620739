use Rattle.print_text.proofs.Common.{◌≡◌, length, AreRuns}
use Rattle.print_text.proofs.runs.runs_of.Given as goal

abbrev pub invariant-loop-i : goal.invariant-loop-i
invariant-loop-i l = record {
  long : length l.runs.items ≡ l.layers;
  noted : AreRuns l.rings l.i l.runs.items;
}
