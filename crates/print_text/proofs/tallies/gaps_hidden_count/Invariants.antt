use Rattle.print_text.proofs.Common.{◌≡◌, ◌≤◌, take, not, count_by, enumerate_from, is_shown}
use Rattle.print_text.proofs.tallies.gaps_hidden_count.Given as goal

abbrev pub invariant-loop-i : goal.invariant-loop-i
invariant-loop-i l = record {
  within : l.left ≤ l.i;
  counted : l.left ≡ count_by (λ finding. not (is_shown l.limit finding.0)) (take l.i (enumerate_from l.rings l.gaps));
}
