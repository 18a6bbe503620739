use Rattle.print_text.proofs.Common.{◌≡◌, ◌≤◌, take, ◌==◌, not, count_by, enumerate_from, filter, is_shown}
use Rattle.print_text.proofs.tallies.rings_hidden.Given as goal

abbrev pub invariant-loop-i : goal.invariant-loop-i
invariant-loop-i l = record {
  within : l.left ≤ l.i;
  counted : l.left ≡ count_by (λ finding. not (is_shown l.limit finding.0)) (filter (λ finding. finding.1.layer == l.run.layer) (take l.i (enumerate_from 0 l.rings)));
}
