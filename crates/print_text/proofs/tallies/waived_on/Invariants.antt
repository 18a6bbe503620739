use Rattle.print_text.proofs.Common.{◌≡◌, ◌≤◌, take, ◌==◌, count_by, enumerate_from, filter, is_waived}
use Rattle.print_text.proofs.tallies.waived_on.Given as goal

abbrev pub invariant-loop-i : goal.invariant-loop-i
invariant-loop-i l = record {
  within : l.waived ≤ l.i;
  counted : l.waived ≡ count_by (λ finding. is_waived l.accepted finding.0) (filter (λ finding. finding.1.layer == l.run.layer) (take l.i (enumerate_from 0 l.rings)));
}
