use Rattle.ring_rules.proofs.Common.{◌≡◌, Bool, ◌++◌, take, map, enumerate_from, finding_of, Drilled}
use Rattle.ring_rules.proofs.EnumeratedLists.{listed}
use Rattle.ring_rules.proofs.rings.layer_findings.Given as goal

-- the findings so far are those of the holes so far, for any test that the marks stand for
abbrev pub invariant-loop-hole : goal.invariant-loop-hole
invariant-loop-hole l =
    (test : Drilled → Bool) → l.lacking ≡ map test l.holes → l.findings.items ≡ l.initial.findings.items ++ listed (finding_of l.profile l.layer) (λ hole. test hole.1) (take l.hole (enumerate_from 0 l.holes))
