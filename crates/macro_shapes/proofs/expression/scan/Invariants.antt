use Rattle.macro_shapes.proofs.Common.{◌≡◌, ◌≤◌, [], take, drop, lookup, start, state, run}
use Rattle.macro_shapes.proofs.expression.scan.Given as goal

abbrev pub invariant-loop-i : goal.invariant-loop-i
invariant-loop-i l = record {
  within : l.begin ≤ l.i;
  same : run (lookup l.known) (state l.reading) (drop l.begin (take l.i l.text)) (drop l.i l.text) ≡ run (lookup l.known) start [] l.text;
}
