use Rattle.drill_text.proofs.Common.{◌≡◌, ◌≤◌, take, vec_len, canonical_lines}
use Rattle.drill_text.proofs.RoundTrip.{AreTyped}
use Rattle.drill_text.proofs.writer.write_drill.Given as goal

abbrev pub invariant-loop-command : goal.invariant-loop-command
invariant-loop-command l = record {
  text : l.text.items ≡ canonical_lines (take l.command-index l.commands);
  typed : AreTyped (take l.command-index l.commands);
  within : vec_len l.text ≤ 268435456;
}
