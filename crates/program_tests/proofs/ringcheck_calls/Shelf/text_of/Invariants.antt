use Rattle.std.proofs.Common.{◌≤◌, length}
use Rattle.program_tests.proofs.ringcheck_calls.Shelf.text_of.Given as goal

abbrev pub invariant-loop-held : goal.invariant-loop-held
invariant-loop-held l = l.held-index ≤ length l.held-items
