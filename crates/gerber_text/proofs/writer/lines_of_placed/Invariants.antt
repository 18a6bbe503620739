use Rattle.gerber_text.proofs.Common.{◌≡◌, take, flat_map, Command, Placed}
use Rattle.gerber_text.proofs.WriterLemmas.{line}
use Rattle.gerber_text.proofs.writer.lines_of_placed.Given as goal

abbrev pub invariant-loop-command : goal.invariant-loop-command
invariant-loop-command l = l.out.items ≡ flat_map (λ (c : Placed Command). line c.what) (take l.command-index l.commands)
