use Rattle.std.specs.Fmt.{HasWritten, IsPlainFormatter}
use Rattle.ringcheck.proofs.Common.{flat_map, indented_row}
use Rattle.ringcheck.proofs.refusals.IndentedDisplay.fmt.Given as goal

abbrev pub invariant-loop-row : goal.invariant-loop-row
invariant-loop-row g l = IsPlainFormatter l.initial.f → HasWritten g.W.Write.write_str_gives l.initial.f (flat_map (λ row. indented_row row.now) l.yielded) l.f
