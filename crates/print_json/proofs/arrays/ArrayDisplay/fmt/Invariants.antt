use Rattle.print_json.proofs.Common.{take, HasWritten, IsPlainFormatter}
use Rattle.print_json.proofs.Lists.{joined}
use Rattle.print_json.proofs.arrays.ArrayDisplay.fmt.Given as goal

abbrev pub invariant-loop-place : goal.invariant-loop-place
invariant-loop-place g l =
    IsPlainFormatter l.initial.f → HasWritten g.W.Write.write_str_gives l.initial.f (joined (take l.place (g.V.Values.values l.fn.self.0.now))) l.f
