use Rattle.waivers.proofs.Common.{◌≡◌, ◌++◌, ℕ, List, IsUtf8, length, default_writer, escaped, HasWritten, IsPlainFormatter}
use Rattle.waivers.proofs.findings.EscapedDisplay.fmt.Given as goal

abbrev pub invariant-quotes : goal.invariant-quotes
invariant-quotes g l =
    (IsPlainFormatter l.initial.f → (done : List ℕ) × HasWritten g.W.Write.write_str_gives l.initial.f done l.f × (escaped default_writer l.fn.self.0.now ≡ done ++ escaped default_writer l.rest))
    × IsUtf8 l.rest

abbrev pub decreases-quotes : goal.decreases-quotes
decreases-quotes g l = length l.rest
