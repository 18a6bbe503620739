use Rattle.gerber_text.proofs.Common.{◌≡◌, true, take, All, is_line_break}
use Rattle.gerber_text.proofs.reader.breaks_len.Given as goal

abbrev pub invariant-loop-i : goal.invariant-loop-i
invariant-loop-i l = All (λ b. is_line_break b ≡ true) (take l.i l.bytes)
