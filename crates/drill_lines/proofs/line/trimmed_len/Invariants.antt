use Rattle.drill_lines.proofs.Common.{◌≡◌, ◌≤◌, length, take, without_end_blanks}
use Rattle.drill_lines.proofs.line.trimmed_len.Given as goal

abbrev pub invariant-loop-len : goal.invariant-loop-len
invariant-loop-len l = record { within : l.len ≤ length l.line; same : without_end_blanks (take l.len l.line) ≡ without_end_blanks l.line }

abbrev pub decreases-loop-len : goal.decreases-loop-len
decreases-loop-len l = l.len
