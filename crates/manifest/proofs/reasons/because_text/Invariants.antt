use Rattle.manifest.proofs.Common.{◌≡◌, ◌++◌, take, flat_map, byte_text}
use Rattle.manifest.proofs.reasons.because_text.Given as goal

abbrev pub invariant-loop-byte : goal.invariant-loop-byte
invariant-loop-byte l = l.text.items ≡ l.initial.text.items ++ flat_map byte_text (take l.byte-index l.byte-items)
