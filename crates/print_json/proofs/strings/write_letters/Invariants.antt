use Rattle.print_json.proofs.Common.{encode_utf8, HasWritten, IsPlainFormatter, flat_map, escape}
use Rattle.print_json.proofs.strings.write_letters.Given as goal

abbrev pub invariant-loop-letter : goal.invariant-loop-letter
invariant-loop-letter g l =
    IsPlainFormatter l.initial.f → HasWritten g.W.Write.write_str_gives l.initial.f (flat_map (λ letter. escape (encode_utf8 letter)) l.yielded) l.f
