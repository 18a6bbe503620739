use Rattle.print_json.proofs.Common.{take, HasWritten, IsPlainFormatter, flat_map}
use Rattle.print_json.proofs.Digits.{byte_text}
use Rattle.print_json.proofs.certificate.write_bytes.Given as goal

abbrev pub invariant-loop-byte : goal.invariant-loop-byte
invariant-loop-byte g l =
    IsPlainFormatter l.initial.f → HasWritten g.W.Write.write_str_gives l.initial.f (flat_map byte_text (take l.byte-index l.bytes)) l.f
