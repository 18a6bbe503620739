use Rattle.print_json.proofs.Common.{◌∙◌, ℕ, List, ap, arith, flat_map, has_written_of_eq, take_all}
use Rattle.print_json.proofs.Digits.{byte_text, bytes_text}
use Rattle.print_json.proofs.certificate.write_bytes.Goals as goal

pub returns : goal.returns
returns g c = λ plain ok.
    let all = c.args.bytes.now in
    has_written_of_eq _ _ _ _ _
    (ap (λ (bs : List ℕ). flat_map byte_text bs) (take_all c.loop-byte.byte-index all (omega arith)) ∙ bytes_text all)
    (c.loop-byte.invariant plain)
