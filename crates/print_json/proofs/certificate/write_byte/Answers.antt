use Rattle.print_json.proofs.Common.{arith, has_written_of_eq}
use Rattle.print_json.proofs.Digits.{byte_digits}
use Rattle.print_json.proofs.certificate.write_byte.Goals as goal

pub returns : goal.returns
returns g c = λ plain ok. has_written_of_eq _ _ _ _ _ (byte_digits c.args.byte (omega arith)) (c.write_digits.ensures plain ok)
