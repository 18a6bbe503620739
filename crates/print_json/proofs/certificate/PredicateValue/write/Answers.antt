use Rattle.print_json.proofs.Common.{append_assoc, has_written_of_eq, escape_byte}
use Rattle.print_json.specs.Certificates.{predicate_value}
use Rattle.print_json.proofs.certificate.PredicateValue.write.Goals as goal

pub returns : goal.returns
unfolding predicate_value escape_byte
returns g c = λ plain ok. has_written_of_eq _ _ _ _ _ (simp append_assoc) (c.write.ensures.writes plain ok)
