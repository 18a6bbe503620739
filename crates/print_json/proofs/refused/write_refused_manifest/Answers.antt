use Rattle.print_json.proofs.Common.{append_assoc, has_written_of_eq, escape_byte}
use Rattle.print_json.proofs.refused.write_refused_manifest.Goals as goal

pub returns : goal.returns
unfolding escape_byte
returns g c = λ plain ok. has_written_of_eq _ _ _ _ _ (simp (c.name.ensures, append_assoc)) (c.write.ensures.writes plain ok)
