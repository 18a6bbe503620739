use Rattle.print_json.proofs.Common.{append_assoc, has_written_of_eq, escape, escape_byte}
use Rattle.print_json.proofs.refused.write_refused_file.Goals as goal

pub returns : goal.returns
unfolding escape_byte
returns g c = λ plain ok. has_written_of_eq _ _ _ _ _ (simp (c.name.ensures, append_assoc, append_assoc (escape c.args.name.now))) (c.write.ensures.writes plain ok)
