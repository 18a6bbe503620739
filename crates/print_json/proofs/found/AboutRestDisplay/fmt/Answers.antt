use Rattle.print_json.proofs.Common.{append_assoc, has_written_of_eq, escape, escape_byte}
use Rattle.print_json.proofs.found.AboutRestDisplay.fmt.Goals as goal

pub returns-clause-writes : goal.returns-clause-writes
unfolding escape_byte
returns-clause-writes g c = λ plain ok.
    let about = c.args.self.now.json.now.about.now in
    has_written_of_eq _ _ _ _ _ (simp (append_assoc, append_assoc (escape about.manifest.now), append_assoc (escape about.program.now))) (c.write.ensures.writes plain ok)
