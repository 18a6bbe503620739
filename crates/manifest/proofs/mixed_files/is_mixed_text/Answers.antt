use Rattle.manifest.proofs.MixedFileLemmas.{no, yes}
use Rattle.manifest.proofs.mixed_files.is_mixed_text.Goals as goal
use Rattle.manifest.proofs.mixed_files.is_mixed_text.Goals.{in-Ok, in-Err-Refused, in-Err-Memory}

pub returns : goal.returns
returns c = elim c.match-read_mixed.branch [
  | in-Ok w ↦ rw w.result-is (yes c.args.text.now w.in-Ok.field-0 w.in-Ok.ensures)
  | in-Err-Refused w ↦ rw w.result-is (no c.args.text.now w.in-Err-Refused.field-0-0 (rw w.in-Err-Refused.field-0-is at w.in-Err-Refused.ensures))
  | in-Err-Memory w ↦ rw w.result-is tt
]
