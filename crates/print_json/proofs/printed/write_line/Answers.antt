use Rattle.print_json.proofs.Common.{has_written_of_eq}
use Rattle.print_json.proofs.Texts.{line_text}
use Rattle.print_json.proofs.printed.write_line.Goals as goal

pub returns : goal.returns
returns g c = λ plain ok. has_written_of_eq _ _ _ _ _ (line_text (g.V.Value.value c.args.value.now)) (c.write.ensures.writes plain ok)
