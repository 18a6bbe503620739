use Rattle.gerber_text.proofs.WriterLemmas.{exact_of, reads_back}
use Rattle.gerber_text.proofs.writer.write_commands.Goals as goal

pub returns : goal.returns
returns c = record {
  exact = exact_of c.args.commands.now c.in_ok-lines_of.field-0.items c.limited_text.result c.in_ok-lines_of.ensures c.limited_text.ensures;
  reads_back = reads_back c.args.commands.now c.in_ok-lines_of.field-0.items c.limited_text.result c.in_ok-lines_of.ensures c.limited_text.ensures;
}
