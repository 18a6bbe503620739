use Rattle.gerber_text.proofs.Common.{without_places}
use Rattle.gerber_text.proofs.WriterLemmas.{exact_of, reads_back}
use Rattle.gerber_text.proofs.writer.write_placed.Goals as goal

pub returns : goal.returns
returns c = record {
  exact = exact_of (without_places c.args.commands.now) c.in_ok-lines_of_placed.field-0.items c.limited_text.result c.in_ok-lines_of_placed.ensures c.limited_text.ensures;
  reads_back = reads_back (without_places c.args.commands.now) c.in_ok-lines_of_placed.field-0.items c.limited_text.result c.in_ok-lines_of_placed.ensures c.limited_text.ensures;
}
