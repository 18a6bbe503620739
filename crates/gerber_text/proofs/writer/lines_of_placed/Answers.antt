use Rattle.gerber_text.proofs.Common.{◌∙◌, Command, Placed}
use Rattle.gerber_text.proofs.WriterLemmas.{line, written_step, written_all, lines_placed}
use Rattle.gerber_text.proofs.writer.lines_of_placed.Goals as goal

pub loop-command-preserved : goal.loop-command-preserved
loop-command-preserved c = written_step (λ (c : Placed Command). line c.what) c.args.commands.now c.loop-command.command-index c.command-item.result c.loop-command.out.items c.put_line.new.out.items c.loop-command-test.true c.command-item.is c.loop-command.invariant c.in_ok-put_line.ensures

pub returns : goal.returns
returns c = written_all (λ (c : Placed Command). line c.what) c.args.commands.now c.loop-command.command-index c.loop-command.out.items c.loop-command-test.false c.loop-command.invariant ∙ lines_placed c.args.commands.now
