use Rattle.layer_image.proofs.Common.{◌++◌, without_pads}
use Rattle.layer_image.proofs.ContentLemmas.{flashes_on}
use Rattle.layer_image.proofs.command_sink.ScanCommandSink.take_commands.Goals as goal

pub returns-clause-ok : goal.returns-clause-ok
returns-clause-ok c profile keep taken before h = flashes_on profile keep taken c.args.self.now c.scan.new.self before (before ++ c.args.entries.now) c.scan.result h (λ parts. c.scan.ensures.ok parts before)

pub returns-clause-refused : goal.returns-clause-refused
returns-clause-refused c profile keep taken before h = c.scan.ensures.refused (without_pads profile h.kept h.plain_taken) before h.scanned
