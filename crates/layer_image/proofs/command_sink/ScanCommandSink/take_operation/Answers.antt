use Rattle.layer_image.proofs.Common.{◌++◌, passed_entries, without_pads}
use Rattle.layer_image.proofs.ContentLemmas.{flashes_on}
use Rattle.layer_image.proofs.command_sink.ScanCommandSink.take_operation.Goals as goal

pub returns-clause-ok : goal.returns-clause-ok
returns-clause-ok c profile keep taken before h = flashes_on profile keep taken c.args.self.now c.operate.new.self before (before ++ passed_entries c.args.passed.now) c.operate.result h (λ parts. c.operate.ensures.ok parts before)

pub returns-clause-refused : goal.returns-clause-refused
returns-clause-refused c profile keep taken before h = c.operate.ensures.refused (without_pads profile h.kept h.plain_taken) before h.scanned
