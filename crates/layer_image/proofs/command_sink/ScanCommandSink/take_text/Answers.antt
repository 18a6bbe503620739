use Rattle.layer_image.proofs.Common.{◌++◌, ◌∷◌, [], text_command, item_entries}
use Rattle.layer_image.proofs.ContentLemmas.{flashes_on}
use Rattle.layer_image.proofs.command_sink.ScanCommandSink.take_text.Goals as goal

pub returns : goal.returns
returns c profile keep taken before place byte h = flashes_on profile keep taken c.args.self.now c.text.new.self before (before ++ item_entries place byte (text_command c.args.kind c.args.text.now ∷ [])) c.text.result h (λ parts. c.text.ensures parts before place byte)
