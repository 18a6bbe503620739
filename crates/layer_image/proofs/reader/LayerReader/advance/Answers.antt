-- Where commands are dropped, the words and what takes in commands are all that changes.
use Rattle.layer_image.proofs.Common.{◌++◌, ◌∙◌, sym}
use Rattle.layer_image.specs.declared.content.LayerContent.TheVariants as content
use Rattle.layer_image.proofs.Pieces.{parts_met, parts_of}
use Rattle.layer_image.proofs.reader.LayerReader.advance.Goals as goal

pub returns-in-Flashes-clause-ok : goal.returns-in-Flashes-clause-ok
returns-in-Flashes-clause-ok c profile keep taken text h =
    parts_met content.Flashes c.args.self.now c.take_parts.new.words c.take_parts.new.content profile keep taken text (text ++ c.args.piece.now) c.take_parts.result (sym c.commands.ensures ∙ c.if-commands.false) h (c.take_parts.ensures.ok profile keep taken text (parts_of content.Flashes c.args.self.now c.in-Flashes.scan profile keep taken text c.in-Flashes.is h))

pub returns-in-Flashes-clause-err : goal.returns-in-Flashes-clause-err
returns-in-Flashes-clause-err c profile keep taken text h = c.take_parts.ensures.err profile keep taken text (parts_of content.Flashes c.args.self.now c.in-Flashes.scan profile keep taken text c.in-Flashes.is h)

pub returns-in-Features-clause-ok : goal.returns-in-Features-clause-ok
returns-in-Features-clause-ok c profile keep taken text h =
    parts_met content.Features c.args.self.now c.take_parts-in-Features.new.words c.take_parts-in-Features.new.content profile keep taken text (text ++ c.args.piece.now) c.take_parts-in-Features.result (sym c.commands.ensures ∙ c.if-commands.false) h (c.take_parts-in-Features.ensures.ok profile keep taken text (parts_of content.Features c.args.self.now c.in-Features.met profile keep taken text c.in-Features.is h))

pub returns-in-Features-clause-err : goal.returns-in-Features-clause-err
returns-in-Features-clause-err c profile keep taken text h = c.take_parts-in-Features.ensures.err profile keep taken text (parts_of content.Features c.args.self.now c.in-Features.met profile keep taken text c.in-Features.is h)
