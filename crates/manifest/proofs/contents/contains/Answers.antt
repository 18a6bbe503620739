use Rattle.manifest.proofs.Common.{◌∙◌, ap}
use Rattle.std.specs.Option.{is_some}
use Rattle.memchr.proofs.lemmas.ValueLemmas.{FindsNeedle-value}
use Rattle.manifest.proofs.contents.contains.Goals as goal

pub returns : goal.returns
returns c = c.is_some.ensures ∙ ap is_some (FindsNeedle-value c.args.text.now c.args.part.now c.find.result c.find.ensures)
