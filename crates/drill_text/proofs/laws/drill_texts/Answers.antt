use Rattle.drill_text.proofs.SpellsTextLemmas.{reads_drill_text, drill_text_reads}
use Rattle.drill_text.proofs.laws.drill_texts.Goals as goal

pub returns : goal.returns
returns c text commands = (reads_drill_text text commands, drill_text_reads text commands)
