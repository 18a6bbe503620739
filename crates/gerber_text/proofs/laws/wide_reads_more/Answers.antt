use Rattle.gerber_text.proofs.Common.{Strict, Wide}
use Rattle.gerber_text.proofs.ProfileLemmas.{spells_more}
use Rattle.gerber_text.proofs.SpellsTextLemmas.{reads_spells, spells_reads}
use Rattle.gerber_text.proofs.laws.wide_reads_more.Goals as goal

pub returns : goal.returns
returns c text commands h = spells_reads Wide text commands (spells_more text commands (reads_spells Strict text commands h))
