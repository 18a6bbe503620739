use Rattle.gerber_text.proofs.TextIsSayable.{text_sayable}
use Rattle.gerber_text.proofs.laws.sayable_texts.Goals as goal

pub returns : goal.returns
returns c = text_sayable
