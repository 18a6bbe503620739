use Rattle.gerber_text.proofs.LengthLemmas.{standard_test}
use Rattle.gerber_text.proofs.sayable_items.is_define_short.Goals as goal

pub returns-in-Standard : goal.returns-in-Standard
returns-in-Standard c = standard_test c.args.number c.args.template.now c.in-Standard.field-0 c.in-Standard.field-1 c.in-Standard.is c.requires
