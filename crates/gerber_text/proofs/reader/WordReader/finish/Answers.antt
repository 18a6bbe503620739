use Rattle.gerber_text.proofs.Common.{[], ◌∙◌, sym, Strict}
use Rattle.gerber_text.proofs.FinishLemmas.{never}
use Rattle.gerber_text.proofs.TextIsSayable.{always_sayable}
use Rattle.gerber_text.proofs.reader.WordReader.finish.Goals as goal

pub returns-in-Some-clause-exact : goal.returns-in-Some-clause-exact
returns-in-Some-clause-exact c profile gone text h = absurd (never c.in-Some.fail (sym c.in-Some.is ∙ h.sound))

pub returns-in-Some-clause-kept : goal.returns-in-Some-clause-kept
returns-in-Some-clause-kept c profile gone text h = absurd (never c.in-Some.fail (sym c.in-Some.is ∙ h.sound))

pub returns-in-None-clause-exact : goal.returns-in-None-clause-exact
returns-in-None-clause-exact c profile gone text h = c.finish.ensures.exact profile gone text h.holds

pub returns-in-None-clause-kept : goal.returns-in-None-clause-kept
returns-in-None-clause-kept c profile gone text h = c.finish.ensures.kept profile gone text h.holds

pub returns-in-None-clause-sayable : goal.returns-in-None-clause-sayable
returns-in-None-clause-sayable c text h = always_sayable text c.finish.result (c.finish.ensures.exact Strict [] text h.holds)
