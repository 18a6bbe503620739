use Rattle.gerber_text.proofs.Common.{◌∙◌, sym, refl}
use Rattle.gerber_text.proofs.FinishLemmas.{never}
use Rattle.gerber_text.proofs.reader.WordReader.feed_part.Goals as goal

pub returns-in-Some-clause-err : goal.returns-in-Some-clause-err
returns-in-Some-clause-err c profile gone text h = absurd (never c.in-Some.fail (sym c.in-Some.is ∙ h.sound))

pub returns-in-Err-clause-err : goal.returns-in-Err-clause-err
returns-in-Err-clause-err c profile gone text h = record { failed = refl; fails = c.in-Err.ensures.err profile gone text h.holds }
