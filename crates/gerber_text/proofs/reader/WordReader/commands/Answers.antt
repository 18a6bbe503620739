use Rattle.gerber_text.proofs.Common.{sym, subst, ap, ◌++◌, Entries, SpellsBeforeFaultIn}
use Rattle.gerber_text.proofs.FinishLemmas.{holds_shows}
use Rattle.gerber_text.proofs.reader.WordReader.commands.Goals as goal

pub returns-clause-shown : goal.returns-clause-shown
returns-clause-shown c profile gone text h = holds_shows profile c.args.self.now.progress gone text (gone ++ c.deref.result.now) (ap (λ (x : Entries). gone ++ x) c.deref.ensures.value) c.args.self.now.progress.in_text h.holds

pub returns-clause-kept : goal.returns-clause-kept
returns-clause-kept c profile gone text e h = subst (λ (x : Entries). SpellsBeforeFaultIn profile text e (gone ++ x)) (sym c.deref.ensures.value) h.fails.kept
