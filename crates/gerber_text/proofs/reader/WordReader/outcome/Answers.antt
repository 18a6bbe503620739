use Rattle.gerber_text.proofs.Common.{[], ◌≡◌, Some, Err, sym, subst, ◌∙◌, Fail, ReadsUpToFault}
use Rattle.gerber_text.proofs.FinishLemmas.{ends_keeps, keeps_err, never}
use Rattle.gerber_text.proofs.reader.WordReader.outcome.Goals as goal

same : (a b : Fail) → Some a ≡ Some b → a ≡ b
same a b h = cc

pub returns-in-Some-clause-stands : goal.returns-in-Some-clause-stands
returns-in-Some-clause-stands c profile text h = absurd (never c.in-Some.fail (sym c.in-Some.is ∙ h.sound))

pub returns-in-Some-clause-failed : goal.returns-in-Some-clause-failed
returns-in-Some-clause-failed c profile text e h =
    let cs = c.args.self.now.progress.commands.items in
    subst (λ (f : Fail). ReadsUpToFault {X = Unit {0}} profile text cs (Err f)) (same e c.in-Some.fail (sym h.failed ∙ c.in-Some.is)) (keeps_err profile text cs e h.fails)

pub returns-in-None-clause-stands : goal.returns-in-None-clause-stands
returns-in-None-clause-stands c profile text h = ends_keeps profile text c.args.self.now.progress.commands.items c.end.result (c.end.ensures profile [] text h.holds)

pub returns-in-None-clause-failed : goal.returns-in-None-clause-failed
returns-in-None-clause-failed c profile text e h = absurd (never e (sym h.failed ∙ c.in-None.is))
