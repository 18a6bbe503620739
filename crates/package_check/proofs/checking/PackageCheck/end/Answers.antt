use Rattle.package_check.proofs.Common.{Ok, Option, ap, subst, sym, ◌∙◌, CheckView, TakesCopper, ReadsInto, is_wanted, next_stop, Judges, FileView, unnamed_file, PackageFault}
use Rattle.manifest.specs.declared.Role.TheVariants as role
use Rattle.package_check.specs.CheckViews.{setting_of}
use Rattle.package_check.proofs.CheckSteps.{judged_more, judged_passed}
use Rattle.package_check.proofs.FlashReadingLemmas.{held}
use Rattle.package_check.proofs.CopperPieces.{ended, own_copper}
use Rattle.package_check.proofs.checking.PackageCheck.end.Goals as goal

pub returns-then-not-is_wanted-clause-stands : goal.returns-then-not-is_wanted-clause-stands
returns-then-not-is_wanted-clause-stands c = λ start index layer said text name h.
    let old = c.args.self.now in
    let file = c.args.file in
    let s : FileView = record { role = role.Copper; name = name; said = said; bytes = text; setting = setting_of old } in
    ended start old old file index layer said text name c.outcome.result h (held c.outcome.result (TakesCopper old old file.index file.layer s) (judged_passed old file.index file.layer s
    (sym (ap (λ (v : CheckView). is_wanted v.stopped file.index) c.self.view_is) ∙ (sym c.is_wanted.ensures ∙ c.if-not-is_wanted.true))))

pub returns-clause-stands : goal.returns-clause-stands
returns-clause-stands c = λ start index layer said text name h.
    let old = c.args.self.now in
    let file = c.args.file in
    let read = c.put_file-read.result in
    let view = c.self-2.view_is in
    let on = sym (ap (λ (v : CheckView). is_wanted v.stopped file.index) c.self.view_is) ∙ (sym c.is_wanted.ensures ∙ c.if-not-is_wanted.false) in
    ended start old _ file index layer said text name c.outcome-2.result h
    (judged_more old _ file.index file.layer name said text read c.outcome-2.result on (ap (λ (v : CheckView). v.holes) view ∙ c.put_file-read.ensures.holes)
    (ap (λ (v : CheckView). v.rules) view ∙ c.put_file-read.ensures.rules)
    (λ free.
    subst (λ (v : CheckView). ReadsInto (λ one. Judges old.rules old.holes file.layer (unnamed_file role.Copper said (setting_of old) text) (Ok one)) file.index (unnamed_file role.Copper said (setting_of old) text) old.slots v.slots read) (sym view)
    (c.put_file-read.ensures.read said text (own_copper start old index layer said file text h on) free))
    (c.next_stop-self-inside.ensures
    ∙ (ap (λ (v : CheckView). next_stop v.stopped file.index read) view ∙ ap (λ (st : Option PackageFault). next_stop st file.index read) c.put_file-read.ensures.stopped)) c.outcome-2.ensures.failed)
