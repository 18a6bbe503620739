use Rattle.package_check.proofs.Common.{Option, ap, sym, ◌∙◌, FileView, TakesFile, next_stop, setting_of, PackageFault}
use Rattle.package_check.proofs.FlashReadingLemmas.{held}
use Rattle.package_check.proofs.OpenFiles.{opened_takes, own_reads}
use Rattle.package_check.proofs.TakeSteps.{not_wanted, read_named, wanted}
use Rattle.package_check.proofs.package_reader.PackageReader.end.Goals as goal

pub returns-then-not-is_wanted-clause-stands : goal.returns-then-not-is_wanted-clause-stands
returns-then-not-is_wanted-clause-stands c = λ index role said text name h.
    let old = c.args.self.now in
    let file = c.args.file in
    let s : FileView = record { role = file.role; name = name; said = file.said; bytes = text; setting = setting_of old } in
    opened_takes old old file index role said text name c.outcome.result h (held c.outcome.result (TakesFile old old file.index s) (not_wanted old file.index s (sym c.is_wanted.ensures ∙ c.if-not-is_wanted.true)))

pub returns-clause-stands : goal.returns-clause-stands
returns-clause-stands c = λ index role said text name h.
    let old = c.args.self.now in
    let new = c.put_file-read.new.self in
    let file = c.args.file in
    let s : FileView = record { role = file.role; name = name; said = file.said; bytes = text; setting = setting_of old } in
    let on = sym c.is_wanted.ensures ∙ c.if-not-is_wanted.false in
    opened_takes old _ file index role said text name c.outcome-2.result h
    (wanted old _ file.index s c.put_file-read.result c.outcome-2.result on c.put_file-read.ensures.keep
    (read_named old.keep file.index file.role name file.said text (setting_of old) old.slots.items new.slots.items c.put_file-read.result (c.put_file-read.ensures.read text (own_reads old file index role said text h on)))
    (c.next_stop-self.ensures ∙ ap (λ (st : Option PackageFault). next_stop st file.index c.put_file-read.result) c.put_file-read.ensures.stopped) c.outcome-2.ensures.failed)
