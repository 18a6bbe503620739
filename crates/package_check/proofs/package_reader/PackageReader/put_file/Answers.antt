use Rattle.package_check.proofs.Common.{ℕ, List, Err, Option, refl, Answers, Fail, Keep, ReadsAt, Reads, FileView, Content, Kept, setting_of, unnamed_file}
use Rattle.grid_units.specs.declared.fault.Fail.TheVariants as fails
use Rattle.package_check.proofs.package_reader.PackageReader.put_file.Goals as goal

-- where a file is not read, the slots stay
stays : (keep : Keep) (index : ℕ) (s : FileView) (slots : List (Option Kept)) (why : Fail) → Answers {T = Content} (λ x. x) (Reads s) (Err why) → ReadsAt keep index s slots slots (Err why)
stays keep index s slots fails.Memory h = tt
stays keep index s slots (fails.Refused fault) h = (h, refl)

pub returns-in-Err-clause-read : goal.returns-in-Err-clause-read
returns-in-Err-clause-read c = λ text h.
    let file = c.args.file in
    let now = c.args.self.now in stays now.keep file.index (unnamed_file file.role file.said (setting_of now) text) now.slots.items c.in-Err.fail (c.in-Err.ensures.content file.role (setting_of now) text h)

pub returns-in_ok-put-in-Ok-clause-read : goal.returns-in_ok-put-in-Ok-clause-read
returns-in_ok-put-in-Ok-clause-read c = λ text h.
    let setting = setting_of c.args.self.now in
    let read = c.in-Ok.ensures in
    let one : Kept = record { content = c.in-Ok.content; shown = c.finish.new.shown } in (
      one,
      record {
        content = read.content c.args.file.role setting text h;
        rows = λ keeps copper. read.flashes c.args.file.role setting text h keeps copper;
        drawn = λ keeps copper. read.drawn c.args.file.role setting text h keeps copper;
      },
      c.in_ok-put-in-Ok.ensures.put,
    )
