use Rattle.ringcheck.proofs.Common.{Some, Result, IfOk, [], ◌≡◌, ap, subst, sym, ◌∙◌, IfOk-weaker, option_or, true, AreDigestsOf, HasJudgedAll, HasRisen, OfFiles, PackageFault, ReturnsReport, Setting, sources}
use Rattle.layer_features.specs.declared.keep.Keep.TheVariants as keep
use Rattle.package_check.specs.Reports.{ReportView}
use Rattle.package_check.specs.Soundness.{IsSound}
use Rattle.ringcheck.specs.Inner.Loading.{IsHashedReport}
use Rattle.ringcheck.proofs.LoadedFiles.{all_checked, or_default, passes_end}
use Rattle.ringcheck.proofs.Outcomes.{of_read}
use Rattle.ringcheck.proofs.load_package.check_files.Given as given
use Rattle.ringcheck.proofs.load_package.check_files.Goals as goal
use Rattle.ringcheck.proofs.load_package.check_files.Goals.{In_ok-check-2}

-- what came of the copper files is what came of all
checked : (g : given.Over) (c : In_ok-check-2 g) → OfFiles (g.L.Loader.has c.args.loader.now) c.args.rules.profile c.args.entries.now (HasRisen (g.L.Loader.failed c.args.loader.now) (g.L.Loader.failed c.check_copper.new.loader)) (λ it files. HasJudgedAll it files c.args.rules × AreDigestsOf c.check_copper.new.digests files (λ i. true)) c.in_ok-check-2.field-0
checked g c =
    let has = g.L.Loader.has in
    let failed = g.L.Loader.failed in
    let one = c.in_ok-drills.ensures in
    let check = c.in_ok-check in
    let read_in = c.new-reader.ensures.setting ∙ (λ j. let s : Setting = record { layers = c.layer_count.ensures j; profile = c.profile.ensures j } in s) in
    all_checked (has c.args.loader.now) (has c.take_kind.new.loader) one.keeps c.args.entries.now keep.Pads c.args.rules c.new-reader.result c.take_kind.new.reader check.check c.args.digests.now c.take_kind.new.digests c.check_copper.new.digests c.in_ok-drills.drills.end
    (failed c.args.loader.now) (failed c.take_kind.new.loader) (failed c.check_copper.new.loader) (rw c.in_default.is at one.ends) read_in one.setting check.ensures.layers
    c.new-reader.ensures.stands one.loaded (λ files. check.ensures.stands keep.Pads files) one.counts c.in_ok-check-2.field-0 c.in_ok-check-2.ensures.taken

pub returns-in-Some : goal.returns-in-Some
returns-in-Some g c =
    let has = g.L.Loader.has in
    let failed = g.L.Loader.failed in
    let drills = c.in_ok-drills.drills in
    let before = c.in_ok-before.field-0 in
    let one = c.in_ok-drills.ensures in
    let two = c.in_ok-before.ensures in
    let read_in = c.new-reader.ensures.setting ∙ (λ j. let s : Setting = record { layers = c.layer_count.ensures j; profile = c.profile.ensures j } in s) in
    let ended = passes_end (has c.args.loader.now) (has c.take_kind.new.loader) one.keeps c.args.rules.profile c.args.entries.now keep.Pads c.new-reader.result c.take_kind.new.reader c.take_kind-before.new.reader c.args.digests.now c.take_kind.new.digests c.take_kind-before.new.digests drills.end before.end
    (failed c.args.loader.now) (failed c.take_kind.new.loader) (failed c.take_kind-before.new.loader) read_in one.setting c.new-reader.ensures.stands one.loaded two.loaded
    one.counts two.counts one.within two.within drills.halt before.halt one.ends two.ends in
    rw (ap (option_or before.halt) c.in-Some.is ∙ (or_default before.halt c.in-Some.halt ∙ ap Some (sym c.unwrap_or.ensures))) at ended

pub returns-in-Ok : goal.returns-in-Ok
returns-in-Ok g c =
    let has = g.L.Loader.has c.args.loader.now in
    let all = c.args.entries.now in
    let rules = c.args.rules in
    let (files, held, (judged, digested)) = rw c.in-Ok.is at (checked g (goal.at.returns-in-Ok g c).In_ok-check-2) in
    let views = sources rules.profile all files in
    let exact = c.finish.ensures.exact views rules judged in
    IfOk-weaker c.read_of.result _ _
    (of_read has rules.profile all _ files (IsHashedReport rules c.check_copper.new.digests) held c.finish.result
    (λ report is.
    let made = subst (ReturnsReport views rules) is exact in
    (record { is = made; legal = (made.contents, made.read); sound = subst (λ (r : Result ReportView PackageFault). IfOk r (λ made. made.findings ≡ [] → IsSound views rules)) is (c.finish.ensures.sound views rules judged) }, digested))
    (λ index fault is. subst (ReturnsReport views rules) is exact)) c.read_of.ensures

pub returns-in-Err : goal.returns-in-Err
returns-in-Err g c = rw c.in-Err.is at (checked g (goal.at.returns-in-Err g c).In_ok-check-2)
