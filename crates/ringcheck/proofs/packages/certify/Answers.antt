use Rattle.ringcheck.proofs.Common.{◌≡◌, ◌∙◌, List, ℕ, ap, arith, length, sym, file_limit, within, sources, setting_in}
use Rattle.ringcheck.proofs.CertifiedFiles.{digests_all, written_back}
use Rattle.ringcheck.proofs.LoadSteps.{same_length}
use Rattle.ringcheck.proofs.LoadedFiles.{views_length}
use Rattle.ringcheck.proofs.Outcomes.{names_loaded}
use Rattle.ringcheck.proofs.packages.certify.Goals as goal

pub returns-in-Ok-clause-answers : goal.returns-in-Ok-clause-answers
returns-in-Ok-clause-answers g c named =
    let has = g.L.Loader.has c.args.loader.now in
    let entries = c.args.manifest.entries.now in
    let rules = c.args.rules in
    let (files, held, (is, digested)) = rw c.in-Ok.is at c.in_ok-report.ensures in
    let all = sources rules.profile entries files in
    let names = named ∙ names_loaded (within file_limit has) rules.profile entries files held in
    let now = c.check_files.new.digests in
    let items = c.in_ok-digests.digests.items in
    let kept : length now ≡ length c.as_mut_slice.result.now = c.check_files.auto.digests in
    let made = c.in_ok-digests.ensures.len in
    let lent = c.as_mut_slice.ensures.len in
    let same : length items ≡ length c.as_mut_slice.result.now = ap (λ (xs : List (List ℕ)). length xs) (sym c.as_mut_slice.ensures.value) in
    let entry_each = same_length (within file_limit has) entries files held in
    let views : length all ≡ length entries = views_length (setting_in rules.profile entries) entries files (sym entry_each) in
    let back = c.as_slice-digests.ensures.value ∙ written_back _ now items (omega (arith, kept, lent)) (omega (arith, same, lent)) in
    (files, held, c.in_ok-passes-in-Ok.ensures all rules names is (back ∙ digests_all now all (omega (arith, kept, lent, made, views)) digested))
