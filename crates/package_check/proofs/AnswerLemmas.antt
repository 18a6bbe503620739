-- What follows from an answer to a package.
use Rattle.package_check.proofs.Common.{◌≡◌, ℕ, List, [], Result, Ok, Err, IfOk, GridRules, Fault, PackageFault, AnswerIsUnique, FileView, ReturnsExactly, ReturnsReport, FindingsNameTheirPlaces, IsAnswer, NamesItsPlaces, ReportView, IsSound, PassingIsSound, AreLegal}
use Rattle.package_check.specs.declared.PackageFault.TheVariants as stop

module _ (sources : List FileView) (rules : GridRules) where
  pub just : AnswerIsUnique → (r : Result ReportView PackageFault) → ReturnsReport sources rules r → (answer : Result ReportView (ℕ × Fault)) → IsAnswer sources rules answer → ReturnsExactly answer r
  just once (Ok report) h answer k = once sources rules answer (Ok report) k h
  just once (Err stop.Memory) h answer k = tt
  just once (Err (stop.File index fault)) h answer k = once sources rules answer (Err (index, fault)) k h

  pub named : FindingsNameTheirPlaces → (r : Result ReportView PackageFault) → ReturnsReport sources rules r → IfOk r NamesItsPlaces
  named law (Ok report) h = law sources rules report h
  named law (Err e) h = tt

  pub passed : PassingIsSound → (r : Result ReportView PackageFault) → ReturnsReport sources rules r → IfOk r (λ report. report.findings ≡ [] → IsSound sources rules)
  passed law (Ok report) h = law sources rules report h
  passed law (Err e) h = tt

  pub legal : (r : Result ReportView PackageFault) → ReturnsReport sources rules r → IfOk r (λ report. AreLegal sources)
  legal (Ok report) h = (h.contents, h.read)
  legal (Err e) h = tt
