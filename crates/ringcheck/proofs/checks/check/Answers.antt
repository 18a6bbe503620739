use Rattle.ringcheck.proofs.Common.{List, ℕ, subst, sym, ◌∙◌, Appends}
use Rattle.package_check.specs.Texts.{text_of}
use Rattle.ringcheck.proofs.Outcomes.{none_left}
use Rattle.ringcheck.proofs.checks.check.Goals as goal

pub returns : goal.returns
returns g c all rules named is =
    let report = c.args.report.now in
    let contents = g.W.Write.contents in
    let passed = rw c.findings.ensures at c.is_empty.ensures in
    record {
      report = report;
      is = is.is;
      legal = is.legal;
      written = subst (λ (ns : List (List ℕ)). Appends (contents c.args.out.now) (contents c.write.new.self) (text_of ns report)) named c.in_ok-write.ensures.bytes;
      passed = passed;
      sound = λ passes. is.sound (none_left report.findings (sym passed ∙ passes));
    }
