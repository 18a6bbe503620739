-- A package passes under just the rules that it meets.
use Rattle.package_check.proofs.Common.{ℕ, List, Err, IfOk, refl, sym, ap, ◌∙◌, GridRules, Profile, wide_pad_covers, report_of_board, IsAnswer, IsReport, FileView, Fault, AnswerIsUnique, ReportView, PackageFault}
use Rattle.std.proofs.Common.{Result, Ok}
use Rattle.board.specs.Meets.{GapsPassExactly, RingsPassExactly}
use Rattle.package_check.specs.Measures.{AnswersMeasure, MeasuredPasses, PackagePasses, RefusesAlike}
use Rattle.package_check.specs.declared.PackageFault.TheVariants as stop
use Rattle.package_check.proofs.BoardsLemmas.{reported_on}
use Rattle.package_check.proofs.FlashReadingLemmas.{err_same, ok_or_err, ok_same}
use Rattle.board_report.proofs.MeasuresLemmas.{board_passes}
use Rattle.report.specs.declared.Measure.{Measure}

pub measured_passes : RingsPassExactly wide_pad_covers → GapsPassExactly → AnswerIsUnique → MeasuredPasses
measured_passes rings gaps one profile sources board ring gap is met_rings met_gaps =
    let passes = board_passes profile board ring gap (rings profile board.layers board.holes ring met_rings) (gaps board.holes gap met_gaps) in
    let its = λ (rules : GridRules). reported_on sources rules board (report_of_board rules board) is refl in
    let same = λ (rules : GridRules) (report : ReportView) (h : IsReport sources rules report). ok_same (one sources rules (Ok report) (Ok (report_of_board rules board)) h (its rules)) in
    record {
      reported = λ rules. (report_of_board rules board, its rules);
      passes = λ rules report in_profile h. (
        λ none. (passes rules in_profile).0 (sym (ap (λ (r : ReportView). r.findings) (same rules report h)) ∙ none),
        λ allowed. ap (λ (r : ReportView). r.findings) (same rules report h) ∙ (passes rules in_profile).1 allowed,
      );
    }

module _ (profile : Profile) (sources : List FileView) where
  pub measured : MeasuredPasses → (r : Result Measure PackageFault) → AnswersMeasure profile sources r → IfOk r (λ measure. PackagePasses profile sources measure.meets.ring measure.meets.gap)
  measured law (Ok measure) h = law profile sources h.board measure.meets.ring measure.meets.gap h.read h.is.rings h.is.gaps
  measured law (Err e) h = tt

  pub refused_alike : AnswerIsUnique → (r : Result Measure PackageFault) → AnswersMeasure profile sources r → (rules : GridRules) (answer : Result ReportView (ℕ × Fault)) → IsAnswer sources rules answer → RefusesAlike answer r
  refused_alike one (Ok measure) h rules (Ok report) k = tt
  refused_alike one (Ok measure) h rules (Err refusal) k =
      ok_or_err (one sources rules (Ok (report_of_board rules h.board)) (Err refusal) (reported_on sources rules h.board (report_of_board rules h.board) h.read refl) k)
  refused_alike one (Err stop.Memory) h rules answer k = tt
  refused_alike one (Err (stop.File index fault)) h rules (Ok report) k = ok_or_err (one sources rules (Ok report) (Err (index, fault)) k h)
  refused_alike one (Err (stop.File index fault)) h rules (Err refusal) k = err_same (one sources rules (Err refusal) (Err (index, fault)) k h)
