use Rattle.board_report.proofs.Common.{◌∙◌, List, refl, subst, not, AllZip, filter, Finding, Profile, IsMeasure, IsGapEntry, IsRingEntry, is_gap}
use Rattle.board_report.proofs.board_report.report_on.Goals as goal

pub returns : goal.returns
returns c =
    let board = c.args.board.now in
    let required = c.args.rules in
    let found = c.in_ok-findings.ensures.are in
    record {
      rules = refl;
      layers = c.in_ok-heads.ensures;
      rings = subst (λ (fs : List Finding). AllZip (IsRingEntry board required) (filter (λ finding. not (is_gap finding)) fs) c.in_ok-ring_lacks.field-0.items) (c.deref-4.ensures.value ∙ found) c.in_ok-ring_lacks.ensures;
      gaps = subst (λ (fs : List Finding). AllZip (IsGapEntry board required.gap) (filter is_gap fs) c.in_ok-gap_lacks.field-0.items) (c.deref-6.ensures.value ∙ found) c.in_ok-gap_lacks.ensures;
      measure = c.in_ok-measure.measure;
      measured = subst (λ (p : Profile). IsMeasure p board c.in_ok-measure.measure) c.profile.ensures c.in_ok-measure.ensures.exact;
      scales = refl;
      conflicts = c.in_ok-role_conflicts.ensures;
      meets = refl;
    }
