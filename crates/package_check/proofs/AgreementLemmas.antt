-- The entries of a report and the findings of its check.
use Rattle.package_check.proofs.Common.{◌≡◌, ◌+◌, ◌∷◌, ℕ, List, [], length, refl, sym, subst, ap, ap₂, ◌∙◌, AllZip, filter, GridRules, Finding, IsReport, BoardView, board_findings, report_of_board, IsGapEntry, IsRingEntry, is_gap, MatchesGap, MatchesRing, ReportAgreesWithCheck, AllZip-long, nil_from_length, not_not, Gap, AnswerIsUnique, ReportView, PassingIsSound}
use Rattle.std.proofs.Common.{not}
use Rattle.std.specs.Prelude.{Ok}
use Rattle.std.proofs.lemmas.List.Filters.{length-filter_both}
use Rattle.package_check.proofs.FlashReadingLemmas.{ok_same}
use Rattle.package_check.proofs.BoardsLemmas.{reported_on}
use Rattle.report.specs.declared.GapLack.{GapLack}
use Rattle.report.specs.declared.RingLack.{RingLack}

-- the findings of rings and of gaps together are as many as all findings
parted : {T U : Type 0} (R : Finding → T → Type 0) (S : Finding → U → Type 0) (found : List Finding) (rings : List T) (gaps : List U)
    → AllZip R (filter (λ finding. not (is_gap finding)) found) rings → AllZip S (filter is_gap found) gaps → length found ≡ length rings + length gaps
parted R S found rings gaps are_rings are_gaps =
    sym (length-filter_both (λ finding. not (is_gap finding)) is_gap (λ finding. sym (not_not (is_gap finding))) found)
    ∙ ap₂ (λ (n k : ℕ). n + k) (sym (AllZip-long R (filter (λ finding. not (is_gap finding)) found) rings are_rings)) (sym (AllZip-long S (filter is_gap found) gaps are_gaps))

-- entries that meet a statement meet a weaker one
weaker : {T : Type 0} (R S : Finding → T → Type 0) → ((x : Finding) (t : T) → R x t → S x t) → (xs : List Finding) (ts : List T) → AllZip R xs ts → AllZip S xs ts
weaker R S to [] [] h = tt
weaker R S to (x ∷ xs) (t ∷ ts) h = (to x t h.0, weaker R S to xs ts h.1)
weaker R S to xs ts h = h

of_ring : (board : BoardView) (required : GridRules) (finding : Finding) (output : RingLack) → IsRingEntry board required finding output → MatchesRing board.files finding output
of_ring board required (Gap first second) output h = h
of_ring board required finding output h = (h.layer_is, h.at.stands)

of_gap : (board : BoardView) (gap : ℕ) (finding : Finding) (output : GapLack) → IsGapEntry board gap finding output → MatchesGap board.files finding output
of_gap board gap (Gap first second) output h = (h.first_at.stands, h.second_at.stands)
of_gap board gap finding output h = h

pub report_agrees_with_check : AnswerIsUnique → PassingIsSound → ReportAgreesWithCheck
report_agrees_with_check one sound sources required output h =
    let board = h.board in
    let its = report_of_board required board in
    let is = reported_on sources required board its h.read.is refl in
    let count = parted _ _ (board_findings required board) output.rings.items output.gaps.items h.is.rings h.is.gaps in
    let same : (report : ReportView) → IsReport sources required report → report ≡ its = λ report k. ok_same (one sources required (Ok report) (Ok its) k is) in
    record {
      reported = (its, is);
      rings = λ report k. subst (λ (r : ReportView). AllZip (MatchesRing r.files) (filter (λ finding. not (is_gap finding)) r.findings) output.rings.items) (sym (same report k))
          (weaker (IsRingEntry h.board required) (MatchesRing board.files) (of_ring h.board required) (filter (λ finding. not (is_gap finding)) (board_findings required board)) output.rings.items h.is.rings);
      gaps = λ report k. subst (λ (r : ReportView). AllZip (MatchesGap r.files) (filter is_gap r.findings) output.gaps.items) (sym (same report k))
          (weaker (IsGapEntry board required.gap) (MatchesGap board.files) (of_gap board required.gap) (filter is_gap (board_findings required board)) output.gaps.items h.is.gaps);
      count = λ report k. ap (λ (r : ReportView). length r.findings) (same report k) ∙ count;
      sound = λ no_rings no_gaps. sound sources required its is (nil_from_length (board_findings required board) (count ∙ ap₂ (λ (n k : ℕ). n + k) (ap length no_rings) (ap length no_gaps)));
    }
