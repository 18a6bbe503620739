use Rattle.package_check.proofs.Common.{◌≡◌, ◌+◌, ◌-◌, ◌∷◌, [], ℕ, false, List, inl, inr, length, refl, ap, sym, ◌∙◌, arith, length-append, IsGapEntry, conflict_in, is_gap, board_findings, wide_pad_covers, FileSum, Finding, enumerate_from, filter, filter_map, list_any, RoleConflict, AllZip-long, gap_findings, ring_findings, is_called_plated, wide_rings}
use Rattle.std.proofs.Common.{true}
use Rattle.std.specs.Prelude.{not}
use Rattle.board.specs.declared.FileSum.TheVariants as sum
use Rattle.package_check.proofs.WiderFindings.{gaps_among, gaps_are, rings_are}
use Rattle.package_check.proofs.fewer.fewer_in_wide.Goals as goal

-- what two numbers have more of is the same where each has as many more
less_both : (a b n : ℕ) → a - b ≡ (a + n) - (b + n)
less_both a b n = omega arith

-- a drill file whose role says that no hole is plated contradicts it just where its comments say that holes are
called_from : (k : ℕ) (files : List FileSum) → list_any (λ conflict. not conflict.plated) (filter_map conflict_in (enumerate_from k files)) ≡ list_any is_called_plated files
called_from k [] = refl
called_from k (sum.Layer pads other contours ∷ files) = called_from (k + 1) files
called_from k (sum.Drill true span true round slots ∷ files) = called_from (k + 1) files
called_from k (sum.Drill false span true round slots ∷ files) = refl
called_from k (sum.Drill true span false round slots ∷ files) = called_from (k + 1) files
called_from k (sum.Drill false span false round slots ∷ files) = called_from (k + 1) files
called_from k (sum.Mixed span round slots unplated ∷ files) = called_from (k + 1) files

pub returns-then-some_are_called_plated : goal.returns-then-some_are_called_plated
returns-then-some_are_called_plated c all flashed is =
    let answers = c.wide_answers_by_board.ensures all c.args.report.now.rules c.args.board.now flashed in
    let called = sym (called_from 0 c.args.board.now.files) ∙ sym (ap (list_any (λ (conflict : RoleConflict). not conflict.plated)) (c.deref.ensures.value ∙ is.conflicts)) in
    inr (refl, answers.refuses (called ∙ (sym c.some_are_called_plated.ensures ∙ c.if-some_are_called_plated.true)))

pub returns : goal.returns
returns c all flashed is =
    let board = c.args.board.now in
    let report = c.args.report.now in
    let rules = report.rules in
    let answers = c.wide_answers_by_board.ensures all rules board flashed in
    let called = sym (called_from 0 board.files) ∙ sym (ap (list_any (λ (conflict : RoleConflict). not conflict.plated)) (c.deref.ensures.value ∙ is.conflicts)) in
    let (wide, read, found) = answers.reads (called ∙ (sym c.some_are_called_plated.ensures ∙ c.if-some_are_called_plated.false)) in
    let gaps = gap_findings rules.gap board.holes in
    let all_gaps : filter is_gap (board_findings rules board) ≡ gaps = gaps_among (ring_findings wide_pad_covers rules.profile rules.ring board.layers board.holes) gaps (rings_are wide_pad_covers rules.profile rules.ring board.layers board.holes) (gaps_are rules.gap board.holes) in
    let as_many = AllZip-long (IsGapEntry board rules.gap) (filter is_gap (board_findings rules board)) report.gaps.items is.gaps in
    let gap_count : length report.gaps.items ≡ length gaps = omega (arith, as_many, ap length all_gaps) in
    let rings = c.in_ok-rings.ensures in
    let wide_count : length wide.findings ≡ length c.in_ok-rings.rings.items + length gaps = ap length found ∙ (length-append (wide_rings rules board) gaps ∙ ap (λ (fs : List Finding). length fs + length gaps) (sym rings)) in
    let first : c.len.result ≡ length report.rings.items = omega (arith, c.len.ensures, report.rings.ok.0) in
    let second : c.len-2.result ≡ length c.in_ok-rings.rings.items = omega (arith, c.len-2.ensures, c.in_ok-rings.rings.ok.0) in
    let fewer : c.saturating_sub.result ≡ (length report.rings.items + length report.gaps.items) - length wide.findings =
    c.saturating_sub.ensures ∙ ((λ i. first i - second i) ∙ (less_both (length report.rings.items) (length c.in_ok-rings.rings.items) (length gaps)
    ∙ ((λ i. (length report.rings.items + sym gap_count i) - sym wide_count i)))) in
    inl (wide, read, fewer)
