use Rattle.report_page.proofs.Common.{◌≡◌, ◌∙◌, ◌<◌, ◌≤◌, ◌+◌, ◌++◌, ℕ, List, Option, ap, ap₂, get_or, length, map, refl, subst, sym, take, Bor, enumerate_from, has_written_append, has_written_of_eq, RingLack, marks_all, gap_row, gap_rows, GapLack}
use Rattle.report_page.proofs.RowLemmas.{gap_added}
use Rattle.report_page.proofs.rows.write_gap_rows.Goals as goal

pub loop-i-preserved : goal.loop-i-preserved
loop-i-preserved g c = λ plain.
    let rows = c.args.rows.now in
    let report = rows.report.now in
    let i = c.loop-i.i in
    let names : List (List ℕ) = map (λ name. name.now) rows.names.now in
    let rings = length report.rings.items in
    let all = c.as_slice-gaps.ensures.value in
    let inside : i < length report.gaps.items = subst (λ (xs : List GapLack). i < length xs) all c.loop-i-test.true in
    let lack : c.index-gaps-i.result ≡ get_or report.gaps.items i c.index-gaps-i.result = c.index-gaps-i.is ∙ ap (λ (xs : List GapLack). get_or xs i c.index-gaps-i.result) all in
    let before = c.loop-i.invariant plain in
    let written = gap_rows names report.rules rows.accepted.now.gaps.now rings (take i (enumerate_from rings report.gaps.items)) in
    has_written_of_eq _ _ _ _ _
    (ap (λ (ring_list : List RingLack). written ++ gap_row names report.rules (length ring_list + i + 1) c.index-gaps-i.result c.acceptance_of-why.result) c.as_slice-rings.ensures.value
    ∙ (ap₂ (λ (found : GapLack) (why : Option (Bor (List ℕ))). written ++ gap_row names report.rules (rings + i + 1) found why) lack c.acceptance_of-why.ensures
    ∙ sym (gap_added names report.rules rows.accepted.now.gaps.now rings report.gaps.items i c.index-gaps-i.result inside)))
    (has_written_append _ _ _ _ _ _ before (c.in_ok-write_gap.ensures before.plain refl))

pub returns : goal.returns
returns g c = λ plain ok.
    let rows = c.args.rows.now in
    let report = rows.report.now in
    let names : List (List ℕ) = map (λ name. name.now) rows.names.now in
    let rings = length report.rings.items in
    let ended : length report.gaps.items ≤ c.loop-i.i = subst (λ (xs : List GapLack). length xs ≤ c.loop-i.i) c.as_slice-gaps.ensures.value c.loop-i-test.false in
    has_written_of_eq _ _ _ _ _ (ap (gap_rows names report.rules rows.accepted.now.gaps.now rings) (marks_all rings report.gaps.items c.loop-i.i ended)) (c.loop-i.invariant plain)
