use Rattle.report_page.proofs.Common.{◌≡◌, ◌∙◌, ◌<◌, ◌≤◌, ◌+◌, ◌++◌, ℕ, List, Option, ap, ap₂, get_or, length, map, refl, subst, sym, take, Bor, enumerate_from, has_written_append, has_written_of_eq, LayerHead, RingLack, marks_all, ring_row, ring_rows}
use Rattle.report_page.proofs.RowLemmas.{ring_added}
use Rattle.report_page.proofs.rows.write_ring_rows.Goals as goal

pub loop-i-preserved : goal.loop-i-preserved
loop-i-preserved g c = λ plain.
    let rows = c.args.rows.now in
    let report = rows.report.now in
    let i = c.loop-i.i in
    let names : List (List ℕ) = map (λ name. name.now) rows.names.now in
    let all = c.as_slice-rings.ensures.value in
    let inside : i < length report.rings.items = subst (λ (xs : List RingLack). i < length xs) all c.loop-i-test.true in
    let lack : c.index-rings-i.result ≡ get_or report.rings.items i c.index-rings-i.result = c.index-rings-i.is ∙ ap (λ (xs : List RingLack). get_or xs i c.index-rings-i.result) all in
    let before = c.loop-i.invariant plain in
    let written = ring_rows names report.layers.items report.rules rows.accepted.now.rings.now (take i (enumerate_from 0 report.rings.items)) in
    has_written_of_eq _ _ _ _ _
    (ap (λ (layers : List LayerHead). written ++ ring_row names layers report.rules (i + 1) c.index-rings-i.result c.acceptance_of-why.result) c.deref.ensures.value
    ∙ (ap₂ (λ (found : RingLack) (why : Option (Bor (List ℕ))). written ++ ring_row names report.layers.items report.rules (i + 1) found why) lack c.acceptance_of-why.ensures
    ∙ sym (ring_added names report.layers.items report.rules rows.accepted.now.rings.now report.rings.items i c.index-rings-i.result inside)))
    (has_written_append _ _ _ _ _ _ before (c.in_ok-write_ring.ensures before.plain refl))

pub returns : goal.returns
returns g c = λ plain ok.
    let rows = c.args.rows.now in
    let report = rows.report.now in
    let names : List (List ℕ) = map (λ name. name.now) rows.names.now in
    let ended : length report.rings.items ≤ c.loop-i.i = subst (λ (xs : List RingLack). length xs ≤ c.loop-i.i) c.as_slice-rings.ensures.value c.loop-i-test.false in
    has_written_of_eq _ _ _ _ _ (ap (ring_rows names report.layers.items report.rules rows.accepted.now.rings.now) (marks_all 0 report.rings.items c.loop-i.i ended)) (c.loop-i.invariant plain)
