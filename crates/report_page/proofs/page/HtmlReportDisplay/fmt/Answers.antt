use Rattle.report_page.proofs.Common.{◌∙◌, ◌++◌, ℕ, List, ap₂, map, refl, has_written_append, has_written_of_eq, LayerHead, svg_text, head_text, picture_text, tables_text}
use Rattle.report.specs.declared.RingLine.{RingLine}
use Rattle.report_page.proofs.page.HtmlReportDisplay.fmt.Goals as goal

pub returns-clause-writes : goal.returns-clause-writes
returns-clause-writes g c = λ plain ok.
    let page = c.args.self.now in
    let report = page.report.now in
    let names : List (List ℕ) = map (λ name. name.now) page.names.now in
    let tables : List RingLine → List ℕ = tables_text names report page.accepted.now.rings.now page.accepted.now.gaps.now in
    let rest = picture_text names report.layers.items (svg_text page.drawing) ++ tables page.tools.items in
    let head = c.in_ok-write_head.ensures plain refl in
    let picture = c.in_ok-write_picture.ensures head.plain refl in
    has_written_of_eq _ _ _ _ _
    (ap₂
    (λ (layers : List LayerHead) (tools : List RingLine).
    head_text names page.about.now page.files.now report.conflicts.items report.rules c.finding_count.result c.count_waived.result
    ++ (picture_text names layers (svg_text page.drawing) ++ tables tools))
    c.deref.ensures.value c.deref-2.ensures.value
    ∙ ap₂ (λ (findings waived : ℕ). head_text names page.about.now page.files.now report.conflicts.items report.rules findings waived ++ rest) c.finding_count.ensures c.count_waived.ensures.value)
    (has_written_append _ _ _ _ _ _ head (has_written_append _ _ _ _ _ _ picture (c.write_tables.ensures picture.plain ok)))
