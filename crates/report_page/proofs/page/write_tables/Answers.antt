use Rattle.report_page.proofs.Common.{◌++◌, ℕ, List, ap, map, refl, has_written_append, has_written_of_eq, count_words, table_rows, tool_rows, BEFORE_SCRIPT, CAPTION, COLUMNS, END, TOOL_COLUMNS}
use Rattle.report_page.specs.declared.script.TheConstants.{SCRIPT}
use Rattle.report_page.proofs.page.write_tables.Goals as goal

-- the first line writes the rows of the findings, and the second those of the tool table and the script
pub returns : goal.returns
returns g c = λ plain ok.
    let it = c.args.rows.now in
    let names : List (List ℕ) = map (λ name. name.now) it.names.now in
    let rows = table_rows names it.report.now it.accepted.now.rings.now it.accepted.now.gaps.now in
    let tools = tool_rows names it.report.now.rules c.args.tools.now in
    let first = c.in_ok-write.ensures.writes plain refl in
    has_written_of_eq _ _ _ _ _
    (ap
    (λ (count : ℕ).
    (CAPTION.now ++ (count_words count ++ (COLUMNS.now ++ rows)))
    ++ (TOOL_COLUMNS.now ++ (tools ++ (BEFORE_SCRIPT.now ++ (SCRIPT.now ++ END.now)))))
    c.finding_count.ensures)
    (has_written_append _ _ _ _ _ _ first (c.write-2.ensures.writes first.plain ok))
