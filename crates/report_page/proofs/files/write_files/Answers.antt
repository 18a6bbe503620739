use Rattle.report_page.proofs.Common.{◌∙◌, ◌++◌, ℕ, List, ap, ap₂, length, map, refl, sym, take, enumerate_from, has_written_append, has_written_of_eq, FileSum, file_items, file_words, marks_all, escaped_name}
use Rattle.report_page.proofs.RowLemmas.{file_added}
use Rattle.report_page.proofs.files.write_files.Goals as goal

pub loop-i-preserved : goal.loop-i-preserved
loop-i-preserved g c = λ plain.
    let text = c.args.text.now in
    let i = c.loop-i.i in
    let names : List (List ℕ) = map (λ name. name.now) text.names.now in
    let before = c.loop-i.invariant plain in
    let written = file_items text.profile names (take i (enumerate_from 0 text.files.now)) in
    has_written_of_eq _ _ _ _ _
    (ap₂ (λ (name : List ℕ) (file : FileSum). written ++ file_words text.profile (escaped_name name) file) c.name_of-name.ensures c.index-files-i.is
    ∙ sym (file_added text.profile names text.files.now i c.index-files-i.result c.loop-i-test.true))
    (has_written_append _ _ _ _ _ _ before (c.in_ok-write.ensures.writes before.plain refl))

pub returns : goal.returns
returns g c = λ plain ok.
    let text = c.args.text.now in
    let names : List (List ℕ) = map (λ name. name.now) text.names.now in
    has_written_of_eq _ _ _ _ _ (ap (file_items text.profile names) (marks_all 0 text.files.now c.loop-i.i c.loop-i-test.false)) (c.loop-i.invariant plain)
