use Rattle.manifest.proofs.Common.{◌≡◌, ◌∙◌, ◌++◌, IfOk, ap, subst, flat_map, reason_row}
use Rattle.manifest.proofs.RowLemmas.{row_more, rows_all}
use Rattle.manifest.proofs.reasons.write_reasons.Goals as goal

pub loop-file-preserved : goal.loop-file-preserved
loop-file-preserved c = row_more reason_row c.args.proposals.now c.loop-file.file-index c.file-item.result _ _ _ c.loop-file-test.true c.file-item.is c.loop-file.invariant c.in_ok-table-2.ensures

pub returns : goal.returns
returns c =
    let text = rows_all reason_row c.args.proposals.now c.loop-file.file-index _ _ c.loop-file-test.false c.loop-file.invariant ∙ ap (λ start. start ++ flat_map reason_row c.args.proposals.now) c.in_ok-table.ensures in
    record { exact = subst (λ table. IfOk c.into_bytes.result (λ text. text.items ≡ table)) text c.into_bytes.ensures }
