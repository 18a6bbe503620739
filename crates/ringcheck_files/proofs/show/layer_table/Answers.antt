use Rattle.ringcheck_files.proofs.Common.{◌≡◌, ◌∙◌, ◌++◌, IfOk, ap, arith, subst, rows_from, feature_fields}
use Rattle.ringcheck_files.proofs.Numbered.{row_more, rows_end}
use Rattle.ringcheck_files.proofs.show.layer_table.Goals as goal

pub loop-feature-preserved : goal.loop-feature-preserved
loop-feature-preserved c = record {
  number = omega (arith, c.loop-feature.invariant.number);
  rows = row_more feature_fields c.args.features.now c.loop-feature.feature-index c.loop-feature.number c.feature-item.result _ _ _ c.loop-feature-test.true c.feature-item.is c.loop-feature.invariant.rows c.in_ok-table-2.ensures;
}

pub returns : goal.returns
returns c =
    let rows = rows_end feature_fields c.args.features.now c.loop-feature.feature-index c.loop-feature.number _ _ c.loop-feature-test.false c.loop-feature.invariant.rows in
    let all = rows ∙ ap (λ table. table ++ rows_from feature_fields 1 c.args.features.now) c.in_ok-table.ensures in
    subst (λ table. IfOk c.into_bytes.result (λ text. text.items ≡ table)) all c.into_bytes.ensures
