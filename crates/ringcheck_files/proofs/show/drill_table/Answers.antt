use Rattle.ringcheck_files.proofs.Common.{◌≡◌, ◌∙◌, ◌++◌, IfOk, ap, arith, subst, rows_from, hole_fields}
use Rattle.ringcheck_files.proofs.Numbered.{row_more, rows_end}
use Rattle.ringcheck_files.proofs.show.drill_table.Goals as goal

pub loop-hole-preserved : goal.loop-hole-preserved
loop-hole-preserved c = record {
  number = omega (arith, c.loop-hole.invariant.number);
  rows = row_more hole_fields c.args.holes.now c.loop-hole.hole-index c.loop-hole.number c.hole-item.result _ _ _ c.loop-hole-test.true c.hole-item.is c.loop-hole.invariant.rows c.in_ok-table-2.ensures;
}

pub returns : goal.returns
returns c =
    let rows = rows_end hole_fields c.args.holes.now c.loop-hole.hole-index c.loop-hole.number _ _ c.loop-hole-test.false c.loop-hole.invariant.rows in
    let all = rows ∙ ap (λ table. table ++ rows_from hole_fields 1 c.args.holes.now) c.in_ok-table.ensures in
    subst (λ table. IfOk c.into_bytes.result (λ text. text.items ≡ table)) all c.into_bytes.ensures
