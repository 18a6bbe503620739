use Rattle.package_check.proofs.Common.{Ok, refl, subst, sym, DrillView, ReadsDrill, drill_kind, err_from_is_err_and}
use Rattle.drill_text.specs.declared.kept.Keep.TheVariants as keep
use Rattle.package_check.proofs.OpenFiles.{drill_fault, drill_read, holes_fault}
use Rattle.package_check.proofs.contents.read_drill.Goals as goal

pub returns-in_err-drill : goal.returns-in_err-drill
returns-in_err-drill c = λ profile text stands.
    let p = err_from_is_err_and c.from_residual.result c.from_residual.ensures.1 in
    let e = c.in_err-drill.field-0.0 in
    rw (p.1, p.2) (holes_fault profile c.args.plated c.args.said text e (drill_fault profile c.args.said.format c.args.plated text e (c.in_err-drill.ensures.exact_by (drill_kind profile c.args.said.format c.args.plated) keep.Holes text stands)))

pub returns : goal.returns
returns c = λ profile text stands. (
  subst
      (λ (v : DrillView). ReadsDrill profile c.args.said.format c.args.plated text (Ok v))
      (λ i. record { holes = sym c.into_holes.ensures i; contradicted = sym c.contradicts-contradicted.ensures i })
      (drill_read profile c.args.said.format c.args.plated text c.in_ok-drill.drill (c.in_ok-drill.ensures.exact_by (drill_kind profile c.args.said.format c.args.plated) keep.Holes text stands)),
  refl,
  refl,
)
