use Rattle.package_check.proofs.Common.{List, Ok, refl, subst, sym, ◌∙◌, err_from_is_err_and, mixed_kind, Drilled, ReadsMixed, holes_with_platings}
use Rattle.drill_text.specs.declared.kept.Keep.TheVariants as keep
use Rattle.package_check.proofs.OpenFiles.{mixed_fault, mixed_holes_fault, mixed_read}
use Rattle.package_check.proofs.contents.read_mixed.Goals as goal

pub returns-in_err-drill : goal.returns-in_err-drill
returns-in_err-drill c = λ profile text stands.
    let p = err_from_is_err_and c.from_residual.result c.from_residual.ensures.1 in
    let e = c.in_err-drill.field-0.0 in
    rw (p.1, p.2) (mixed_holes_fault profile c.args.said text e (mixed_fault profile c.args.said text e (c.in_err-drill.ensures.exact_by (mixed_kind profile c.args.said.format) keep.Holes text stands)))

pub returns-in_err-holes : goal.returns-in_err-holes
returns-in_err-holes c = λ profile text stands.
    let p = err_from_is_err_and c.from_residual-in_err-holes.result c.from_residual-in_err-holes.ensures.1 in
    rw (p.1, p.2) tt

pub returns : goal.returns
returns c = λ profile text stands.
    let said = c.args.said in
    let read = mixed_read profile said text c.in_ok-drill.drill (c.in_ok-drill.ensures.exact_by (mixed_kind profile c.args.said.format) keep.Holes text stands) in (
      subst (λ (hs : List Drilled). ReadsMixed profile said text (Ok hs)) (sym (c.in_ok-holes.ensures ∙ (λ i. holes_with_platings said.span ((c.deref.ensures.value ∙ c.into_plated_holes-holes.ensures.holes) i) ((c.deref-2.ensures.value ∙ c.into_plated_holes-holes.ensures.plated) i)))) read,
      refl,
    )
