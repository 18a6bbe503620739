use Rattle.drill_text.proofs.Common.{ℤ, Option, IfSome, subst, ◌∙◌, ◌∷◌}
use Rattle.grid_units.specs.ReadPrefix.{IsPrefixDecimal}
use Rattle.drill_text.proofs.FastPathLemmas.{pointed_run}
use Rattle.drill_text.proofs.fast_path.leading_decimal.Goals as goal

pub returns-in-Some-default : goal.returns-in-Some-default
returns-in-Some-default c settings =
    let tail = c.in-Some.tail.now in
    let rest = c.read_prefix.result.1.now in
    (tail, c.in-Some.ensures.cases.0 ∙ (λ i. c.if-first-letter.true i ∷ tail), pointed_run settings c.in-Some-default.value rest tail (subst (λ (o : Option ℤ). IfSome o (λ v. IsPrefixDecimal v rest tail)) c.in-Some-default.is-0 c.read_prefix.ensures))
