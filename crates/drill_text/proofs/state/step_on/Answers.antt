use Rattle.drill_text.proofs.Common.{◌≡◌, ◌∙◌, ◌<◌, unsigned_abs, IfOk, sym, subst, to_z-of_z, TooFar}
use Rattle.std.specs.Prelude.{◌+ℤ◌, IfErr}
use Rattle.std.proofs.Common.{rules, of_z, to_z, w64}
use Rattle.drill_text.proofs.RepeatLemmas.{stepped, sum_fits}
use Rattle.drill_text.specs.Repeats.{steps_on}
use Rattle.grid_units.specs.Numbers.{max_units}
use Rattle.drill_text.proofs.state.step_on.Goals as goal

pub returns-clause-ok : goal.returns-clause-ok
returns-clause-ok c =
    let a = c.units_or_zero.result in
    let b = c.units_or_zero-2.result in
    let a_back : to_z w64 (of_z w64 a) ≡ a = to_z-of_z w64 a (search rules) in
    let b_back : to_z w64 (of_z w64 b) ≡ b = to_z-of_z w64 b (search rules) in
    let fits = sum_fits a b c.units_or_zero.ensures.in_range c.units_or_zero-2.ensures.in_range in
    let is = (λ i. to_z w64 (of_z w64 (a_back i +ℤ b_back i))) ∙ (to_z-of_z w64 (a +ℤ b) fits ∙ (λ i. c.units_or_zero.ensures.value i +ℤ c.units_or_zero-2.ensures.value i)) in
    subst (λ r. IfOk r (λ d. d ≡ steps_on 1 c.args.at c.args.step)) (sym c.ok_or.ensures.value) (stepped c.from_units.result c.args.at c.args.step _ is c.from_units.ensures.valid c.from_units.ensures.value).0

pub returns-clause-err : goal.returns-clause-err
returns-clause-err c =
    let a = c.units_or_zero.result in
    let b = c.units_or_zero-2.result in
    let a_back : to_z w64 (of_z w64 a) ≡ a = to_z-of_z w64 a (search rules) in
    let b_back : to_z w64 (of_z w64 b) ≡ b = to_z-of_z w64 b (search rules) in
    let fits = sum_fits a b c.units_or_zero.ensures.in_range c.units_or_zero-2.ensures.in_range in
    let is = (λ i. to_z w64 (of_z w64 (a_back i +ℤ b_back i))) ∙ (to_z-of_z w64 (a +ℤ b) fits ∙ (λ i. c.units_or_zero.ensures.value i +ℤ c.units_or_zero-2.ensures.value i)) in
    subst (λ r. IfErr r (λ broken. (broken ≡ TooFar) × (max_units < unsigned_abs (steps_on 1 c.args.at c.args.step)))) (sym c.ok_or.ensures.value) (stepped c.from_units.result c.args.at c.args.step _ is c.from_units.ensures.valid c.from_units.ensures.value).1
