-- The whole part gives at most 999999 * 10^8, the decimals less than 10^8.
use Rattle.std.proofs.Common.{◌≡◌, ◌+◌, ◌-◌, ◌*◌, ◌^◌, ◌<◌, ◌≤◌, true, length, take, min, ap, subst, ◌∙◌, arith}
use Rattle.std.specs.Prelude.{All}
use Rattle.std.proofs.lemmas.List.Elements.{All-take}
use Rattle.grid_units.specs.Numbers.{is_digit, value}
use Rattle.grid_units.proofs.DigitLemmas.{value_lt_eight, filled_lt}
use Rattle.grid_units.proofs.decimal.units_of.Goals as goal

digits : (c : goal.After-power_of_ten) → All (λ b. is_digit b ≡ true) (take 8 c.args.decimals.now)
digits c = All-take (λ b. is_digit b ≡ true) 8 c.args.decimals.now c.requires.digits

short : (c : goal.After-power_of_ten) → length (take 8 c.args.decimals.now) ≤ 8
short c = subst (λ xs. length xs ≤ 8) c.first_eight-first.ensures.value c.first_eight-first.ensures.short

part : (c : goal.After-power_of_ten) → c.capped_value.result * c.power_of_ten.result ≡ value (take 8 c.args.decimals.now) * 10 ^ (8 - length (take 8 c.args.decimals.now))
part c =
    let v : c.capped_value.result ≡ value (take 8 c.args.decimals.now) = c.capped_value.ensures ∙ ap (λ xs. min (value xs) 100000000) c.first_eight-first.ensures.value ∙ omega (arith, value_lt_eight _ (digits c) (short c)) in
    let p : c.power_of_ten.result ≡ 10 ^ (8 - length (take 8 c.args.decimals.now)) = c.power_of_ten.ensures.value ∙ ap (λ xs. 10 ^ (8 - length xs)) c.first_eight-first.ensures.value in
    λ i. v i * p i

small : (c : goal.After-power_of_ten) → c.capped_value.result * c.power_of_ten.result < 10 ^ 8
small c = omega (arith, part c, filled_lt _ (digits c) (short c))

pub overflow_add-result : goal.overflow_add-result
overflow_add-result c = omega (arith, small c)

pub returns-clause-value : goal.returns-clause-value
returns-clause-value c = ap (λ n. c.args.whole * 100000000 + n) (part c)

pub returns-clause-bound : goal.returns-clause-bound
returns-clause-bound c = omega (arith, small c)
