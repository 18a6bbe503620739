use Rattle.layer_state.proofs.Common.{◌∙◌, ◌/◌, nat_le, sym, arith}
use Rattle.layer_state.proofs.DigitLemmas.{more_digits, no_more_digits}
use Rattle.layer_state.proofs.length.has_more_digits.Goals as goal

pub returns-else-digits-le19 : goal.returns-else-digits-le19
returns-else-digits-le19 c = sym (no_more_digits c.args.n c.args.digits (omega (arith, c.ranges.n)) (omega arith))

pub returns-then-digits-le19 : goal.returns-then-digits-le19
returns-then-digits-le19 c =
    (λ i. nat_le (c.power_of_ten-then-digits-le19-2.ensures.value i) (c.args.n / c.power_of_ten-then-digits-le19.ensures.value i)) ∙ more_digits c.args.n c.args.digits (omega arith)
