use Rattle.gerber_commands.proofs.Common.{◌≡◌, ◌+◌, ◌*◌, ◌≤◌, ◌<◌, ◌^◌, length, get_or, true, refl, sym, ap, ◌∙◌, arith, rules, pow-le-pow_right, All-more, is_digit}
use Rattle.gerber_commands.proofs.NumberLemmas.{value_more, bound_more}
use Rattle.grid_units.proofs.DigitLemmas.{digit_small}
use Rattle.gerber_commands.proofs.number.more_digits.Goals as goal

pub returns-then-not-is_digit-clause-bound : goal.returns-then-not-is_digit-clause-bound
returns-then-not-is_digit-clause-bound c =
    let p : 10 ^ c.loop-i.i ≤ 10 ^ 12 = pow-le-pow_right {n = 10} (omega arith) {i = c.loop-i.i} {j = 12} c.loop-i.invariant.short in
    omega (arith, p, c.loop-i.invariant.bound)

pub overflow_mul-n : goal.overflow_mul-n
overflow_mul-n c =
    let p : 10 ^ c.loop-i.i ≤ 10 ^ 12 = pow-le-pow_right {n = 10} (omega arith) {i = c.loop-i.i} {j = 12} c.loop-i.invariant.short in
    omega (arith, p, c.loop-i.invariant.bound)

pub overflow_add-n : goal.overflow_add-n
overflow_add-n c =
    let p : 10 ^ c.loop-i.i ≤ 10 ^ 12 = pow-le-pow_right {n = 10} (omega arith) {i = c.loop-i.i} {j = 12} c.loop-i.invariant.short in
    let d = digit_small (get_or c.args.bytes.now c.loop-i.i 0) (sym c.is_digit.ensures ∙ c.if-not-is_digit.false) in
    omega (arith, p, c.loop-i.invariant.bound, c.from.ensures, d)

pub loop-i-preserved : goal.loop-i-preserved
loop-i-preserved c =
    let bytes = c.args.bytes.now in
    let i = c.loop-i.i in
    let test = c.loop-i-test.true in
    let inside : i < length bytes = search rules in
    let digit : is_digit (get_or bytes i 0) ≡ true = sym c.is_digit.ensures ∙ c.if-not-is_digit.false in
    let d : c.from.result ≤ 9 = omega (arith, c.from.ensures, digit_small (get_or bytes i 0) digit) in
    record {
      short = search rules;
      digits = All-more (λ b. is_digit b ≡ true) bytes i 0 inside c.loop-i.invariant.digits digit;
      value = ap (λ k. c.loop-i.n * 10 + k) c.from.ensures ∙ (value_more bytes i c.loop-i.n (get_or bytes i 0) 0 inside refl c.loop-i.invariant.value);
      bound = bound_more c.loop-i.n i c.from.result c.loop-i.invariant.bound d;
    }

pub returns-clause-bound : goal.returns-clause-bound
returns-clause-bound c =
    let p : 10 ^ c.loop-i.i ≤ 10 ^ 12 = pow-le-pow_right {n = 10} (omega arith) {i = c.loop-i.i} {j = 12} c.loop-i.invariant.short in
    omega (arith, p, c.loop-i.invariant.bound)
