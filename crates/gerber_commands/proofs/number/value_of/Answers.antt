use Rattle.gerber_commands.proofs.Common.{◌≤◌, ◌^◌, arith, pow-le-pow_right}
use Rattle.gerber_commands.proofs.number.value_of.Goals as goal

pub overflow_mul-n : goal.overflow_mul-n
overflow_mul-n c =
    let p : 10 ^ c.loop-byte.byte-index ≤ 10 ^ 12 = pow-le-pow_right {n = 10} (omega arith) {i = c.loop-byte.byte-index} {j = 12} (omega arith) in
    omega (arith, p, c.loop-byte.invariant.bound)

pub overflow_add-n : goal.overflow_add-n
overflow_add-n c =
    let p : 10 ^ c.loop-byte.byte-index ≤ 10 ^ 12 = pow-le-pow_right {n = 10} (omega arith) {i = c.loop-byte.byte-index} {j = 12} (omega arith) in
    omega (arith, p, c.loop-byte.invariant.bound)

pub returns-clause-bound : goal.returns-clause-bound
returns-clause-bound c =
    let p : 10 ^ c.loop-byte.byte-index ≤ 10 ^ 12 = pow-le-pow_right {n = 10} (omega arith) {i = c.loop-byte.byte-index} {j = 12} (omega arith) in
    omega (arith, p, c.loop-byte.invariant.bound)
