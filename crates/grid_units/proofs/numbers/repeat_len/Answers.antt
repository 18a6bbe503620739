use Rattle.std.proofs.Common.{◌≡◌, true, not, get_or, eqb, sym, arith}
use Rattle.std.proofs.lemmas.Bool.{ne_eqb}
use Rattle.std.proofs.lemmas.List.Sums.{prefix_len_is}
use Rattle.grid_units.proofs.numbers.repeat_len.Goals as goal

pub returns-then-byte-sought-clause-len : goal.returns-then-byte-sought-clause-len
returns-then-byte-sought-clause-len c = sym (prefix_len_is (λ b. eqb b c.args.sought) c.args.text.now c.loop-i.i 0 (omega arith) c.loop-i.invariant (λ _. ne_eqb _ _ c.if-byte-sought.true))

pub returns-clause-len : goal.returns-clause-len
returns-clause-len c = sym (prefix_len_is (λ b. eqb b c.args.sought) c.args.text.now _ 0 (omega arith) (λ k lt. c.loop-i.invariant k (omega arith)) (λ lt. absurd (omega arith)))
