use Rattle.std.proofs.Common.{◌≡◌, true, get_or, sym, ◌∙◌, arith, below_more}
use Rattle.std.proofs.lemmas.List.Sums.{prefix_len_is}
use Rattle.grid_units.specs.Numbers.{is_number_char}
use Rattle.grid_units.proofs.numbers.number_run_len.Goals as goal

pub loop-i-preserved : goal.loop-i-preserved
loop-i-preserved c = below_more (λ k. is_number_char (get_or c.args.bytes.now k 0) ≡ true) c.loop-i.i c.loop-i.invariant (sym c.is_number_char.ensures ∙ c.if-not-is_number_char.false)

pub returns-then-not-is_number_char-clause-len : goal.returns-then-not-is_number_char-clause-len
returns-then-not-is_number_char-clause-len c = sym (prefix_len_is is_number_char c.args.bytes.now c.loop-i.i 0 (omega arith) c.loop-i.invariant (λ _. sym c.is_number_char.ensures ∙ c.if-not-is_number_char.true))

pub returns-clause-len : goal.returns-clause-len
returns-clause-len c = sym (prefix_len_is is_number_char c.args.bytes.now _ 0 (omega arith) (λ k lt. c.loop-i.invariant k (omega arith)) (λ lt. absurd (omega arith)))
