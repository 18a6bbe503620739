use Rattle.std.proofs.Common.{◌≡◌, true, not, eqb, get_or, sym, ◌∙◌, arith, below_more}
use Rattle.std.proofs.lemmas.List.Sums.{prefix_len_is}
use Rattle.grid_units.proofs.decimal.point_at.Goals as goal

pub loop-i-preserved : goal.loop-i-preserved
loop-i-preserved c = below_more (λ k. not (eqb (get_or c.args.digits.now k 0) 46) ≡ true) c.loop-i.i c.loop-i.invariant (sym c.is_not_point.ensures ∙ c.if-not-is_not_point.false)

pub returns-then-not-is_not_point-clause-len : goal.returns-then-not-is_not_point-clause-len
returns-then-not-is_not_point-clause-len c = sym (prefix_len_is (λ b. not (eqb b 46)) c.args.digits.now c.loop-i.i 0 (omega arith) c.loop-i.invariant (λ _. sym c.is_not_point.ensures ∙ c.if-not-is_not_point.true))

pub returns-clause-len : goal.returns-clause-len
returns-clause-len c = sym (prefix_len_is (λ b. not (eqb b 46)) c.args.digits.now _ 0 (omega arith) (λ k lt. c.loop-i.invariant k (omega arith)) (λ lt. absurd (omega arith)))
