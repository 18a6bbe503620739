use Rattle.std.proofs.Common.{cond, sym, ap, ◌∙◌}
use Rattle.std.specs.Prelude.{nat_le}
use Rattle.std.proofs.lemmas.Bool.{le-leb}
use Rattle.grid_units.proofs.fault.earlier_reason.Goals as goal

pub returns-then-number : goal.returns-then-number
returns-then-number c = ap (λ t. cond t c.args.a c.args.b) (sym (le-leb _ _ c.if-number.true) ∙ (λ i. nat_le (c.number.ensures i) (c.number-2.ensures i)))
