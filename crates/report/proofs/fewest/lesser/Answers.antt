use Rattle.report.proofs.Common.{inl, inr, arith}
use Rattle.report.proofs.FewestLemmas.{next_taken, old_kept}
use Rattle.report.proofs.fewest.lesser.Goals as goal

pub returns-then-next-fewest : goal.returns-then-next-fewest
returns-then-next-fewest c = λ count tried was known. elim known [
  | inl counted ↦ next_taken count tried c.args.fewest c.args.next was counted c.if-next-fewest.true
  | inr none ↦ absurd (let fewer = c.if-next-fewest.true in omega (arith, none, fewer))
]

pub returns-else-next-fewest : goal.returns-else-next-fewest
returns-else-next-fewest c = λ count tried was known. old_kept count tried c.args.fewest c.args.next was (elim known [
  | inl counted ↦ (let no_fewer = c.if-next-fewest.false in omega (arith, counted, no_fewer))
  | inr none ↦ omega (arith, none)
])
