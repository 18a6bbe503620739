use Rattle.report.proofs.Common.{refl, arith}
use Rattle.report.proofs.UnitMistakeLemmas.{a_line, no_line}
use Rattle.report.proofs.mistakes.line_of.Goals as goal

pub returns-then-fewest-suspect : goal.returns-then-fewest-suspect
returns-then-fewest-suspect c = λ pads holes file at is are.
    let few = c.if-fewest-suspect.true in a_line pads holes file c.args.drill at c.args.suspect is c.args.fewest are _ refl (omega (arith, few))

pub returns : goal.returns
returns c = λ pads holes file at is are.
    let many = c.if-fewest-suspect.false in no_line pads holes file c.args.drill at c.args.suspect is c.args.fewest are (omega (arith, many))
