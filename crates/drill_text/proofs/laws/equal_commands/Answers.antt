use Rattle.drill_text.proofs.Common.{ap, tools_of, holes_of}
use Rattle.drill_text.proofs.laws.equal_commands.Goals as goal

pub returns-clause-holes : goal.returns-clause-holes
returns-clause-holes c s t a b p q e = ap holes_of e

pub returns-clause-tools : goal.returns-clause-tools
returns-clause-tools c s t a b p q e = ap tools_of e
