use Rattle.manifest.proofs.Common.{rules, arith, ends_function}
use Rattle.manifest.proofs.FirstByteLemmas.{before_at, before_none}
use Rattle.manifest.proofs.contents.before_function_end.Goals as goal

pub returns-then-ends_function : goal.returns-then-ends_function
returns-then-ends_function c = before_at ends_function c.args.text.now c.loop-i.i (omega arith) c.loop-i.invariant (search rules)

pub returns : goal.returns
returns c = before_none ends_function c.args.text.now c.loop-i.i (omega arith) (omega arith) c.loop-i.invariant
