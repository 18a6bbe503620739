use Rattle.manifest.proofs.Common.{rules, arith, ◌∙◌, is_digit}
use Rattle.manifest.proofs.FirstByteLemmas.{before_at, before_none, from_at, from_none}
use Rattle.manifest.proofs.file_names.split_at_digit.Goals as goal

pub returns-then-is_digit-clause-letters : goal.returns-then-is_digit-clause-letters
returns-then-is_digit-clause-letters c = c.split_at.ensures.front ∙ before_at is_digit c.args.word.now c.loop-i.i (omega arith) c.loop-i.invariant (search rules)

pub returns-then-is_digit-clause-digits : goal.returns-then-is_digit-clause-digits
returns-then-is_digit-clause-digits c = c.split_at.ensures.back ∙ from_at is_digit c.args.word.now c.loop-i.i (omega arith) c.loop-i.invariant (search rules)

pub returns-clause-letters : goal.returns-clause-letters
returns-clause-letters c = before_none is_digit c.args.word.now c.loop-i.i (omega arith) (omega arith) c.loop-i.invariant

pub returns-clause-digits : goal.returns-clause-digits
returns-clause-digits c = from_none is_digit c.args.word.now c.loop-i.i (omega arith) (omega arith) c.loop-i.invariant
