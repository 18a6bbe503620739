use Rattle.manifest.proofs.Common.{rules, tests, arith, is_comma}
use Rattle.manifest.proofs.FirstByteLemmas.{before_at, before_none, after_at, after_none}
use Rattle.manifest.proofs.contents.split_at_comma.Goals as goal

pub returns-then-byte-eq44-clause-before : goal.returns-then-byte-eq44-clause-before
returns-then-byte-eq44-clause-before c = before_at is_comma c.args.text.now c.loop-i.i (omega arith) c.loop-i.invariant (search (rules, tests))

pub returns-then-byte-eq44-clause-after : goal.returns-then-byte-eq44-clause-after
returns-then-byte-eq44-clause-after c = after_at is_comma c.args.text.now c.loop-i.i (omega arith) c.loop-i.invariant (search (rules, tests))

pub returns-clause-before : goal.returns-clause-before
returns-clause-before c = before_none is_comma c.args.text.now c.loop-i.i (omega arith) (omega arith) c.loop-i.invariant

pub returns-clause-after : goal.returns-clause-after
returns-clause-after c = after_none is_comma c.args.text.now c.loop-i.i (omega arith) (omega arith) c.loop-i.invariant
