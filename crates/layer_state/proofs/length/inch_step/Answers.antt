use Rattle.layer_state.proofs.Common.{sym, arith, lit<}
use Rattle.layer_state.proofs.DigitLemmas.{no_finer}
use Rattle.layer_state.proofs.length.inch_step.Goals as goal

pub returns-in_default-clause-value : goal.returns-in_default-clause-value
returns-in_default-clause-value c = sym (no_finer 25400000000 11 c.args.decimals (lit< tt) (omega (arith, c.in_default)))
