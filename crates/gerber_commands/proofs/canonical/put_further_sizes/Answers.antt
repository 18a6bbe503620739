use Rattle.gerber_commands.proofs.Common.{◌∷◌, refl, canonical}
use Rattle.std.proofs.Common.{ℤ}
use Rattle.gerber_commands.proofs.CanonicalLemmas.{written_step, written_all}
use Rattle.gerber_commands.proofs.canonical.put_further_sizes.Goals as goal

pub loop-size-preserved : goal.loop-size-preserved
loop-size-preserved c =
    written_step (λ (size : ℤ). 88 ∷ canonical size) c.args.rest.now c.loop-size.size-index c.size-item.result c.args.out.now.items c.loop-size.out.items c.put_size.new.out.items (88 ∷ canonical c.size-item.result) c.loop-size-test.true c.size-item.is c.loop-size.invariant c.in_ok-put_size.ensures refl

pub returns : goal.returns
returns c = written_all (λ (size : ℤ). 88 ∷ canonical size) c.args.rest.now c.loop-size.size-index c.args.out.now.items c.loop-size.out.items c.loop-size-test.false c.loop-size.invariant
