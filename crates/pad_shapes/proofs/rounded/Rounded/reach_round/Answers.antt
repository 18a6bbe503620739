-- No reach above the last one that is covered is covered, since the next one is missed.
use Rattle.std.proofs.Common.{inl, inr, arith, sym, ◌∙◌}
use Rattle.std.proofs.lemmas.Bool.{cases_lt, false≢true}
use Rattle.pad_shapes.specs.Inner.RoundedLaws.{covers_less}
use Rattle.pad_shapes.proofs.rounded.Rounded.reach_round.Goals as goal

pub returns : goal.returns
returns c =
    let i = c.loop-missed.invariant in
    record {
      covered = i.covers;
      in_range = omega (arith, i.apart, i.high);
      greatest = λ n t. elim (cases_lt c.loop-missed.covered n) [
        | inl more ↦ absurd (false≢true (sym i.misses ∙ covers_less c.args.self.now c.args.centre n c.loop-missed.missed (omega (arith, more, c.loop-missed-test.false)) t))
        | inr within ↦ within
      ];
    }
