use Rattle.print_text.proofs.Common.{◌∙◌, ap₂, sym, RingLack, smaller, ring_of}
use Rattle.print_text.proofs.SmallestLemmas.{smallest_more}
use Rattle.print_text.proofs.tallies.smallest_ring.Goals as goal

pub loop-i-preserved : goal.loop-i-preserved
loop-i-preserved c =
    c.smaller-least.ensures ∙ (ap₂ smaller c.loop-i.invariant c.ring_of.ensures ∙ sym (smallest_more (λ (x : RingLack). ring_of x.cause) c.args.rings.now c.loop-i.i c.index-rings-i.result c.loop-i-test.true))
