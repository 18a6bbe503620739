use Rattle.print_text.proofs.Common.{◌∙◌, None, ap, ap₂, sym, if◌then◌else◌, RingLack, smaller, is_alike, ring_of}
use Rattle.print_text.proofs.SmallestLemmas.{smallest_filtered}
use Rattle.print_text.proofs.summary.smallest_alike.Goals as goal

pub loop-i-preserved : goal.loop-i-preserved
loop-i-preserved c =
    c.smaller-least.ensures
    ∙ (ap₂ smaller c.loop-i.invariant (c.ring_if_alike.ensures ∙ ap (λ (x : RingLack). if is_alike c.args.one.now x then ring_of x.cause else None) c.index-rings-i.is)
    ∙ sym (smallest_filtered (is_alike c.args.one.now) (λ (x : RingLack). ring_of x.cause) c.args.rings.now c.loop-i.i c.index-rings-i.result c.loop-i-test.true))
