use Rattle.print_text.proofs.Common.{◌∙◌, ◌+◌, ℕ, Bool, ap, ap₂, arith, sym, ◌==◌, ◌&&◌, if◌then◌else◌, count_by, RingLack, is_waived}
use Rattle.print_text.proofs.Showing.{rings_counted_more}
use Rattle.print_text.proofs.RunLemmas.{all_after, none_before}
use Rattle.print_text.proofs.tallies.waived_on.Goals as goal

pub loop-i-init : goal.loop-i-init
loop-i-init c = record {
  within = omega arith;
  counted = sym (ap (count_by (λ (finding : ℕ × RingLack). is_waived c.args.accepted.now finding.0)) (none_before c.args.rings.now c.args.run.layer c.args.run c.requires));
}

pub loop-i-preserved : goal.loop-i-preserved
loop-i-preserved c =
    let i = c.loop-i.i in
    let accepted = c.args.accepted.now in
    let layer = c.args.run.layer in
    let one = c.is_on.ensures ∙ ap₂ (λ (x : RingLack) (waived : Bool). (x.layer == layer) && waived) c.index-rings-i.is c.is_waived.ensures in
    record {
      within = omega (arith, c.loop-i.invariant.within, c.one_if-waived.ensures.within);
      counted = ap₂ (λ (a b : ℕ). a + b) c.loop-i.invariant.counted (c.one_if-waived.ensures.value ∙ ap (λ (b : Bool). if b then 1 else 0) one)
          ∙ sym (rings_counted_more (is_waived accepted) layer c.args.rings.now i c.index-rings-i.result (omega (arith, c.loop-i-test.true, c.requires.inside)));
    }

pub returns : goal.returns
returns c =
    c.loop-i.invariant.counted
    ∙ ap (count_by (λ (finding : ℕ × RingLack). is_waived c.args.accepted.now finding.0)) (all_after c.args.rings.now c.args.run.layer c.args.run c.loop-i.i c.requires c.loop-i-test.false)
