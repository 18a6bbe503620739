use Rattle.print_text.proofs.Common.{◌∙◌, ◌+◌, ℕ, Bool, ap, ap₂, arith, sym, ◌==◌, ◌&&◌, not, if◌then◌else◌, count_by, RingLack, is_shown}
use Rattle.print_text.proofs.Showing.{rings_counted_more}
use Rattle.print_text.proofs.RunLemmas.{all_after, none_before}
use Rattle.print_text.proofs.tallies.rings_hidden.Goals as goal

pub loop-i-init : goal.loop-i-init
loop-i-init c = record {
  within = omega arith;
  counted = sym (ap (count_by (λ (finding : ℕ × RingLack). not (is_shown c.args.limit finding.0))) (none_before c.args.rings.now c.args.run.layer c.args.run c.requires));
}

pub loop-i-preserved : goal.loop-i-preserved
loop-i-preserved c =
    let i = c.loop-i.i in
    let limit = c.args.limit in
    let layer = c.args.run.layer in
    let left = c.is_on.ensures ∙ ap₂ (λ (x : RingLack) (shown : Bool). (x.layer == layer) && not shown) c.index-rings-i.is c.is_shown.ensures in
    record {
      within = omega (arith, c.loop-i.invariant.within, c.one_if-left.ensures.within);
      counted = ap₂ (λ (a b : ℕ). a + b) c.loop-i.invariant.counted (c.one_if-left.ensures.value ∙ ap (λ (b : Bool). if b then 1 else 0) left)
          ∙ sym (rings_counted_more (λ (n : ℕ). not (is_shown limit n)) layer c.args.rings.now i c.index-rings-i.result (omega (arith, c.loop-i-test.true, c.requires.inside)));
    }

pub returns : goal.returns
returns c =
    c.loop-i.invariant.counted
    ∙ ap (count_by (λ (finding : ℕ × RingLack). not (is_shown c.args.limit finding.0))) (all_after c.args.rings.now c.args.run.layer c.args.run c.loop-i.i c.requires c.loop-i-test.false)
