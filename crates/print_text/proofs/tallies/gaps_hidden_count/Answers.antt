use Rattle.print_text.proofs.Common.{◌∙◌, ◌+◌, ℕ, Bool, ap, ap₂, arith, sym, not, if◌then◌else◌}
use Rattle.print_text.proofs.Showing.{gaps_hidden, gaps_left_more, marks_all}
use Rattle.print_text.proofs.tallies.gaps_hidden_count.Goals as goal

pub loop-i-preserved : goal.loop-i-preserved
loop-i-preserved c = record {
  within = omega (arith, c.loop-i.invariant.within, c.one_if-left.ensures.within);
  counted = ap₂ (λ (a b : ℕ). a + b) c.loop-i.invariant.counted (c.one_if-left.ensures.value ∙ ap (λ (b : Bool). if not b then 1 else 0) c.is_shown.ensures)
      ∙ sym (gaps_left_more c.args.limit c.args.rings c.args.gaps.now c.loop-i.i c.loop-i-test.true);
}

pub returns : goal.returns
returns c = c.loop-i.invariant.counted ∙ ap (gaps_hidden c.args.limit) (marks_all c.args.rings c.args.gaps.now c.loop-i.i c.loop-i-test.false)
