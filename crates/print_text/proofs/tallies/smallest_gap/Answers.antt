use Rattle.print_text.proofs.Common.{◌≡◌, ◌∙◌, ℤ, Some, ap₂, get_or, rules, sym, w64, GapLack, smaller}
use mir.Val.{to_z, of_z}
use Rattle.std.proofs.lemmas.Int.{to_z-of_z}
use Rattle.print_text.proofs.SmallestLemmas.{smallest_mapped}
use Rattle.print_text.proofs.tallies.smallest_gap.Goals as goal

pub loop-i-preserved : goal.loop-i-preserved
loop-i-preserved c =
    let gap : ℤ = (get_or c.args.gaps.now c.loop-i.i c.index-gaps-i.result).gap in
    let fits : to_z w64 (of_z w64 gap) ≡ gap = search (rules, to_z-of_z) in
    c.smaller-least.ensures ∙ (ap₂ (λ l (z : ℤ). smaller l (Some z)) c.loop-i.invariant fits ∙ sym (smallest_mapped (λ (x : GapLack). x.gap) c.args.gaps.now c.loop-i.i c.index-gaps-i.result c.loop-i-test.true))
