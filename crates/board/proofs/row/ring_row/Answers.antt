use Rattle.board.proofs.Common.{◌≡◌, ℕ, ◌<◌, None, Option, length, get_or, refl, sym, ap, ◌∙◌, arith, get_or_default, All-get_or, default_hole, Drilled, ring_from_best, ring_at, has_no_ring, BestPad}
use Rattle.board.proofs.RowsLemmas.{bare_more, bare_still, next_least}
use Rattle.board.proofs.row.ring_row.Goals as goal
use Rattle.board.proofs.row.ring_row.Goals.{then-has_none, else-has_none}

pub loop-hole-preserved : goal.loop-hole-preserved
loop-hole-preserved c =
    let p : ℕ = get_or c.args.chosen.now c.loop-hole.hole-index 0 in
    let listed : get_or c.args.chosen.now c.loop-hole.hole-index 0 < length c.args.holes.now = All-get_or (λ k. k < length c.args.holes.now) c.args.chosen.now c.loop-hole.hole-index 0 c.loop-hole-test.true c.requires.chosen in
    let inside : get_or c.args.chosen.now c.loop-hole.hole-index 0 < length c.args.bests.now = omega (arith, listed, c.requires.bests) in
    let best_is : c.index-bests-hole.result ≡ get_or c.args.bests.now p None = c.index-bests-hole.is ∙ get_or_default c.args.bests.now p c.index-bests-hole.result None inside in
    let ring_is : c.ring_of-ring.result ≡ ring_at c.args.profile c.args.bests.now c.args.holes.now p =
    c.ring_of-ring.ensures ∙ (ap (λ (b : Option BestPad). ring_from_best c.args.profile b (get_or c.args.holes.now p c.index-holes-hole.result).hole) best_is
    ∙ ap (λ (d : Drilled). ring_from_best c.args.profile (get_or c.args.bests.now p None) d.hole) (get_or_default c.args.holes.now p c.index-holes-hole.result default_hole listed)) in
    record {
      bare = elim c.if-has_none.branch [
        | then-has_none w ↦ w.bare-is ∙ bare_more c.args.profile c.args.bests.now c.args.holes.now c.args.chosen.now c.loop-hole.hole-index c.loop-hole.bare c.loop-hole-test.true (sym (ap has_no_ring ring_is) ∙ (sym c.has_none.ensures ∙ w.if-has_none.true)) c.loop-hole.invariant.bare
        | else-has_none w ↦ w.bare-is ∙ bare_still c.args.profile c.args.bests.now c.args.holes.now c.args.chosen.now c.loop-hole.hole-index c.loop-hole.bare c.loop-hole-test.true (sym (ap has_no_ring ring_is) ∙ (sym c.has_none.ensures ∙ w.if-has_none.false)) c.loop-hole.invariant.bare
      ];
      few = elim c.if-has_none.branch [
        | then-has_none w ↦ omega (arith, w.bare-is, c.loop-hole.invariant.few)
        | else-has_none w ↦ omega (arith, w.bare-is, c.loop-hole.invariant.few)
      ];
      least = next_least c.args.profile c.args.bests.now c.args.holes.now c.args.chosen.now c.loop-hole.hole-index p c.ring_of-ring.result refl (sym ring_is) c.loop-hole.least c.lesser-least.result c.loop-hole.invariant.least c.lesser-least.ensures;
    }
