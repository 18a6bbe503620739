use Rattle.report.proofs.Common.{◌≡◌, ◌&&◌, false, get_or, ap, ◌∙◌, arith, count_by, take_all, is_round, Drilled, is_bare}
use Rattle.report.proofs.BareLemmas.{given_more, given_still}
use Rattle.report.proofs.bare.round_bare_count.Goals as goal
use Rattle.report.proofs.bare.round_bare_count.Goals.{then-is_round_and_bare, else-is_round_and_bare}

pub loop-place-preserved : goal.loop-place-preserved
loop-place-preserved c =
    let holes = c.args.holes.now in
    let bare = c.args.bare.now in
    let k = c.loop-place.place in
    let d : Drilled = c.index-holes-place.result in
    let tells : c.is_round_and_bare.result ≡ (is_round (get_or c.args.holes.now c.loop-place.place c.index-holes-place.result).hole && get_or c.args.bare.now c.loop-place.place false) =
    c.is_round_and_bare.ensures ∙ ap (λ (x : Drilled). is_round x.hole && get_or c.args.bare.now c.loop-place.place false) c.index-holes-place.is in
    record {
      count = λ pads all. elim c.if-is_round_and_bare.branch [
        | then-is_round_and_bare w ↦ w.count-is ∙ given_more pads holes bare all k d false c.loop-place-test.true c.loop-place.count c.is_round_and_bare.result tells w.if-is_round_and_bare.true (c.loop-place.invariant.count pads all)
        | else-is_round_and_bare w ↦ w.count-is ∙ given_still pads holes bare all k d false c.loop-place-test.true c.loop-place.count c.is_round_and_bare.result tells w.if-is_round_and_bare.false (c.loop-place.invariant.count pads all)
      ];
      few = elim c.if-is_round_and_bare.branch [
        | then-is_round_and_bare w ↦ omega (arith, w.count-is, c.loop-place.invariant.few)
        | else-is_round_and_bare w ↦ omega (arith, w.count-is, c.loop-place.invariant.few)
      ];
    }

pub returns-clause-exact : goal.returns-clause-exact
returns-clause-exact c = λ pads all. c.loop-place.invariant.count pads all ∙ ap (count_by (is_bare pads)) (take_all c.loop-place.place c.args.holes.now c.loop-place-test.false)
