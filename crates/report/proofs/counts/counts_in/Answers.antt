use Rattle.report.proofs.Common.{◌≡◌, ◌+◌, ◌∙◌, get_or, take, arith, get_or_default, HoleRange, holes_of}
use Rattle.report.proofs.RescaledLists.{bare_part, rescaled_part}
use Rattle.report.proofs.UnitMistakeLemmas.{IsCount, as_counted, from_counted}
use Rattle.report.proofs.PairedLists.{paired_all, paired_more}
use Rattle.report.proofs.counts.counts_in.Goals as goal

pub loop-place-preserved : goal.loop-place-preserved
loop-place-preserved c = λ factor pads gathered bare.
    let holes = c.args.holes.now in
    let ranges = c.args.ranges.now in
    let k = c.loop-place.place in
    let none : HoleRange = record { start = 0; end = 0 } in
    let one : HoleRange = get_or c.args.ranges.now c.loop-place.place none in
    let there = gathered.each k none c.loop-place-test.true in
    let size = gathered.size in
    let from : c.index.result.now ≡ get_or c.args.all.now.bounds.items c.loop-place.place 0 =
    c.index.ensures ∙ get_or_default c.args.all.now.bounds.items k c.index.result.now 0 (omega (arith, size, c.loop-place-test.true)) in
    let to : c.index-in-loop-place.result.now ≡ get_or c.args.all.now.bounds.items (c.loop-place.place + 1) 0 =
    c.index-in-loop-place.ensures ∙ get_or_default c.args.all.now.bounds.items (k + 1) c.index-in-loop-place.result.now 0 (omega (arith, size, c.loop-place-test.true)) in
    as_counted pads holes (take (k + 1) ranges) factor c.push.new.self.items
    (paired_more (IsCount pads holes factor) ranges k one c.loop-place-test.true (get_or_default ranges k none one c.loop-place-test.true) c.loop-place.counts.items c.push.new.self.items c.count_of.result c.in_ok-push.ensures.items
    (c.count_of.ensures factor pads
    (rescaled_part factor (holes_of holes one) c.args.all.now.holes.items c.deref.result.now c.deref.ensures.value c.index.result.now c.index-in-loop-place.result.now (get_or c.args.all.now.bounds.items k 0) (get_or c.args.all.now.bounds.items (k + 1) 0) from to there)
    (bare_part pads c.args.all.now.holes.items c.deref.result.now c.deref.ensures.value c.index-in-loop-place.result.now (get_or c.args.all.now.bounds.items (k + 1) 0) to there.inside c.index.result.now c.args.bare.now bare)) (from_counted pads holes (take k ranges) factor c.loop-place.counts.items (c.loop-place.invariant factor pads gathered bare)))

pub returns : goal.returns
returns c = λ factor pads gathered bare.
    let holes = c.args.holes.now in
    let ranges = c.args.ranges.now in
    let k = c.loop-place.place in
    as_counted pads holes ranges factor c.loop-place.counts.items
    (paired_all (IsCount pads holes factor) ranges k c.loop-place.counts.items c.loop-place-test.false (from_counted pads holes (take k ranges) factor c.loop-place.counts.items (c.loop-place.invariant factor pads gathered bare)))
