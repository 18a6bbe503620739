use Rattle.report.proofs.Common.{get_or, get_or_default, HoleRange}
use Rattle.report.proofs.RescaledLists.{ranges_all, ranges_more, ranges_none}
use Rattle.report.proofs.counts.rescale_ranges.Goals as goal

pub loop-range-init : goal.loop-range-init
loop-range-init c = let none = c.in_ok-all.ensures in ranges_none c.args.factor c.args.holes.now c.args.ranges.now c.in_ok-all.all none.0 none.1

pub loop-range-preserved : goal.loop-range-preserved
loop-range-preserved c =
    let ranges = c.args.ranges.now in
    let k = c.loop-range.range-index in
    let none : HoleRange = record { start = 0; end = 0 } in
    let one : HoleRange = get_or c.args.ranges.now c.loop-range.range-index none in
    ranges_more c.args.factor c.args.holes.now ranges k one c.loop-range-test.true (get_or_default ranges k none one c.loop-range-test.true) c.loop-range.all c.add.new.self c.loop-range.invariant c.in_ok-add.ensures

pub returns : goal.returns
returns c = ranges_all c.args.factor c.args.holes.now c.args.ranges.now c.loop-range.range-index c.loop-range.all c.loop-range-test.false c.loop-range.invariant
