use Rattle.report.proofs.Common.{◌+◌, [], ◌∷◌, get_or, take, refl, get_or_default, bare_count_with, IsTried, holes_of, HoleRange, Fewest}
use Rattle.report.specs.declared.UnitFactor.TheVariants as kind
use Rattle.report.proofs.FewestLemmas.{only_one}
use Rattle.report.proofs.UnitMistakeLemmas.{as_tried, from_tried}
use Rattle.report.proofs.PairedLists.{paired_all, paired_more}
use Rattle.report.proofs.fewest.with_first.Goals as goal

pub loop-place-preserved : goal.loop-place-preserved
loop-place-preserved c = λ pads holes counted.
    let ranges = c.args.ranges.now in
    let k = c.loop-place.place in
    let none : HoleRange = record { start = 0; end = 0 } in
    let one : HoleRange = get_or c.args.ranges.now c.loop-place.place none in
    let fewest : Fewest = record { factor = kind.Ten; bare = get_or c.args.counts.now c.loop-place.place 0 } in
    let own = counted.each k none 0 c.loop-place-test.true in
    as_tried pads holes (take (k + 1) ranges) (kind.Ten ∷ []) c.push.new.self.items
    (paired_more (IsTried pads holes (kind.Ten ∷ [])) ranges k one c.loop-place-test.true (get_or_default ranges k none one c.loop-place-test.true) c.loop-place.tried.items c.push.new.self.items (record { range = one; fewest = fewest }) c.in_ok-push.ensures.items
    (record { range = refl; fewest = only_one (bare_count_with pads (holes_of holes one)) fewest kind.Ten refl own }) (from_tried pads holes (take k ranges) (kind.Ten ∷ []) c.loop-place.tried.items (c.loop-place.invariant pads holes counted)))

pub returns : goal.returns
returns c = λ pads holes counted.
    let ranges = c.args.ranges.now in
    let k = c.loop-place.place in
    as_tried pads holes ranges (kind.Ten ∷ []) c.loop-place.tried.items
    (paired_all (IsTried pads holes (kind.Ten ∷ [])) ranges k c.loop-place.tried.items c.loop-place-test.false (from_tried pads holes (take k ranges) (kind.Ten ∷ []) c.loop-place.tried.items (c.loop-place.invariant pads holes counted)))
