use Rattle.report.proofs.Common.{◌≡◌, ℕ, ◌+◌, ◌<◌, ◌≤◌, ◌⊎◌, [], ◌∷◌, ◌++◌, get_or, length, map, take, ap, subst, ◌∙◌, arith, get_or-map, get_or_default, length-map, bare_count_with, IsTried, holes_of, open_part, HoleRange, Tried}
use Rattle.report.specs.declared.UnitFactor.TheVariants as kind
use Rattle.report.proofs.UnitMistakeLemmas.{as_tried, from_tried, open_counted}
use Rattle.report.proofs.PairedLists.{paired_all, paired_more}
use Rattle.report.proofs.fewest.with_next.Goals as goal

pub loop-place-preserved : goal.loop-place-preserved
loop-place-preserved c = λ pads holes ranges earlier are counted.
    let all = c.args.tried.now in
    let factor = c.args.factor in
    let k = c.loop-place.place in
    let none : HoleRange = record { start = 0; end = 0 } in
    let nothing : Tried = record { range = record { start = 0; end = 0 }; fewest = record { factor = kind.Ten; bare = 0 } } in
    let one : Tried = get_or c.args.tried.now c.loop-place.place nothing in
    let count : ℕ = get_or c.args.counts.now c.loop-place.place 0 in
    let range : HoleRange = get_or ranges c.loop-place.place none in
    let inside : c.loop-place.place < length ranges = (let size = are.size in omega (arith, size, c.loop-place-test.true)) in
    let is : IsTried pads holes earlier range one = are.each k none nothing inside in
    let size = length-map all open_part in
    let part : get_or (map open_part all) k none ≡ open_part one = get_or-map open_part all k nothing none c.loop-place-test.true in
    let own : count ≡ bare_count_with pads (holes_of holes (open_part one)) factor =
    counted.each k none 0 (omega (arith, size, c.loop-place-test.true)) ∙ ap (λ (s : HoleRange). bare_count_with pads (holes_of holes s) factor) part in
    let known = subst (λ (s : HoleRange). (count ≡ bare_count_with pads (holes_of holes s) factor) ⊎ (one.fewest.bare ≡ 0)) is.range (open_counted pads holes one factor count own) in
    as_tried pads holes (take (k + 1) ranges) (earlier ++ factor ∷ []) c.push.new.self.items
    (paired_more (IsTried pads holes (earlier ++ factor ∷ [])) ranges k range inside (get_or_default ranges k none range inside) c.loop-place.all.items c.push.new.self.items (record { range = one.range; fewest = c.lesser.result }) c.in_ok-push.ensures.items
    (record { range = is.range; fewest = c.lesser.ensures (bare_count_with pads (holes_of holes range)) earlier is.fewest known }) (from_tried pads holes (take k ranges) (earlier ++ factor ∷ []) c.loop-place.all.items (c.loop-place.invariant pads holes ranges earlier are counted)))

pub returns : goal.returns
returns c = λ pads holes ranges earlier are counted.
    let k = c.loop-place.place in
    let factors = earlier ++ c.args.factor ∷ [] in
    let past : length ranges ≤ k = (let size = are.size in omega (arith, size, c.loop-place-test.false)) in
    as_tried pads holes ranges factors c.loop-place.all.items
    (paired_all (IsTried pads holes factors) ranges k c.loop-place.all.items past (from_tried pads holes (take k ranges) factors c.loop-place.all.items (c.loop-place.invariant pads holes ranges earlier are counted)))
