use Rattle.print_json.proofs.Common.{◌∙◌, arith, subst, HasNumbers}
use Rattle.print_json.proofs.Lists.{found_gap, found_ring, length_found}
use Rattle.print_json.proofs.arrays.FindingsValues.numbers_at.Goals as goal

pub overflow_cast-place-else-place-rings : goal.overflow_cast-place-else-place-rings
overflow_cast-place-else-place-rings c =
    let report = c.args.self.now.report.now in
    omega (arith, length_found report.layers.items report.rings.items report.gaps.items c.args.self.now.accepted.now.rings.now c.args.self.now.accepted.now.gaps.now)

pub gap_at-requires : goal.gap_at-requires
gap_at-requires c =
    let report = c.args.self.now.report.now in
    omega (arith, length_found report.layers.items report.rings.items report.gaps.items c.args.self.now.accepted.now.rings.now c.args.self.now.accepted.now.gaps.now)

pub returns-then-place-rings : goal.returns-then-place-rings
returns-then-place-rings c =
    let report = c.args.self.now.report.now in
    subst HasNumbers (c.ring_at.ensures ∙ found_ring report.layers.items report.rings.items report.gaps.items c.args.self.now.accepted.now.rings.now c.args.self.now.accepted.now.gaps.now c.args.place (omega arith)) c.numbers.ensures

pub returns-else-place-rings : goal.returns-else-place-rings
returns-else-place-rings c =
    let report = c.args.self.now.report.now in
    subst HasNumbers (c.gap_at.ensures ∙ found_gap report.layers.items report.rings.items report.gaps.items c.args.self.now.accepted.now.rings.now c.args.self.now.accepted.now.gaps.now c.args.place c.ring_count-rings.result c.ring_count-rings.ensures.value (omega arith)) c.numbers-else-place-rings.ensures
