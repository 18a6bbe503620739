use Rattle.print_json.proofs.Common.{◌∙◌, ap, arith, has_written_of_eq, value_text}
use Rattle.print_json.proofs.Lists.{found_gap, found_ring, length_found}
use Rattle.print_json.proofs.arrays.FindingsValues.write_at.Goals as goal

pub overflow_cast-place-else-place-rings : goal.overflow_cast-place-else-place-rings
overflow_cast-place-else-place-rings g c =
    let report = c.args.self.now.report.now in
    omega (arith, length_found report.layers.items report.rings.items report.gaps.items c.args.self.now.accepted.now.rings.now c.args.self.now.accepted.now.gaps.now)

pub gap_at-requires : goal.gap_at-requires
gap_at-requires g c =
    let report = c.args.self.now.report.now in
    omega (arith, length_found report.layers.items report.rings.items report.gaps.items c.args.self.now.accepted.now.rings.now c.args.self.now.accepted.now.gaps.now)

pub returns-then-place-rings : goal.returns-then-place-rings
returns-then-place-rings g c = λ plain ok.
    let report = c.args.self.now.report.now in
    has_written_of_eq _ _ _ _ _
    (ap value_text (c.ring_at.ensures ∙ found_ring report.layers.items report.rings.items report.gaps.items c.args.self.now.accepted.now.rings.now c.args.self.now.accepted.now.gaps.now c.args.place (omega arith)))
    (c.write.ensures plain ok)

pub returns-else-place-rings : goal.returns-else-place-rings
returns-else-place-rings g c = λ plain ok.
    let report = c.args.self.now.report.now in
    has_written_of_eq _ _ _ _ _
    (ap value_text (c.gap_at.ensures ∙ found_gap report.layers.items report.rings.items report.gaps.items c.args.self.now.accepted.now.rings.now c.args.self.now.accepted.now.gaps.now c.args.place c.ring_count-rings.result c.ring_count-rings.ensures.value (omega arith)))
    (c.write-else-place-rings.ensures plain ok)
