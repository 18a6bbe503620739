use Rattle.print_json.proofs.Common.{◌≡◌, ◌+◌, ◌∙◌, ap, get_or, length, List, ℕ, GapLack}
use Rattle.print_json.proofs.Lists.{gap_at}
use Rattle.print_json.proofs.arrays.Findings.gap_at.Goals as goal

pub returns : goal.returns
returns c =
    let report = c.args.self.now.report.now in
    let one = c.index-as_slice-place.result in
    let why = c.acceptance_of.ensures in
    let lack : one ≡ get_or report.gaps.items c.args.place one = c.index-as_slice-place.is ∙ ap (λ (xs : List GapLack). get_or xs c.args.place one) c.as_slice.ensures.value in
    let number : c.ring_count.result + (c.args.place + 1) ≡ length report.rings.items + (c.args.place + 1) = ap (λ (n : ℕ). n + (c.args.place + 1)) c.ring_count.ensures.value in
    let is = gap_at (length report.rings.items) report.gaps.items c.args.self.now.accepted.now.gaps.now c.args.place one c.requires in
    cc
