use Rattle.print_json.proofs.Common.{◌≡◌, ◌∙◌, ap, get_or, List, RingLack}
use Rattle.print_json.proofs.Lists.{ring_at}
use Rattle.print_json.proofs.arrays.Findings.ring_at.Goals as goal

pub returns : goal.returns
returns c =
    let report = c.args.self.now.report.now in
    let one = c.index-as_slice-place.result in
    let layers = c.as_slice.ensures.value in
    let why = c.acceptance_of.ensures in
    let lack : one ≡ get_or report.rings.items c.args.place one = c.index-as_slice-place.is ∙ ap (λ (xs : List RingLack). get_or xs c.args.place one) c.as_slice-2.ensures.value in
    let is = ring_at report.layers.items report.rings.items c.args.self.now.accepted.now.rings.now c.args.place one c.requires in
    cc
