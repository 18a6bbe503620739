use Rattle.ring_rules.proofs.Common.{rules, ◌≡◌, w64, to_z, of_z, ap, ◌∙◌, arith, to_z-of_z, place_of}
use Rattle.ring_rules.proofs.PlacesLemmas.{place-le}
use Rattle.ring_rules.proofs.pads.range_of.Goals as goal

pub returns-in-None-clause-holds : goal.returns-in-None-clause-holds
returns-in-None-clause-holds g c = λ p r less e.
    let between = g.met.S.PadShape.between c.args.pad.now p r e in
    let first = place-le c.args.x.now (g.S.PadShape.left c.args.pad.now) p.x between.0 in
    let last = place-le c.args.x.now p.x (g.S.PadShape.right c.args.pad.now) between.1 in
    let fits_left : to_z w64 (of_z w64 c.left.result) ≡ c.left.result = search (rules, to_z-of_z) in
    let fits_right : to_z w64 (of_z w64 c.right.result) ≡ c.right.result = search (rules, to_z-of_z) in
    let from : c.place-left.result ≡ place_of c.args.x.now (g.S.PadShape.left c.args.pad.now) = c.place-left.ensures.value ∙ ap (place_of c.args.x.now) (fits_left ∙ c.left.ensures) in
    let to : c.place-last_column.result ≡ place_of c.args.x.now (g.S.PadShape.right c.args.pad.now) = c.place-last_column.ensures.value ∙ ap (place_of c.args.x.now) (fits_right ∙ c.right.ensures) in
    record { row_from = omega arith; row_below = omega arith; column_from = omega (arith, first, from); column_below = omega (arith, last, to) }
