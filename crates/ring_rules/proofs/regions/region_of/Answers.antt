use Rattle.ring_rules.proofs.Common.{rules, ◌≡◌, ◌+◌, w64, to_z, of_z, ap, ◌∙◌, arith, to_z-of_z, place_of}
use Rattle.ring_rules.proofs.ZoneRowsLemmas.{in_rows}
use Rattle.ring_rules.proofs.regions.region_of.Goals as goal

pub returns-clause-holds : goal.returns-clause-holds
returns-clause-holds c = λ p z.
    let bottom : to_z w64 (of_z w64 c.args.zone.now.bottom) ≡ c.args.zone.now.bottom = search (rules, to_z-of_z) in
    let top : to_z w64 (of_z w64 c.args.zone.now.top) ≡ c.args.zone.now.top = search (rules, to_z-of_z) in
    let left : to_z w64 (of_z w64 c.args.zone.now.left) ≡ c.args.zone.now.left = search (rules, to_z-of_z) in
    let right : to_z w64 (of_z w64 c.args.zone.now.right) ≡ c.args.zone.now.right = search (rules, to_z-of_z) in
    let first_row : c.place-top.result ≡ place_of c.args.y.now c.args.zone.now.bottom = c.place-top.ensures.value ∙ ap (place_of c.args.y.now) bottom in
    let last_row : c.place-last_row.result ≡ place_of c.args.y.now c.args.zone.now.top = c.place-last_row.ensures.value ∙ ap (place_of c.args.y.now) top in
    let first_column : c.place-left.result ≡ place_of c.args.x.now c.args.zone.now.left = c.place-left.ensures.value ∙ ap (place_of c.args.x.now) left in
    let last_column : c.place-last_column.result ≡ place_of c.args.x.now c.args.zone.now.right = c.place-last_column.ensures.value ∙ ap (place_of c.args.x.now) right in
    in_rows c.args.x.now c.args.y.now c.place-top.result (c.place-last_row.result + 1) c.place-left.result (c.place-last_column.result + 1) p c.args.zone.now.bottom c.args.zone.now.top c.args.zone.now.left c.args.zone.now.right z.bottom z.top z.left z.right
    (omega (arith, first_row)) (omega (arith, last_row)) (omega (arith, first_column)) (omega (arith, last_column))
