use Rattle.ring_rules.proofs.Common.{◌+◌, ◌*◌, ap, ◌∙◌, arith, place_of}
use Rattle.ring_rules.proofs.NearLemmas.{passed_is}
use Rattle.ring_rules.proofs.SpotLemmas.{in_last_row}
use Rattle.ring_rules.proofs.cells.cell_of.Goals as goal

pub overflow_mul-result : goal.overflow_mul-result
overflow_mul-result c = let l = in_last_row c.place.result c.args.y.now.last (c.args.x.now.last + 1) 0 c.place.ensures.within (omega arith) in omega (arith, l, c.requires)

pub overflow_add-result-2 : goal.overflow_add-result-2
overflow_add-result-2 c = let l = in_last_row c.place.result c.args.y.now.last (c.args.x.now.last + 1) c.place-2.result c.place.ensures.within (omega (arith, c.place-2.ensures.within)) in omega (arith, l, c.requires)

pub returns : goal.returns
returns c =
    let row = c.place.ensures.value ∙ ap (place_of c.args.y.now) (passed_is c.y.result c.y.ensures.in_range ∙ c.y.ensures.value) in
    let column = c.place-2.ensures.value ∙ ap (place_of c.args.x.now) (passed_is c.x.result c.x.ensures.in_range ∙ c.x.ensures.value) in
    let l = in_last_row c.place.result c.args.y.now.last (c.args.x.now.last + 1) (c.place-2.result + 1) c.place.ensures.within (omega (arith, c.place-2.ensures.within)) in
    record { value = λ i. row i * (c.args.x.now.last + 1) + column i; within = omega (arith, l) }
