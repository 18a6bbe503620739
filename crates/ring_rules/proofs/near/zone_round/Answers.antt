use Rattle.ring_rules.proofs.Common.{arith, ints, abs_diff, ap, ◌∙◌, ◌≡◌, GridPoint, pos, ◌-ℤ◌, ◌+ℤ◌, int_min, int_max, to_z, of_z, w64}
use Rattle.ring_rules.proofs.NearLemmas.{starts_near, passed_is}
use Rattle.ring_rules.proofs.near.zone_round.Goals as goal

pub returns : goal.returns
returns c = λ o under size near.
    let fits_x = c.margin.ensures.value o (abs_diff o.from.x o.to.x) under.x (omega arith) size in
    let fits_y = c.margin-2.ensures.value o (abs_diff o.from.y o.to.y) under.y (omega arith) size in
    let x = starts_near o.from.x o.to.x c.args.hole.now.from.x c.args.hole.now.to.x c.args.far c.margin.result near.x fits_x in
    let y = starts_near o.from.y o.to.y c.args.hole.now.from.y c.args.hole.now.to.y c.args.far c.margin-2.result near.y fits_y in
    let from_x : to_z w64 (of_z w64 c.x.result) ≡ c.args.hole.now.from.x = passed_is c.x.result c.x.ensures.in_range ∙ (c.x.ensures.value ∙ ap (λ (p : GridPoint). p.x) c.from-from.ensures) in
    let to_x : to_z w64 (of_z w64 c.x-2.result) ≡ c.args.hole.now.to.x = passed_is c.x-2.result c.x-2.ensures.in_range ∙ (c.x-2.ensures.value ∙ ap (λ (p : GridPoint). p.x) c.to-to.ensures) in
    let from_y : to_z w64 (of_z w64 c.y.result) ≡ c.args.hole.now.from.y = passed_is c.y.result c.y.ensures.in_range ∙ (c.y.ensures.value ∙ ap (λ (p : GridPoint). p.y) c.from-from.ensures) in
    let to_y : to_z w64 (of_z w64 c.y-2.result) ≡ c.args.hole.now.to.y = passed_is c.y-2.result c.y-2.ensures.in_range ∙ (c.y-2.ensures.value ∙ ap (λ (p : GridPoint). p.y) c.to-to.ensures) in
    let left = c.widened-left.ensures.low ∙ (λ j. int_min (from_x j) (to_x j) -ℤ pos c.margin.result) in
    let right = c.widened-left.ensures.high ∙ (λ j. int_max (from_x j) (to_x j) +ℤ pos c.margin.result) in
    let bottom = c.widened-bottom.ensures.low ∙ (λ j. int_min (from_y j) (to_y j) -ℤ pos c.margin-2.result) in
    let top = c.widened-bottom.ensures.high ∙ (λ j. int_max (from_y j) (to_y j) +ℤ pos c.margin-2.result) in
    record {
      left = (let h = x.0 in omega (arith, ints, h, left));
      right = (let h = x.1 in omega (arith, ints, h, right));
      bottom = (let h = y.0 in omega (arith, ints, h, bottom));
      top = (let h = y.1 in omega (arith, ints, h, top));
    }
