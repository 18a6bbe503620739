use Rattle.ring_rules.proofs.Common.{◌≡◌, ℕ, ◌+◌, ◌<◌, Bool, false, List, length, get_or, sym, subst, arith, length_push, spot_at, is_marked}
use Rattle.ring_rules.proofs.MarksAfterPads.{own_more}
use Rattle.ring_rules.proofs.layer_search.marks_of_spots.Goals as goal

pub loop-i-preserved : goal.loop-i-preserved
loop-i-preserved c = subst (λ (xs : List Bool). record {
  size : length xs ≡ c.loop-i.i + 1;
  same : (i : ℕ) → i < c.loop-i.i + 1 → is_marked xs i ≡ is_marked c.args.marks.now (spot_at c.args.spots.now i).place;
}) (sym c.in_ok-push.ensures.items) (record {
  size = omega (arith, length_push c.loop-i.own.items (get_or c.args.marks.now c.place.result false), c.loop-i.invariant.size);
  same = own_more c.args.spots.now c.args.marks.now c.loop-i.own.items c.loop-i.i c.place.result c.place.ensures c.loop-i.invariant.size c.loop-i.invariant.same;
})
