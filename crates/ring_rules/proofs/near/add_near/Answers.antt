use Rattle.ring_rules.proofs.Common.{◌≡◌, ℕ, ℤ, ◌<◌, ◌≤◌, List, length, false, sym, subst, All, Contains, All-weaker, Spot, size_of, AreNearer, are_clear, spot_at, IsSpotInZone}
use Rattle.ring_rules.proofs.NearLemmas.{near_from_test, passed_on}
use Rattle.ring_rules.proofs.near.add_near.Goals as goal

pub add_pairs-requires-clause-others : goal.add_pairs-requires-clause-others
add_pairs-requires-clause-others c =
    let spots : List Spot = c.args.cells.now.spots in
    let inside = All-weaker (IsSpotInZone spots c.near_zone-zone.result) (λ j. j < length spots) (λ j goes. goes.inside) c.find.new.found.items c.in_ok-find.ensures.found in
    subst (All (λ j. j < length spots)) (sym c.deref.ensures.value) inside

pub returns-clause-found : goal.returns-clause-found
returns-clause-found c j h size = record {
  there = λ differ near.
      let spots : List Spot = c.args.cells.now.spots in
      let other = (spot_at spots j).hole in
      let is : c.at.result ≡ spot_at c.args.cells.now.spots c.args.i = c.at.ensures in
      let clash = subst (λ (s : Spot). are_clear c.args.rules.gap other s.hole ≡ false) (sym is) near in
      let z = c.near_zone-zone.ensures other (c.requires.limits j h) (subst (λ (s : Spot). size_of other ≤ size_of s.hole) (sym is) size)
      (passed_on (λ (gap : ℤ). AreNearer gap other c.at.result.hole) c.gap.result c.args.rules.gap c.gap.ensures.in_range.1 c.gap.ensures.value (near_from_test c.args.rules.gap other c.at.result.hole clash)) in
      (c.in_ok-add_pairs.ensures.found j (subst (λ (xs : List ℕ). Contains xs j) (sym c.deref.ensures.value) (c.in_ok-find.ensures.all j h z))).there differ near;
}
