use Rattle.ring_rules.proofs.Common.{ℕ, List, sym, subst, IsInZone, point_at, AddsFound}
use Rattle.ring_rules.proofs.FoundPlaces.{found_one}
use Rattle.ring_rules.proofs.index.add_spot.Goals as goal

pub returns-in_ok-push-clause-adds : goal.returns-in_ok-push-clause-adds
returns-in_ok-push-clause-adds c =
    let within : IsInZone c.args.zone.now (point_at c.args.spots.now c.args.i) = subst (IsInZone c.args.zone.now) c.point.ensures (c.is_in_zone.ensures.inside c.if-is_in_zone.true) in
    subst (λ (xs : List ℕ). AddsFound c.args.spots.now c.args.zone.now c.args.found.now.items xs) (sym c.in_ok-push.ensures.items)
    (found_one c.args.spots.now c.args.zone.now c.args.found.now.items c.args.i (record { inside = c.requires; within = within }))
