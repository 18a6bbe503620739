use Rattle.ring_rules.proofs.Common.{◌≡◌, ℕ, ◌<◌, List, length, get_or, drop, sym, ap, subst, ◌∙◌, All, Contains, take_at, IsInZone, spot_at, entry_at, Spot}
use Rattle.ring_rules.specs.Index.{IsEntryInZone}
use Rattle.ring_rules.proofs.FoundPlaces.{all_named, all_within}
use Rattle.ring_rules.proofs.index.HoleIndex.find.Goals as goal

pub returns-clause-all : goal.returns-clause-all
returns-clause-all c =
    let places : List ℕ = c.name_places.new.found in
    let spots : List Spot = c.args.self.now.cells.spots in
    let whole = take_at c.name_places.new.found (drop (length c.name_places.new.found) c.find.new.found.items) c.find.new.found.len (c.name_places.auto.found ∙ c.deref_mut.ensures.len) in
    let named = subst (λ (xs : List ℕ). (n : ℕ) → n < length xs → get_or places n 0 ≡ (spot_at spots (get_or xs n 0)).place) c.deref_mut.ensures.value c.name_places.ensures in
    subst (λ (xs : List ℕ). (k : ℕ) → k < length c.args.holes.now → IsInZone c.args.zone.now (entry_at c.args.holes.now k) → Contains xs k) (sym whole)
    (all_named spots c.args.zone.now c.args.holes.now c.requires.listed c.find.new.found.items places (c.name_places.auto.found ∙ ap length c.deref_mut.ensures.value) named c.in_ok-find.ensures.all)

pub returns-clause-places : goal.returns-clause-places
returns-clause-places c =
    let places : List ℕ = c.name_places.new.found in
    let spots : List Spot = c.args.self.now.cells.spots in
    let whole = take_at c.name_places.new.found (drop (length c.name_places.new.found) c.find.new.found.items) c.find.new.found.len (c.name_places.auto.found ∙ c.deref_mut.ensures.len) in
    let named = subst (λ (xs : List ℕ). (n : ℕ) → n < length xs → get_or places n 0 ≡ (spot_at spots (get_or xs n 0)).place) c.deref_mut.ensures.value c.name_places.ensures in
    subst (All (IsEntryInZone c.args.holes.now c.args.zone.now)) (sym whole)
    (all_within spots c.args.zone.now c.args.holes.now c.requires.listed c.find.new.found.items places (c.name_places.auto.found ∙ ap length c.deref_mut.ensures.value) named c.in_ok-find.ensures.found)
