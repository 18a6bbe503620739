-- Lists of the indices of spots, as a search appends to them.
use Rattle.std.specs.Prelude.{ℕ, ◌<◌, ◌⊎◌, List, length}
use Rattle.std.specs.List.{Contains}
use Rattle.pad_shapes.specs.Zones.{IsInZone}
use Rattle.pad_shapes.specs.declared.zone.Zone.{Zone}
use Rattle.ring_rules.specs.Spots.{point_at}
use Rattle.ring_rules.specs.declared.spots.Spot.{Spot}

-- the index of a spot with its entry point in a zone
pub record IsSpotInZone (spots : List Spot) (zone : Zone) (i : ℕ) : Type 0 where
  pub inside : i < length spots
  pub within : IsInZone zone (point_at spots i)

-- only indices of spots with their entry point in the zone were added, and none was lost
pub record AddsFound (spots : List Spot) (zone : Zone) (before after : List ℕ) : Type 0 where
  pub kept : (i : ℕ) → Contains before i → Contains after i
  pub sound : (i : ℕ) → Contains after i → Contains before i ⊎ IsSpotInZone spots zone i

-- the list has this index, if the entry point of its spot lies in the zone
pub record ListsFound (spots : List Spot) (zone : Zone) (i : ℕ) (found : List ℕ) : Type 0 where
  pub there : IsInZone zone (point_at spots i) → Contains found i
