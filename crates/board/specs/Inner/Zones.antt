-- Zones in which nothing is covered.
use Rattle.std.specs.Prelude.{ℕ, ◌<◌, Bool, List, get_or}
use Rattle.grid_units.specs.Points.{GridPoint}
use Rattle.pad_shapes.specs.Zones.{CoversNone}
use Rattle.pad_shapes.specs.declared.zone.Zone.{Zone}

-- none of the first `count` shapes covers a point of a zone, with any reach
abbrev pub CoversNothing : {S : Type 0} → (S → GridPoint → ℕ → Bool) → List S → ℕ → Zone → Type 0
CoversNothing {S} covers shapes count zone = (s : S) (k : ℕ) → k < count → CoversNone covers (get_or shapes k s) 0 zone
