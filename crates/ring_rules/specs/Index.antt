-- An index of the holes of a list by their entry points: the first end of a slot, the centre of a round hole.
use Rattle.std.specs.Prelude.{ℕ, ◌<◌, List, length}
use Rattle.pad_shapes.specs.Zones.{IsInZone}
use Rattle.pad_shapes.specs.declared.zone.Zone.{Zone}
use Rattle.ring_rules.specs.Places.{entry_at}
use Rattle.ring_rules.specs.Spots.{AreSpotsOf}
use Rattle.ring_rules.specs.Inner.Trees.{AreReady}
use Rattle.ring_rules.specs.declared.finding.Drilled.{Drilled}
use Rattle.ring_rules.specs.declared.index.HoleIndex.{HoleIndex}
use Rattle.ring_rules.specs.declared.spots.Cells.{Cells}

-- cells with just these holes: the spots of these stand in the order of their cells, and the tree over them is in order
pub record AreCellsOf (holes : List Drilled) (cells : Cells) : Type 0 where
  pub ready : AreReady cells
  pub listed : AreSpotsOf holes cells.spots

-- an index of just these holes: each is in the cell of its entry point
abbrev pub IsIndexOf : List Drilled → HoleIndex → Type 0
IsIndexOf holes index = AreCellsOf holes index.cells

-- the place of a hole of the list with its entry point in a zone
pub record IsEntryInZone (holes : List Drilled) (zone : Zone) (k : ℕ) : Type 0 where
  pub listed : k < length holes
  pub within : IsInZone zone (entry_at holes k)
