-- The holes of a board that lack their ring on a layer, while the pads of the layer are tried in any number of parts.
use Rattle.std.specs.Prelude.{◌≡◌, ℕ, ◌+◌, ◌<◌, ◌≤◌, Bool, List, length, map, get_or}
use Rattle.grid_units.specs.Points.{GridPoint}
use Rattle.ring_rules.specs.Findings.{is_ring_finding}
use Rattle.ring_rules.specs.Places.{default_hole}
use Rattle.ring_rules.specs.Spots.{spot_at, AreSpotsOf}
use Rattle.ring_rules.specs.Inner.Marks.{is_marked}
use Rattle.ring_rules.specs.Inner.Trees.{AreReady, AreClosedUnmarked}
use Rattle.ring_rules.specs.declared.finding.Drilled.{Drilled}
use Rattle.ring_rules.specs.declared.ring_index.RingIndex.{RingIndex}
use Rattle.ring_rules.specs.declared.layer_search.LayerSearch.{LayerSearch}

-- an index in order: its spots stand in their cells, its tree is in order, and no hole asks for less than its least reach, in pm
pub record IsRingIndex (index : RingIndex) : Type 0 where
  pub ready : AreReady index.cells
  pub reach : (i : ℕ) → i < length index.cells.spots → index.least ≤ (spot_at index.cells.spots i).hole.radius + index.rules.ring
  pub least : index.least ≤ 15000000000000

-- an index of just these holes
pub record IsRingIndexOf (holes : List Drilled) (index : RingIndex) : Type 0 where
  pub ready : IsRingIndex index
  pub listed : AreSpotsOf holes index.cells.spots

-- marks over an index: one for each spot, and no mark is left in a node that is closed
pub record AreMarksOver (index : RingIndex) (is_open marks : List Bool) : Type 0 where
  pub ready : IsRingIndex index
  pub size : length marks ≡ length index.cells.spots
  pub open_nodes : length is_open ≡ length index.cells.nodes.items
  pub closed : AreClosedUnmarked index.cells.nodes.items is_open marks

-- a search over an index: its marks are
abbrev pub IsSearchOver : RingIndex → LayerSearch → Type 0
IsSearchOver index search = AreMarksOver index search.open_nodes.items search.marks.items

-- the hole at a place of a list, with its plating and span
abbrev pub drilled_at : List Drilled → ℕ → Drilled
drilled_at holes k = get_or holes k default_hole

-- a spot is marked just where a test passes for the hole at its place
abbrev pub AreMarkedBy : (Drilled → Bool) → List Drilled → RingIndex → List Bool → Type 0
AreMarkedBy test holes index marks =
    (i : ℕ) → i < length index.cells.spots → is_marked marks i ≡ test (drilled_at holes (spot_at index.cells.spots i).place)

-- what a pad covers: the centres, each with the reach round it
abbrev pub Covering : Type 0
Covering = GridPoint → ℕ → Bool

-- A search over the index of some holes stands for just these pads of a layer, each given by what it covers: it marks the holes that are a
-- finding among them.
pub record HasTriedCoverings (holes : List Drilled) (layer : ℕ) (coverings : List Covering) (index : RingIndex) (search : LayerSearch) : Type 0 where
  pub listed : IsRingIndexOf holes index
  pub over : IsSearchOver index search
  pub same_layer : search.layer ≡ layer
  pub marks : AreMarkedBy (is_ring_finding (λ covering. covering) index.rules.profile index.rules.ring layer coverings) holes index search.marks.items

-- a search stands for just these pads of a layer, which may be of any type
abbrev pub HasTried : {S : Type 0} → (S → GridPoint → ℕ → Bool) → List Drilled → ℕ → List S → RingIndex → LayerSearch → Type 0
HasTried covers holes layer pads index search = HasTriedCoverings holes layer (map covers pads) index search
