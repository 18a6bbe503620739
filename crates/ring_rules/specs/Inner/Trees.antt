-- A tree over the spots of a grid, in one list. The parts of a node follow it, up to the index that the node names as its end.
use Rattle.std.specs.Prelude.{◌≡◌, ℕ, pos, ◌<◌, ◌≤◌, Bool, false, List, length, get_or}
use Rattle.pad_shapes.specs.Zones.{IsInZone}
use Rattle.pad_shapes.specs.declared.zone.Zone.{Zone}
use Rattle.ring_rules.specs.Spots.{point_at, AreInCells}
use Rattle.ring_rules.specs.Inner.Marks.{HasNoMarkFrom}
use Rattle.ring_rules.specs.declared.spots.Cells.{Cells}
use Rattle.ring_rules.specs.declared.spots.Run.{Run}
use Rattle.ring_rules.specs.declared.spots.Spot.{Spot}
use Rattle.ring_rules.specs.declared.tree.Node.{Node}

-- a zone contains the entry points of the spots of a run
abbrev pub HoldsRun : List Spot → Run → Zone → Type 0
HoldsRun spots run zone = (k : ℕ) → run.start ≤ k → k < run.end → IsInZone zone (point_at spots k)

-- the node that stands for an index past the end of a list
abbrev pub default_node : Node
default_node = record { run = record { start = 0; end = 0 }; zone = record { left = pos 0; right = pos 0; bottom = pos 0; top = pos 0 }; end = 0 }

-- the node at an index
abbrev pub node_at : List Node → ℕ → Node
node_at nodes i = get_or nodes i default_node

-- a node at an index: a run of the spots, in its zone, and its parts end later
pub record IsNode (spots : List Spot) (i : ℕ) (node : Node) : Type 0 where
  pub within : node.run.end ≤ length spots
  pub more : i < node.end
  pub holds : HoldsRun spots node.run node.zone

-- each node of a list is one
abbrev pub AreNodes : List Spot → List Node → Type 0
AreNodes spots nodes = (i : ℕ) → i < length nodes → IsNode spots i (node_at nodes i)

-- the spots stand in the order of their cells, and the tree over them is in order
pub record AreReady (cells : Cells) : Type 0 where
  pub grid : AreInCells cells.x cells.y cells.starts.items cells.spots
  pub nodes : AreNodes cells.spots cells.nodes.items

-- no mark is left in a node that is closed
abbrev pub AreClosedUnmarked : List Node → List Bool → List Bool → Type 0
AreClosedUnmarked nodes open_nodes marks =
    (i : ℕ) → i < length nodes → get_or open_nodes i false ≡ false → HasNoMarkFrom (node_at nodes i).run.start (node_at nodes i).run.end marks
