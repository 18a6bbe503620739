-- What a check keeps of the drill files of a package, and of the copper file that it reads.
use Rattle.std.specs.Prelude.{List, Option}
use Rattle.grid_units.specs.Holes.{GridRules}
use Rattle.ring_rules.specs.declared.finding.Drilled.{Drilled}
use Rattle.ring_rules.specs.declared.layer_search.LayerSearch.{LayerSearch}
use Rattle.ring_rules.specs.declared.ring_index.RingIndex.{RingIndex}

-- the holes of all drill files of a package, file by file, the rules by which they are judged, an index of them, and the search on a layer, if one has begun
pub record HolesView : Type 0 where
  pub holes : List Drilled
  pub rules : GridRules
  pub index : RingIndex
  pub search : Option LayerSearch
