-- What contracts see of the check of a package.
use Rattle.std.specs.Prelude.{ℕ, Bool, true, false, List, Option, None, Some}
use Rattle.grid_units.specs.Holes.{GridRules}
use Rattle.ring_rules.specs.declared.finding.Drilled.{Drilled}
use Rattle.ring_rules.specs.declared.layer_search.LayerSearch.{LayerSearch}
use Rattle.ring_rules.specs.declared.ring_index.RingIndex.{RingIndex}
use Rattle.board.specs.Boards.{hole_count}
use Rattle.package_check.specs.HoleViews.{HolesView}
use Rattle.package_check.specs.Package.{Setting}
use Rattle.board.specs.declared.FileSum.{FileSum}
use Rattle.board.specs.declared.FileSum.TheVariants as sum
use Rattle.package_check.specs.declared.PackageFault.{PackageFault}
use Rattle.package_check.specs.declared.checking.Judged.{Judged}

-- a check: how many copper files the package has, the holes of all drill files, the rules, an index of the holes, the search on the layer that is being
-- read, what is left of each file in the slot at its index, and where it stopped
pub record CheckView : Type 0 where
  pub layers : ℕ
  pub holes : List Drilled
  pub rules : GridRules
  pub index : RingIndex
  pub search : Option LayerSearch
  pub slots : List (Option Judged)
  pub stopped : Option PackageFault

-- what a check reads its files in
abbrev pub setting_of : CheckView → Setting
setting_of check = record { layers = check.layers; profile = check.rules.profile }

-- the holes of a check
abbrev pub holes_of : CheckView → HolesView
holes_of check = record { holes = check.holes; rules = check.rules; index = check.index; search = check.search }

-- whether these are the counts of a drill file
abbrev pub is_drill_sum : FileSum → Bool
is_drill_sum (sum.Layer pads other contours) = false
is_drill_sum _ = true

-- whether a drill file has a slot
abbrev pub is_drill_in : Option Judged → Bool
is_drill_in None = false
is_drill_in (Some one) = is_drill_sum one.sum

-- how many holes the file in a slot has
abbrev pub holes_in_slot : Option Judged → ℕ
holes_in_slot None = 0
holes_in_slot (Some one) = hole_count one.sum
