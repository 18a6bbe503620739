-- What is left of the files of a package in the slots of a check, and the report on it.
use Rattle.std.specs.Prelude.{◌++◌, ◌∷◌, [], ℕ, List, Option, None, Some, ◌<◌, ◌≡◌, length, get_or}
use Rattle.std.specs.List.{enumerate_from, flat_map}
use Rattle.grid_units.specs.Holes.{GridRules}
use Rattle.ring_rules.specs.Findings.{gap_findings}
use Rattle.ring_rules.specs.declared.finding.Drilled.{Drilled}
use Rattle.ring_rules.specs.declared.finding.Finding.{Finding}
use Rattle.board.specs.Boards.{numbered_from, CountsAddUp, holes_before}
use Rattle.package_check.specs.Package.{sum_of}
use Rattle.package_check.specs.Reports.{ReportView}
use Rattle.package_check.specs.SoundnessAsRead.{drilled_in}
use Rattle.board.specs.declared.FileSum.{FileSum}
use Rattle.package_check.specs.declared.checking.Judged.{Judged}
use Rattle.package_check.specs.declared.slots.Kept.{Kept}
use Rattle.board.specs.declared.FileSum.TheVariants as sum

-- what is left of a file: its counts, and the findings of rings on its layer
pub record LeftView : Type 0 where
  pub sum : FileSum
  pub rings : List Finding

-- what is left of the file in a slot
abbrev pub left_in : Option Judged → Option LeftView
left_in None = None
left_in (Some one) = Some (record { sum = one.sum; rings = one.rings.items })

-- what is left of the file in a slot by what is kept of it: its counts, and no finding
abbrev pub count_in : Option Kept → Option LeftView
count_in None = None
count_in (Some one) = Some (record { sum = sum_of one.content; rings = [] })

-- the holes of the file in a slot; none in an empty slot
abbrev pub holes_in : Option Kept → List Drilled
holes_in None = []
holes_in (Some one) = drilled_in one.content

-- the counts of the file in a slot, as a list of one; none in an empty slot
abbrev pub sums_in : Option Judged → List FileSum
sums_in None = []
sums_in (Some one) = one.sum ∷ []

-- the findings of rings on the layer of the file in a slot; none in an empty slot
abbrev pub rings_in : Option Judged → List Finding
rings_in None = []
rings_in (Some one) = one.rings.items

-- the index of a copper file by its counts, as a list of one; none of a drill file
abbrev pub index_in : ℕ × FileSum → List ℕ
index_in (file, sum.Layer pads other contours) = file ∷ []
index_in (file, _) = []

-- the indexes of the copper files among all files, from 0, by the counts of the files
abbrev pub layer_indexes_in : List FileSum → List ℕ
layer_indexes_in files = flat_map index_in (enumerate_from 0 files)

-- the report on the files in some slots: their counts, the findings of rings on their layers, and then the gaps between the holes
abbrev pub left_report : GridRules → List Drilled → List (Option Judged) → ReportView
left_report rules holes slots = record {
  rules = rules;
  files = flat_map sums_in slots;
  layers = layer_indexes_in (flat_map sums_in slots);
  holes = numbered_from 0 (flat_map sums_in slots) holes;
  findings = flat_map rings_in slots ++ gap_findings rules.gap holes;
}

-- one start for each of the first so many files: the number of holes in the files before it
pub record AreStartsOf (files : List FileSum) (count : ℕ) (starts : List ℕ) : Type 0 where
  pub size : length starts ≡ count
  pub each : (file : ℕ) → file < count → get_or starts file 0 ≡ holes_before files file

-- the files count just these holes, and each file has its start
pub record AreFileStarts (files : List FileSum) (holes : List Drilled) (starts : List ℕ) : Type 0 where
  pub counted : CountsAddUp files holes
  pub are : AreStartsOf files (length files) starts
