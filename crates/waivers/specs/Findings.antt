-- The five fields of a finding, and the file of all findings (docs/FORMATS.md, Waivers).
use Rattle.std.specs.Prelude.{ℕ, List, [], ◌∷◌, ◌++◌, codes, slice_get}
use Rattle.std.specs.List.{flat_map}
use Rattle.std.specs.Option.{option_map_or}
use Rattle.csv.specs.Writing.{default_writer, row_text}
use Rattle.manifest.specs.Manifest.{CsvRecord}
use Rattle.grid_units.specs.LengthWords.{short_millimetres}
use Rattle.report.specs.declared.GapLack.{GapLack}
use Rattle.report.specs.declared.PlacedHole.{PlacedHole}
use Rattle.report.specs.declared.LayerHead.{LayerHead}
use Rattle.report.specs.declared.RingCause.{RingCause}
use Rattle.report.specs.declared.RingLack.{RingLack}
use Rattle.report.specs.declared.BoardReport.{BoardReport}
use Rattle.grid_units.specs.HoleWords.{drilled_words, name_of}
use Rattle.report.specs.Causes.{ring_of}

-- a hole without its number: `pic_programmer-PTH, 0.75 at 142.24,-97.79`
abbrev pub hole_field : List (List ℕ) → PlacedHole → List ℕ
hole_field names at = name_of names at.place.drill ++ (codes ", " ++ drilled_words at.hole)

-- the name of a layer's file, by the layer's place; empty where the report has no such layer
abbrev pub layer_field : List (List ℕ) → List LayerHead → ℕ → List ℕ
layer_field names layers place = option_map_or (λ head. name_of names head.file) (slice_get layers place) []

-- the ring of a hole in its best pad, such as `0.099625866`; `none` where it lies in no pad or is an oblique slot
abbrev pub has_field : RingCause → List ℕ
has_field cause = option_map_or short_millimetres (ring_of cause) (codes "none")

-- the fields of a hole that lacks its ring: `ring,top_layer,"pic_programmer-PTH, 0.75 at 142.24,-97.79",,none`
abbrev pub ring_fields : List (List ℕ) → List LayerHead → RingLack → CsvRecord
ring_fields names layers lack = codes "ring" ∷ layer_field names layers lack.layer ∷ hole_field names lack.at ∷ [] ∷ has_field lack.cause ∷ []

-- the fields of two holes that lack their gap: `gap,,"drill, 0.6096 at 50.546,67.31","drill, 0.6096 at 51.181,66.548",0.382301708`
abbrev pub gap_fields : List (List ℕ) → GapLack → CsvRecord
gap_fields names lack = codes "gap" ∷ [] ∷ hole_field names lack.first ∷ hole_field names lack.second ∷ short_millimetres lack.gap ∷ []

-- the record of a finding: its five fields, an empty reason, and a line end
abbrev pub finding_record : CsvRecord → List ℕ
finding_record finding = row_text default_writer (finding ++ [] ∷ [])

-- the head of a file of waivers: `kind,layer,hole,and,has,why`
abbrev pub head_record : List ℕ
head_record = row_text default_writer (codes "kind" ∷ codes "layer" ∷ codes "hole" ∷ codes "and" ∷ codes "has" ∷ codes "why" ∷ [])

-- the file of all findings: the head, then a record of each, rings before gaps
abbrev pub findings_text : List (List ℕ) → BoardReport → List ℕ
findings_text names report =
    head_record
    ++ (flat_map (λ lack. finding_record (ring_fields names report.layers.items lack)) report.rings.items
    ++ flat_map (λ lack. finding_record (gap_fields names lack)) report.gaps.items)
