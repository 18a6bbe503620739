-- The waivers of findings, and the waivers that waive nothing (docs/FORMATS.md, Waivers).
use Rattle.std.specs.Prelude.{◌≡◌, ◌++◌, ◌&&◌, ℕ, Bool, not, List, [], ◌∷◌, map, slice_get, Option, Some, None, is_some, option_map}
use Rattle.std.specs.Cmp.Lexicographic.{pointwise}
use Rattle.std.specs.List.{enumerate_from, filter, list_all, list_any, position}
use Rattle.std.specs.Str.{bytes_eq}
use Rattle.manifest.specs.Manifest.{CsvRecord}
use Rattle.report.specs.declared.BoardReport.{BoardReport}
use Rattle.report.specs.declared.Acceptances.{Acceptances}
use Rattle.waivers.specs.Findings.{gap_fields, ring_fields}
use Rattle.waivers.specs.declared.Waiver.{Waiver}
use Rattle.waivers.specs.declared.waiving.Waived.{Waived}

-- the five fields of a waiver that are compared: all but the reason
abbrev pub compared_fields : Waiver → CsvRecord
compared_fields waiver = waiver.kind ∷ waiver.layer ∷ waiver.hole ∷ waiver.and ∷ waiver.has ∷ []

-- a waiver waives a finding: its first five fields are those of the finding, byte for byte
abbrev pub waives : CsvRecord → Waiver → Bool
waives finding waiver = pointwise bytes_eq (compared_fields waiver) finding

-- the place, from 0, of the first waiver that waives a finding
abbrev pub waived_by : List Waiver → CsvRecord → Option ℕ
waived_by all finding = position (waives finding) all

-- for each finding of a report the place of its waiver; `names` are those of the package's files
pub record IsWaived (all : List Waiver) (names : List (List ℕ)) (report : BoardReport) (waived : Waived) : Type 0 where
  pub rings : waived.rings.items ≡ map (λ lack. waived_by all (ring_fields names report.layers.items lack)) report.rings.items
  pub gaps : waived.gaps.items ≡ map (λ lack. waived_by all (gap_fields names lack)) report.gaps.items

-- the reason why a finding is accepted, by the place of its waiver
abbrev pub reason_at : List Waiver → Option ℕ → Option (List ℕ)
reason_at all None = None
reason_at all (Some place) = option_map (λ waiver. waiver.why) (slice_get all place)

-- each finding is waived
abbrev pub are_all_waived : Waived → Bool
are_all_waived waived = list_all is_some waived.rings.items && list_all is_some waived.gaps.items

-- the five fields of each finding of a report, rings before gaps
abbrev pub report_fields : List (List ℕ) → BoardReport → List CsvRecord
report_fields names report = map (λ lack. ring_fields names report.layers.items lack) report.rings.items ++ map (λ lack. gap_fields names lack) report.gaps.items

-- a waiver waives nothing: none of these findings has its first five fields
abbrev pub waives_nothing : List CsvRecord → Waiver → Bool
waives_nothing findings waiver = not (list_any (λ finding. waives finding waiver) findings)

-- the numbers of the records of those waivers that pass a test, in order; the first waiver has the number 2, after the head
abbrev pub record_numbers_where : (Waiver → Bool) → List Waiver → List ℕ
record_numbers_where test all = map (λ one. one.0) (filter (λ one. test one.1) (enumerate_from 2 all))

-- the numbers of the records of the waivers that waive none of these findings
abbrev pub idle_numbers : List Waiver → List CsvRecord → List ℕ
idle_numbers all findings = record_numbers_where (waives_nothing findings) all

-- the reasons and numbers that a report prints: the reason of each waived finding; and for each report whose findings are waived so, the
-- numbers of the waivers that waive none of them
pub record AreReasons (all : List Waiver) (waived : Waived) (accepted : Acceptances) : Type 0 where
  pub rings : map (option_map (λ why. why.now)) accepted.rings.now ≡ map (reason_at all) waived.rings.items
  pub gaps : map (option_map (λ why. why.now)) accepted.gaps.now ≡ map (reason_at all) waived.gaps.items
  pub idle : (names : List (List ℕ)) (report : BoardReport) → IsWaived all names report waived → accepted.idle.now ≡ idle_numbers all (report_fields names report)
