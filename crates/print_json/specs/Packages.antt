-- The JSON objects that are printed: of a measure, of a report and of a refusal (docs/FORMATS.md, JSON).
use Rattle.std.specs.Prelude.{ℕ, ◌+◌, ◌==◌, ◌++◌, true, List, [], ◌∷◌, Option, codes, length, map, if◌then◌else◌}
use Rattle.grid_units.specs.declared.profile.Profile.{Profile}
use Rattle.grid_units.specs.declared.profile.Profile.TheVariants.{Strict, Wide}
use Rattle.std.specs.Borrow.{Bor}
use Rattle.std.specs.List.{enumerate_from}
use Rattle.json.specs.Json.{Json, boolean, null}
use Rattle.grid_units.specs.Reasons.{reason_name}
use Rattle.grid_units.specs.declared.fault.Fault.{Fault}
use Rattle.grid_units.specs.declared.fault.Reason.{Reason}
use Rattle.report.specs.declared.Measure.{Measure}
use Rattle.board.specs.Boards.{BoardView}
use Rattle.board.specs.declared.FileSum.{FileSum}
use Rattle.grid_units.specs.HoleWords.{name_of}
use Rattle.report.specs.Acceptances.{acceptance_at, waived_in}
use Rattle.report.specs.declared.GapLack.{GapLack}
use Rattle.report.specs.declared.LayerHead.{LayerHead}
use Rattle.report.specs.declared.RingLack.{RingLack}
use Rattle.report.specs.declared.BoardReport.{BoardReport}
use Rattle.report.specs.declared.Acceptances.{Acceptances}
use Rattle.print_text.specs.declared.report_text.Particulars.{Particulars}
use Rattle.print_json.specs.Values.{array_of, drilling_member, file_value, gap_value, or_null, least_gap_value, meets_value, object_of, ring_value, row_value, rules_value, scale_value, whole, word}
use Rattle.print_json.specs.declared.refused.InputError.{InputError}
use Rattle.print_json.specs.declared.refused.InputError.TheVariants as stops

-- the name of a profile
abbrev pub profile_value : Profile → Json
profile_value Strict = word (codes "strict")
profile_value Wide = word (codes "wide")

-- how many findings the wide profile does not have; null of a report in the wide profile
abbrev pub fewer_value : Profile → ℕ → Json
fewer_value Strict fewer = whole fewer
fewer_value Wide fewer = null

-- the first members of an object about files that are read in a profile
abbrev pub opening_in : Profile → List ℕ → List (List ℕ × Json)
opening_in profile result =
    (codes "format", word (codes "ringcheck")) ∷ (codes "version", whole 3) ∷ (codes "profile", profile_value profile) ∷ (codes "result", word result) ∷ []

-- the first members of each other object: `"format":"ringcheck","version":3,"result":"refused"`
abbrev pub first_members : List ℕ → List (List ℕ × Json)
first_members result = (codes "format", word (codes "ringcheck")) ∷ (codes "version", whole 3) ∷ (codes "result", word result) ∷ []

-- the contents of each file in a profile, in order, with the files' numbers and names
abbrev pub file_values : Profile → List (List ℕ) → List FileSum → List Json
file_values profile names files = map (λ file. file_value profile (file.0 + 1) (name_of names file.0) file.1) (enumerate_from 0 files)

-- the insufficient rings, each with its number and the reason at its place why it is accepted, if there is one; `layers` are those that they name
abbrev pub ring_values : List LayerHead → List RingLack → List (Option (Bor (List ℕ))) → List Json
ring_values layers rings accepted = map (λ one. ring_value layers (one.0 + 1) one.1 (acceptance_at accepted one.0)) (enumerate_from 0 rings)

-- the insufficient gaps, after this many rings, each with its number and the reason at its place
abbrev pub gap_values : ℕ → List GapLack → List (Option (Bor (List ℕ))) → List Json
gap_values rings gaps accepted = map (λ one. gap_value (rings + (one.0 + 1)) one.1 (acceptance_at accepted one.0)) (enumerate_from 0 gaps)

-- all findings, rings before gaps. They are numbered from 1 by their place in this list, as in the lines of a check and in a picture
abbrev pub finding_values : BoardReport → List (Option (Bor (List ℕ))) → List (Option (Bor (List ℕ))) → List Json
finding_values report rings gaps =
    ring_values report.layers.items report.rings.items rings ++ gap_values (length report.rings.items) report.gaps.items gaps

-- the result of a report, by the number of its findings and of those that are waived: `pass` without findings, `waived` if all are, else `findings`
abbrev pub result_word : ℕ → ℕ → List ℕ
result_word findings waived = if findings == 0 then codes "pass" else if waived == findings then codes "waived" else codes "findings"

-- the result of a report, by the reasons why its rings and gaps are accepted
abbrev pub report_result : BoardReport → List (Option (Bor (List ℕ))) → List (Option (Bor (List ℕ))) → List ℕ
report_result report rings gaps = result_word (length report.rings.items + length report.gaps.items) (waived_in report rings gaps)

-- a report in a profile with such reasons: the manifest, the program, the rules, what drilling leaves of them, where it is said, the rules that are met, how many findings
-- the wide profile does not have, the files, the scales, and all findings, rings before gaps
unfoldable pub report_value : Profile → Particulars → List (List ℕ) → List FileSum → BoardReport → List (Option (Bor (List ℕ))) → List (Option (Bor (List ℕ))) → Json
report_value profile about names files report rings gaps =
    object_of (opening_in profile (report_result report rings gaps) ++ ((codes "manifest", word about.manifest.now) ∷ (codes "program", word about.program.now)
    ∷ (codes "rules", rules_value report.rules) ∷ (drilling_member report.rules about.drilling
    ++ ((codes "meets", meets_value report.meets) ∷ (codes "fewer_in_wide", fewer_value profile about.fewer)
    ∷ (codes "files", array_of (file_values profile names files)) ∷ (codes "scales", array_of (map scale_value report.scales.items))
    ∷ (codes "findings", array_of (finding_values report rings gaps)) ∷ []))))

-- a report with waivers, in the profile of its rules
abbrev pub waived_report_value : Particulars → List (List ℕ) → List FileSum → BoardReport → Acceptances → Json
waived_report_value about names files report accepted = report_value report.rules.profile about names files report accepted.rings.now accepted.gaps.now

-- a measure in a profile: the rules that are met, the files, the scales, the rows of rings, and the least gap of the board's holes
unfoldable pub measure_value : Profile → List (List ℕ) → BoardView → Measure → Json
measure_value profile names board measure =
    object_of (opening_in profile (codes "measured") ++ ((codes "meets", meets_value measure.meets) ∷ (codes "files", array_of (file_values profile names board.files))
    ∷ (codes "scales", array_of (map scale_value measure.scales.items)) ∷ (codes "rings", array_of (map row_value measure.rings.items))
    ∷ (codes "gap", or_null (least_gap_value board.files board.holes) measure.gap) ∷ []))

-- a refused file: `{..,"result":"refused","file":1,"name":"top","place":11,"byte":100,"reason":"BadWord"}`
abbrev pub refused_value : ℕ → List ℕ → Fault → Json
refused_value index name fault =
    object_of (first_members (codes "refused") ++ ((codes "file", whole (index + 1)) ∷ (codes "name", word name) ∷ (codes "place", whole fault.place)
    ∷ (codes "byte", whole fault.byte) ∷ (codes "reason", word (reason_name fault.reason)) ∷ []))

-- a refused manifest: `{..,"result":"refused","place":2,"reason":"BadRole"}`
abbrev pub refused_manifest_value : ℕ → Reason → Json
refused_manifest_value place reason = object_of (first_members (codes "refused") ++ ((codes "place", whole place) ∷ (codes "reason", word (reason_name reason)) ∷ []))

-- a file that cannot be read: `{..,"result":"device","file":2,"name":"pth"}`
abbrev pub device_value : ℕ → List ℕ → Json
device_value index name = object_of (first_members (codes "device") ++ ((codes "file", whole (index + 1)) ∷ (codes "name", word name) ∷ []))

-- a manifest that cannot be read: `{"format":"ringcheck","version":3,"result":"device"}`
abbrev pub manifest_device_value : Json
manifest_device_value = object_of (first_members (codes "device"))

-- the first members of an object about the file of waivers: `"format":"ringcheck","version":3,"result":"refused","waivers":true`
abbrev pub waivers_opening : List ℕ → List (List ℕ × Json)
waivers_opening result = first_members result ++ (codes "waivers", boolean true) ∷ []

-- a refused file of waivers: `{..,"result":"refused","waivers":true,"place":2,"reason":"EmptyName"}`
abbrev pub refused_waivers_value : ℕ → Reason → Json
refused_waivers_value place reason = object_of (waivers_opening (codes "refused") ++ ((codes "place", whole place) ∷ (codes "reason", word (reason_name reason)) ∷ []))

-- a file of waivers that cannot be read: `{"format":"ringcheck","version":3,"result":"device","waivers":true}`
abbrev pub waivers_device_value : Json
waivers_device_value = object_of (waivers_opening (codes "device"))

-- the object of a refusal, or of something that cannot be read
abbrev pub input_error_value : InputError → Json
input_error_value (stops.RefusedManifest place reason) = refused_manifest_value place reason
input_error_value (stops.Refused index name fault) = refused_value index name.now fault
input_error_value stops.ManifestDevice = manifest_device_value
input_error_value (stops.Device index name) = device_value index name.now
input_error_value (stops.RefusedWaivers place reason) = refused_waivers_value place reason
input_error_value stops.WaiversDevice = waivers_device_value
