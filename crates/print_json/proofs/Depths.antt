-- The depth to which values nest.
use Rattle.print_json.proofs.Common.{◌≤◌, ◌+◌, ◌++◌, ℕ, suc, true, false, List, [], ◌∷◌, Option, Some, None, arith, length, map, All, enumerate_from, Json, max_depth, depth, items_depth, members_depth, GapLack, RingLack, drill_value, mixed_value, file_value, gap_value, hole_value, hole_at_place, array_of, or_null, items_of, members_of, layer_number, layer_value, least_gap_value, least_hole, least_ring, meets_value, met_value, picometres, place_value, point_value, ring_value, row_value, rules_value, scale_value, span_value, whole, acceptance_value, word, wide_layer_value, file_values, gap_values, measure_value, ring_values, input_error_value, report_value}
use Rattle.std.specs.Borrow.{Bor}
use Rattle.std.specs.Prelude.{codes, ⊤}
use Rattle.grid_units.specs.declared.profile.Profile.{Profile}
use Rattle.grid_units.specs.declared.profile.Profile.TheVariants.{Strict, Wide}
use Rattle.std.proofs.lemmas.List.Elements.{All-append, All-map}
use Rattle.grid_units.specs.Spans.{LayerSpan}
use Rattle.board.specs.declared.met.Met.{Met}
use Rattle.board.specs.declared.met.Met.TheVariants as mets
use Rattle.report.specs.declared.GapLine.{GapLine}
use Rattle.report.specs.declared.HolePlace.{HolePlace}
use Rattle.report.specs.declared.Meets.{Meets}
use Rattle.report.specs.declared.RingLine.{RingLine}
use Rattle.report.specs.declared.UnitMistake.{UnitMistake}
use Rattle.report.specs.declared.Measure.{Measure}
use Rattle.board.specs.Boards.{BoardView}
use Rattle.board.specs.declared.FileSum.{FileSum}
use Rattle.board.specs.declared.FileSum.TheVariants as sums
use Rattle.report.specs.declared.PlacedHole.{PlacedHole}
use Rattle.report.specs.declared.LayerHead.{LayerHead}
use Rattle.report.specs.declared.BoardReport.{BoardReport}
use Rattle.print_text.specs.declared.report_text.Particulars.{Particulars}
use Rattle.grid_units.specs.HoleWords.{name_of}
use Rattle.report.specs.Acceptances.{acceptance_at}
use Rattle.ring_rules.specs.declared.finding.Drilled.{Drilled}
use Rattle.report.specs.Causes.{flash_of, lack_of, ring_of}
use Rattle.grid_units.specs.Holes.{GridRules}
use Rattle.print_json.specs.Certificates.{certificate_value, digest_value, file_digest_value, predicate_value}
use Rattle.print_json.specs.Packages.{fewer_value, finding_values, profile_value}
use Rattle.print_json.specs.Values.{drilling_member, drilling_value}
use Rattle.print_text.specs.Drilling.{DrillBounds, gap_left, ring_left}
use Rattle.print_json.specs.declared.refused.InputError.{InputError}
use Rattle.print_json.specs.declared.refused.InputError.TheVariants as stops

-- the depth of an array
items_within : (d : ℕ) (vs : List Json) → All (λ v. depth v ≤ d) vs → items_depth (items_of vs) ≤ d
items_within d [] h = omega arith
items_within d (v ∷ vs) h = let first : depth v ≤ d = h 0 v (omega arith) in let rest = items_within d vs (λ k e l. h (suc k) e (omega arith)) in omega arith

-- each member nests no deeper
abbrev AreWithin : ℕ → List (List ℕ × Json) → Type 0
AreWithin d [] = ⊤
AreWithin d (one ∷ rest) = (depth one.1 ≤ d) × AreWithin d rest

-- the depth of an object
members_within : (d : ℕ) (all : List (List ℕ × Json)) → AreWithin d all → members_depth (members_of all) ≤ d
members_within d [] h = omega arith
members_within d (one ∷ rest) h = let more = members_within d rest h.1 in omega (arith, h.0)

-- the depth of the values of some things
each_within : {X : Type 0} (value : X → Json) (d : ℕ) → ((x : X) → depth (value x) ≤ d) → (xs : List X) → items_depth (items_of (map value xs)) ≤ d
each_within value d h xs = items_within d (map value xs) (All-map (λ v. depth v ≤ d) value xs (λ k e l. h _))

-- an optional value
there_within : {A : Type 0} (d : ℕ) (value : A → Json) → ((a : A) → depth (value a) ≤ d) → (there : Option A) → depth (or_null value there) ≤ d
there_within d value h None = omega arith
there_within d value h (Some a) = h a

met_within : (d : ℕ) (met : Met) → depth (met_value met) ≤ d
met_within d mets.Any = omega arith
met_within d (mets.UpTo length) = omega arith
met_within d mets.None = omega arith

hole_within : (at : PlacedHole) → depth (hole_value at) ≤ 2
unfolding hole_value point_value
hole_within at = omega arith

span_within : (span : Option LayerSpan) → depth (span_value span) ≤ 1
span_within span = there_within 1 (λ layers. array_of (whole layers.first ∷ whole layers.last ∷ [])) (λ layers. omega arith) span

file_within : (profile : Profile) (n : ℕ) (name : List ℕ) (sum : FileSum) → depth (file_value profile n name sum) ≤ 2
unfolding layer_value wide_layer_value drill_value mixed_value
file_within Strict n name (sums.Layer pads other contours) = omega arith
file_within Wide n name (sums.Layer pads other contours) = omega arith
file_within profile n name (sums.Drill plated span true round slots) = let layers = span_within span in omega (arith, layers)
file_within profile n name (sums.Drill plated span false round slots) = let layers = span_within span in omega (arith, layers)
file_within profile n name (sums.Mixed span round slots unplated) = let layers = span_within span in omega (arith, layers)

scale_within : (line : UnitMistake) → depth (scale_value line) ≤ 1
unfolding scale_value
scale_within line = omega arith

meets_within : (meets : Meets) → depth (meets_value meets) ≤ 1
unfolding meets_value
meets_within meets =
    let inner = members_within 0 ((codes "ring_pm", met_value meets.ring) ∷ (codes "gap_pm", met_value meets.gap) ∷ (codes "held_pm", met_value meets.in_pads) ∷ [])
    (met_within 0 meets.ring, (met_within 0 meets.gap, (met_within 0 meets.in_pads, tt))) in
    omega (arith, inner)

row_within : (line : RingLine) → depth (row_value line) ≤ 1
unfolding row_value
row_within line =
    let ring = there_within 0 picometres (λ n. omega arith) (least_ring line) in
    let hole = there_within 0 whole (λ n. omega arith) (least_hole line) in
    omega (arith, ring, hole)

why_within : (why : Option (Bor (List ℕ))) → depth (acceptance_value why) ≤ 0
why_within why = there_within 0 (λ (there : Bor (List ℕ)). word there.now) (λ there. omega arith) why

ring_within : (layers : List LayerHead) (number : ℕ) (lack : RingLack) (why : Option (Bor (List ℕ))) → depth (ring_value layers number lack why) ≤ 3
unfolding ring_value
ring_within layers number lack why =
    let layer = there_within 0 whole (λ n. omega arith) (layer_number layers lack.layer) in
    let at = hole_within lack.at in
    let ring = there_within 0 picometres (λ n. omega arith) (ring_of lack.cause) in
    let less = there_within 0 picometres (λ n. omega arith) (lack_of lack.cause) in
    let flash = there_within 0 whole (λ n. omega arith) (flash_of lack.cause) in
    let waived = why_within why in
    omega (arith, layer, at, ring, less, flash, waived)

gap_within : (number : ℕ) (lack : GapLack) (why : Option (Bor (List ℕ))) → depth (gap_value number lack why) ≤ 3
unfolding gap_value
gap_within number lack why = let first = hole_within lack.first in let second = hole_within lack.second in let waived = why_within why in omega (arith, first, second, waived)

place_within : (files : List FileSum) (holes : List Drilled) (place : HolePlace) → depth (place_value files holes place) ≤ 2
place_within files holes place =
    there_within 2 (λ drilled. hole_value (record { place = place; hole = drilled.hole }))
    (λ drilled. hole_within (record { place = place; hole = drilled.hole })) (hole_at_place files holes place)

least_gap_within : (files : List FileSum) (holes : List Drilled) (line : GapLine) → depth (least_gap_value files holes line) ≤ 3
unfolding least_gap_value
least_gap_within files holes line = let first = place_within files holes line.first in let second = place_within files holes line.second in omega (arith, first, second)

-- the depth of the files
files_within : (profile : Profile) (names : List (List ℕ)) (files : List FileSum) → items_depth (items_of (file_values profile names files)) ≤ 2
files_within profile names files = each_within (λ file. file_value profile (file.0 + 1) (name_of names file.0) file.1) 2 (λ file. file_within profile (file.0 + 1) (name_of names file.0) file.1) (enumerate_from 0 files)

-- the depth of the findings
rings_within : (layers : List LayerHead) (rings : List RingLack) (accepted : List (Option (Bor (List ℕ)))) → All (λ v. depth v ≤ 3) (ring_values layers rings accepted)
rings_within layers rings accepted =
    All-map (λ v. depth v ≤ 3) (λ (one : ℕ × RingLack). ring_value layers (one.0 + 1) one.1 (acceptance_at accepted one.0)) (enumerate_from 0 rings) (λ k d l. ring_within layers _ _ _)

gaps_within : (before : ℕ) (gaps : List GapLack) (accepted : List (Option (Bor (List ℕ)))) → All (λ v. depth v ≤ 3) (gap_values before gaps accepted)
gaps_within before gaps accepted =
    All-map (λ v. depth v ≤ 3) (λ (one : ℕ × GapLack). gap_value (before + (one.0 + 1)) one.1 (acceptance_at accepted one.0)) (enumerate_from 0 gaps) (λ k d l. gap_within _ _ _)

-- the depth of what drilling leaves
drilling_within : (rules : GridRules) (drilling : DrillBounds) → depth (drilling_value rules drilling) ≤ 1
unfolding drilling_value
drilling_within rules drilling =
    let ring = there_within 0 picometres (λ n. omega arith) (ring_left rules drilling) in
    let gap = there_within 0 picometres (λ n. omega arith) (gap_left rules drilling) in
    omega (arith, ring, gap)

-- the member for it nests no deeper than those after it
drilled_within : (rules : GridRules) (drilling : Option DrillBounds) (d : ℕ) (rest : List (List ℕ × Json)) → members_depth (members_of rest) ≤ d → 1 ≤ d
    → members_depth (members_of (drilling_member rules drilling ++ rest)) ≤ d
drilled_within rules None d rest h one = h
drilled_within rules (Some drilling) d rest h one = let value = drilling_within rules drilling in omega (arith, value, h, one)

-- the members of a report after what drilling leaves
abbrev after_drilling : Profile → Particulars → List (List ℕ) → List FileSum → BoardReport → List (Option (Bor (List ℕ))) → List (Option (Bor (List ℕ))) → List (List ℕ × Json)
after_drilling profile about names files report of_rings of_gaps =
    (codes "meets", meets_value report.meets) ∷ (codes "fewer_in_wide", fewer_value profile about.fewer)
    ∷ (codes "files", array_of (file_values profile names files)) ∷ (codes "scales", array_of (map scale_value report.scales.items))
    ∷ (codes "findings", array_of (finding_values report of_rings of_gaps)) ∷ []

fewer_within : (profile : Profile) (fewer : ℕ) → depth (fewer_value profile fewer) ≤ 0
fewer_within Strict fewer = omega arith
fewer_within Wide fewer = omega arith

after_within : (profile : Profile) (about : Particulars) (names : List (List ℕ)) (files : List FileSum) (report : BoardReport) (of_rings of_gaps : List (Option (Bor (List ℕ)))) → members_depth (members_of (after_drilling profile about names files report of_rings of_gaps)) ≤ 4
after_within profile about names files report of_rings of_gaps =
    let meets = meets_within report.meets in
    let fewer = fewer_within profile about.fewer in
    let named = files_within profile names files in
    let scales = each_within scale_value 1 scale_within report.scales.items in
    let rings = ring_values report.layers.items report.rings.items of_rings in
    let before = length report.rings.items in
    let found = items_within 3 (rings ++ gap_values before report.gaps.items of_gaps)
    (All-append (λ v. depth v ≤ 3) rings (gap_values before report.gaps.items of_gaps) (rings_within report.layers.items report.rings.items of_rings) (gaps_within before report.gaps.items of_gaps)) in
    omega (arith, meets, fewer, named, scales, found)

-- the depth of a report
pub report_within : (profile : Profile) (about : Particulars) (names : List (List ℕ)) (files : List FileSum) (report : BoardReport) (of_rings of_gaps : List (Option (Bor (List ℕ)))) → depth (report_value profile about names files report of_rings of_gaps) ≤ max_depth
unfolding report_value rules_value
report_within Strict about names files report of_rings of_gaps =
    let after = after_within Strict about names files report of_rings of_gaps in
    let drilled = drilled_within report.rules about.drilling 4 (after_drilling Strict about names files report of_rings of_gaps) after (omega arith) in
    omega (arith, drilled)
report_within Wide about names files report of_rings of_gaps =
    let after = after_within Wide about names files report of_rings of_gaps in
    let drilled = drilled_within report.rules about.drilling 4 (after_drilling Wide about names files report of_rings of_gaps) after (omega arith) in
    omega (arith, drilled)

-- the depth of a measure
pub measure_within : (profile : Profile) (names : List (List ℕ)) (board : BoardView) (measure : Measure) → depth (measure_value profile names board measure) ≤ max_depth
unfolding measure_value
measure_within Strict names board measure =
    let meets = meets_within measure.meets in
    let named = files_within Strict names board.files in
    let scales = each_within scale_value 1 scale_within measure.scales.items in
    let rows = each_within row_value 1 row_within measure.rings.items in
    let gap = there_within 3 (least_gap_value board.files board.holes) (least_gap_within board.files board.holes) measure.gap in
    omega (arith, meets, named, scales, rows, gap)
measure_within Wide names board measure =
    let meets = meets_within measure.meets in
    let named = files_within Wide names board.files in
    let scales = each_within scale_value 1 scale_within measure.scales.items in
    let rows = each_within row_value 1 row_within measure.rings.items in
    let gap = there_within 3 (least_gap_value board.files board.holes) (least_gap_within board.files board.holes) measure.gap in
    omega (arith, meets, named, scales, rows, gap)

profile_within : (profile : Profile) → depth (profile_value profile) ≤ 0
profile_within Strict = omega arith
profile_within Wide = omega arith

-- the depth of a refusal
pub stop_within : (stop : InputError) → depth (input_error_value stop) ≤ max_depth
stop_within (stops.RefusedManifest place reason) = omega arith
stop_within (stops.Refused index name fault) = omega arith
stop_within stops.ManifestDevice = omega arith
stop_within (stops.Device index name) = omega arith
stop_within (stops.RefusedWaivers place reason) = omega arith
stop_within stops.WaiversDevice = omega arith

digest_within : (file : List ℕ × List ℕ) → depth (file_digest_value file) ≤ 2
unfolding file_digest_value digest_value
digest_within file = omega arith

-- the depth of a certificate
pub certificate_within : (program : List ℕ) (rules : GridRules) (subjects : List (List ℕ × List ℕ)) (manifest : List ℕ × List ℕ) (names : List (List ℕ)) (files : List FileSum) → depth (certificate_value program rules subjects manifest names files) ≤ max_depth
unfolding certificate_value predicate_value rules_value
certificate_within program rules subjects manifest names files =
    let given = each_within file_digest_value 2 digest_within subjects in
    let by = digest_within manifest in
    let profile = profile_within rules.profile in
    let named = files_within rules.profile names files in
    omega (arith, given, by, profile, named)
