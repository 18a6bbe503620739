-- The text of a value of JSON, member by member and item by item. It is that of its tokens.
use Rattle.std.specs.Prelude.{ℕ, ◌++◌, ◌==◌, true, false, List, [], ◌∷◌, codes, if◌then◌else◌, map, Option}
use Rattle.json.specs.Json.{Json, null, boolean, number, string, array, object, Items, no_items, item, Members, no_members, member}
use Rattle.json.specs.Print.{quoted}
use Rattle.grid_units.specs.declared.profile.Profile.{Profile}
use Rattle.std.specs.Borrow.{Bor}
use Rattle.report.specs.declared.Measure.{Measure}
use Rattle.board.specs.Boards.{BoardView}
use Rattle.board.specs.declared.FileSum.{FileSum}
use Rattle.report.specs.Causes.{flash_of, lack_of, ring_of}
use Rattle.report.specs.declared.RingCause.{RingCause}
use Rattle.report.specs.declared.BoardReport.{BoardReport}
use Rattle.report.specs.declared.Acceptances.{Acceptances}
use Rattle.print_text.specs.declared.report_text.Particulars.{Particulars}
use Rattle.print_json.specs.Packages.{fewer_value, file_values, finding_values, profile_value}
use Rattle.print_json.specs.declared.certificate.Certificate.{Certificate}
use Rattle.print_json.specs.Values.{array_of, cause_word, drilling_member, or_null, least_gap_value, meets_value, picometres, row_value, rules_value, scale_value, whole, acceptance_value, word}

abbrev mutual
  -- the text of a value
  pub value_text : Json → List ℕ
  value_text null = codes "null"
  value_text (boolean true) = codes "true"
  value_text (boolean false) = codes "false"
  value_text (number s) = s
  value_text (string s) = quoted s
  value_text (array js) = 91 ∷ items_text js
  value_text (object ms) = 123 ∷ members_text ms

  -- the first item and those after it, with the closing bracket
  pub items_text : Items → List ℕ
  items_text no_items = 93 ∷ []
  items_text (item j js) = value_text j ++ more_items js

  -- further items, each after a comma, with the closing bracket
  pub more_items : Items → List ℕ
  more_items no_items = 93 ∷ []
  more_items (item j js) = 44 ∷ (value_text j ++ more_items js)

  -- the first member and those after it, with the closing bracket
  pub members_text : Members → List ℕ
  members_text no_members = 125 ∷ []
  members_text (member k j ms) = quoted k ++ 58 ∷ (value_text j ++ more_members ms)

  -- further members, each after a comma, with the closing bracket
  pub more_members : Members → List ℕ
  more_members no_members = 125 ∷ []
  more_members (member k j ms) = 44 ∷ (quoted k ++ 58 ∷ (value_text j ++ more_members ms))

-- what stands before the item at a place: a comma, but not before the first
abbrev pub comma_before : ℕ → List ℕ
comma_before place = if place == 0 then [] else 44 ∷ []

-- those of an insufficient ring, by its cause and the reason why it is accepted
abbrev pub ring_rest : RingCause → Option (Bor (List ℕ)) → List (List ℕ × Json)
ring_rest cause why =
    (codes "has_pm", or_null picometres (ring_of cause)) ∷ (codes "lacks_pm", or_null picometres (lack_of cause)) ∷ (codes "cause", word (cause_word cause))
    ∷ (codes "flash", or_null whole (flash_of cause)) ∷ (codes "waived", acceptance_value why) ∷ []

-- those of a measure in a profile
abbrev pub measure_rest : Profile → List (List ℕ) → BoardView → Measure → List (List ℕ × Json)
measure_rest profile names board measure =
    (codes "files", array_of (file_values profile names board.files)) ∷ (codes "scales", array_of (map scale_value measure.scales.items))
    ∷ (codes "rings", array_of (map row_value measure.rings.items)) ∷ (codes "gap", or_null (least_gap_value board.files board.holes) measure.gap) ∷ []

-- those of a report with waivers in a profile
abbrev pub report_rest : Profile → Particulars → List (List ℕ) → List FileSum → BoardReport → Acceptances → List (List ℕ × Json)
report_rest profile about names files report accepted =
    (codes "meets", meets_value report.meets) ∷ (codes "fewer_in_wide", fewer_value profile about.fewer) ∷ (codes "files", array_of (file_values profile names files)) ∷ (codes "scales", array_of (map scale_value report.scales.items))
    ∷ (codes "findings", array_of (finding_values report accepted.rings.now accepted.gaps.now)) ∷ []

-- those after the rules
abbrev pub drilling_rest : Profile → Particulars → List (List ℕ) → List FileSum → BoardReport → Acceptances → List (List ℕ × Json)
drilling_rest profile about names files report accepted = drilling_member report.rules about.drilling ++ report_rest profile about names files report accepted

-- those from the manifest on
abbrev pub about_rest : Profile → Particulars → List (List ℕ) → List FileSum → BoardReport → Acceptances → List (List ℕ × Json)
about_rest profile about names files report accepted =
    (codes "manifest", word about.manifest.now) ∷ (codes "program", word about.program.now) ∷ (codes "rules", rules_value report.rules)
    ∷ drilling_rest profile about names files report accepted

-- those of what a check found from the profile on, by its certificate
abbrev pub certified_rest : Certificate → List (List ℕ × Json)
certified_rest it =
    (codes "profile", profile_value it.rules.profile) ∷ (codes "rules", rules_value it.rules)
    ∷ (codes "files", array_of (file_values it.rules.profile (map (λ name. name.now) it.names.now) it.files.now)) ∷ []
