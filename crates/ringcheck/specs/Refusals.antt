-- Why a package is refused, and what is printed of it (docs/FORMATS.md, The program).
use Rattle.std.specs.Prelude.{◌≡◌, ◌+◌, ◌++◌, ◌∷◌, ◌||◌, [], ℕ, Bool, List, Option, Some, None, codes, decimal, nat_eq, if◌then◌else◌}
use Rattle.std.specs.Io.KnownBytes.{Appends}
use Rattle.std.specs.List.{ends_with, flat_map}
use Rattle.std.specs.Str.{bytes_eq}
use Rattle.std.specs.Str.Lines.{lines}
use Rattle.ringcheck_files.specs.PageWords.{FitsScreen, HasHeading}
use Rattle.grid_units.specs.Ascii as ascii
use Rattle.grid_units.specs.Reasons.{reason_name}
use Rattle.grid_units.specs.declared.fault.Fault.{Fault}
use Rattle.grid_units.specs.declared.fault.Reason.{Reason}
use Rattle.print_json.specs.Packages.{refused_manifest_value, refused_value, refused_waivers_value}
use Rattle.print_json.specs.Values.{json_text}
use Rattle.ringcheck_files.specs.Containers.{archive_sentence}
use Rattle.ringcheck_files.specs.Words.{Says, sentence_line}
use Rattle.ringcheck_files.specs.Writers.{Written}
use Rattle.ringcheck.specs.declared.refusals.RefusalStyle.{RefusalStyle}
use Rattle.ringcheck.specs.declared.refusals.RefusalStyle.TheVariants as style

-- ---- refusals

-- what is refused, and why: the manifest, the file of waivers, or a file, by its index from 0 and its name; or a refusal of which a
-- sentence is said
pub data Refusal : Type 0 where
  of_manifest : Fault → Refusal
  of_waivers : Fault → Refusal
  of_file : ℕ → List ℕ → Fault → Refusal
  of_explained : List ℕ → Refusal → Refusal

-- the reason of a refusal, such as TooLong
abbrev pub reason_of : Refusal → Reason
reason_of (of_manifest why) = why.reason
reason_of (of_waivers why) = why.reason
reason_of (of_file index name why) = why.reason
reason_of (of_explained sentence why) = reason_of why

-- the line of a refusal, with files numbered from 1: `refused file=1 place=0 byte=0 reason=TooLong name=top`
abbrev pub refusal_line : Refusal → List ℕ
refusal_line (of_manifest why) = codes "refused manifest place=" ++ (decimal why.place ++ (codes " reason=" ++ (reason_name why.reason ++ ascii.line_feed ∷ [])))
refusal_line (of_waivers why) = codes "refused waivers place=" ++ (decimal why.place ++ (codes " reason=" ++ (reason_name why.reason ++ ascii.line_feed ∷ [])))
refusal_line (of_file index name why) =
    codes "refused file=" ++ (decimal (index + 1) ++ (codes " place=" ++ (decimal why.place ++ (codes " byte=" ++ (decimal why.byte
    ++ (codes " reason=" ++ (reason_name why.reason ++ (codes " name=" ++ (name ++ ascii.line_feed ∷ [])))))))))
refusal_line (of_explained sentence why) = refusal_line why

-- whether a file name ends as those of drill files often do
abbrev pub has_drill_end : List ℕ → Bool
has_drill_end file =
    ends_with nat_eq file (codes ".drl") || (ends_with nat_eq file (codes ".DRL") || (ends_with nat_eq file (codes ".xln") || (ends_with nat_eq file (codes ".XLN")
    || (ends_with nat_eq file (codes ".txt") || ends_with nat_eq file (codes ".TXT")))))

-- what to write in place of the role `?`, which `manifest` gives a file whose role the user has to choose
abbrev pub choice_for : List ℕ → List ℕ
choice_for file =
    if has_drill_end file then codes "write plated or unplated; for a file with holes of both kinds write mixed, and use --profile wide"
    else codes "write copper, plated or unplated, or leave the record out"

-- what to do about a role that is refused, in the record of this file
abbrev pub role_advice : List ℕ → List ℕ → List ℕ
role_advice role file =
    if bytes_eq role (codes "?") then choice_for file
    else if bytes_eq role (codes "mixed") then codes "use --profile wide, which alone has this role" else codes "roles are copper, plated and unplated, and with --profile wide mixed"

-- what is said of the record of this number, which is refused for its role: `record 4, board.drl: its role is "plted": roles are copper, ..`
abbrev pub role_sentence : ℕ → List ℕ → List ℕ → List ℕ
role_sentence number role file =
    codes "record " ++ (decimal number ++ (codes ", " ++ (file ++ (codes ": its role is \"" ++ (role ++ (codes "\": " ++ role_advice role file))))))

-- a refusal of what is a zip archive, by the name under which it was looked for
abbrev pub of_archive : List ℕ → Refusal → Refusal
of_archive name why = of_explained (archive_sentence name) why

-- the refusal of a manifest for the role of the record at the place of the fault, by that role and the file name of this record
abbrev pub of_role : List ℕ → List ℕ → Fault → Refusal
of_role role file why = of_explained (role_sentence why.place role file) (of_manifest why)

-- what is said of a refusal, if something is
abbrev pub sentence_of : Refusal → Option (List ℕ)
sentence_of (of_manifest why) = None
sentence_of (of_waivers why) = None
sentence_of (of_file index name why) = None
sentence_of (of_explained sentence why) = Some sentence

-- the line of a sentence, if there is one
abbrev pub line_of : Option (List ℕ) → List ℕ
line_of None = []
line_of (Some sentence) = sentence_line sentence

-- the JSON of a refusal: one object on one line (docs/FORMATS.md, JSON)
abbrev pub refusal_json : Refusal → List ℕ
refusal_json (of_manifest why) = json_text (refused_manifest_value why.place why.reason)
refusal_json (of_waivers why) = json_text (refused_waivers_value why.place why.reason)
refusal_json (of_file index name why) = json_text (refused_value index name why)
refusal_json (of_explained sentence why) = refusal_json why

-- a line of a page below a refusal: two spaces, the line, and LF
abbrev pub indented_row : List ℕ → List ℕ
indented_row row = codes "  " ++ (row ++ ascii.line_feed ∷ [])

-- the lines of a page, each after two spaces
abbrev pub indented_lines : List ℕ → List ℕ
indented_lines page = flat_map indented_row (lines page)

-- the text is a line with what is said below it and then the page of this reason, which begins with the reason's name and fits a screen
abbrev pub HasPage : Reason → List ℕ → List ℕ → List ℕ → Type 0
HasPage why line said text = (page : List ℕ) × HasHeading (reason_name why) page × FitsScreen page × (text ≡ line ++ (said ++ indented_lines page))

-- the text of a refusal in a style: its line, this line with what is said of it and the page of its reason below it, or its JSON
abbrev pub IsRefusalText : RefusalStyle → Refusal → List ℕ → Type 0
IsRefusalText style.Line why text = text ≡ refusal_line why
IsRefusalText style.Page why text = HasPage (reason_of why) (refusal_line why) (line_of (sentence_of why)) text
IsRefusalText style.Json why text = text ≡ refusal_json why

-- the writer got just the text of a refusal
abbrev pub WritesRefusal : RefusalStyle → Refusal → Option (List ℕ) → Option (List ℕ) → Type 0
WritesRefusal refusal_style why before after = (text : List ℕ) × IsRefusalText refusal_style why text × Appends before after text

-- a sentence that is said beside a text in this style, if there is one: the style of a page has it in the text itself
abbrev pub beside : RefusalStyle → Option (List ℕ) → Option (List ℕ)
beside style.Line sentence = sentence
beside style.Page sentence = None
beside style.Json sentence = sentence

-- just the text of a refusal was written, and beside it its sentence
abbrev pub PrintsRefusal : RefusalStyle → Refusal → Written → Written → Type 0
PrintsRefusal refusal_style why before after = WritesRefusal refusal_style why before.0 after.0 × Says (beside refusal_style (sentence_of why)) before.1 after.1
