-- What is said below the line of a refusal, in words: which word or file, why, and what to write instead (docs/FORMATS.md, The program).
use Rattle.std.specs.Prelude.{◌+◌, ◌++◌, ◌∷◌, ◌&&◌, [], ℕ, ℤ, Bool, true, not, is_ok, List, Option, Some, None, Result, Ok, Err, codes, decimal, if◌then◌else◌, is_some}
use Rattle.std.specs.Str.{bytes_eq}
use Rattle.grid_units.specs.Ascii as ascii
use Rattle.grid_units.specs.declared.fault.Reason.{Reason}
use Rattle.grid_units.specs.declared.fault.Reason.TheVariants as reasons
use Rattle.print_json.specs.Packages.{device_value, manifest_device_value, waivers_device_value}
use Rattle.print_json.specs.Values.{json_text}
use Rattle.ringcheck_files.specs.Containers.{folder_sentence}
use Rattle.ringcheck_files.specs.Sentences.{place_of_names}
use Rattle.ringcheck_files.specs.Words.{sentence_line}
use Rattle.ringcheck.specs.declared.refusals.RefusalStyle.{RefusalStyle}
use Rattle.ringcheck.specs.declared.refusals.RefusalStyle.TheVariants as style
use Rattle.ringcheck.specs.declared.refusals.UnreadWords.{UnreadWords}
use Rattle.ringcheck.specs.declared.refusals.Subject.{Subject}
use Rattle.ringcheck.specs.declared.refusals.Subject.TheVariants as subject
use Rattle.ringcheck.specs.ParsedWords.{parse_drilling, parse_length, parse_limit, parse_rules, profile_of, word_bytes}

-- ---- words

-- what a length is, where a word is none for this reason
abbrev pub length_words : Reason → List ℕ
length_words reasons.TooFine = codes "a length has at most eight decimals, e.g. 0.125"
length_words reasons.TooFar = codes "a length is at most 10000 mm"
length_words other = codes "give millimetres without a unit, e.g. 0.127 for 5 mil"

-- what is said of the value of an option that is no length: `--ring 5mil: give millimetres without a unit, e.g. 0.127 for 5 mil`
abbrev pub length_sentence : List ℕ → List ℕ → Reason → List ℕ
length_sentence option word why = option ++ (codes " " ++ (word ++ (codes ": " ++ length_words why)))

-- what is said of a length that an option names, or the other sentence where it is one
abbrev pub sentence_of_length : List ℕ → List ℕ → Result ℤ Reason → List ℕ → List ℕ
sentence_of_length option word (Ok length) other = other
sentence_of_length option word (Err why) other = length_sentence option word why

-- what is said of two options that are refused, each with the word for its length: of the first, of the second, or what both must be
abbrev pub lengths_sentence : List ℕ → List ℕ → List ℕ → List ℕ → List ℕ → List ℕ
lengths_sentence first one second other both =
    sentence_of_length first one (parse_length one) (sentence_of_length second other (parse_length other)
    (first ++ (codes " " ++ (one ++ (codes " " ++ (second ++ (codes " " ++ (other ++ (codes ": " ++ both)))))))))

-- what is said of words that name no rules: of the ring, of the gap, or of both, in this order
abbrev pub rules_sentence : List ℕ → List ℕ → List ℕ
rules_sentence ring gap = lengths_sentence (codes "--ring") ring (codes "--gap") gap (codes "the ring is 0 or more, and the gap is more than 0")

-- what is said of a word that is no number of findings
abbrev pub count_sentence : Option (List ℕ) → List ℕ
count_sentence None = codes "--max takes a number of one to nine digits, e.g. 20"
count_sentence (Some word) = codes "--max " ++ (word ++ codes ": give a number of one to nine digits, e.g. 20")

-- what is said of a word that is no format of a report: `--format must be text, html, json or waivers, not sarif`; or of `waivers`, which is one
abbrev pub report_format_sentence : Option (List ℕ) → List ℕ
report_format_sentence None = codes "--format must be text, html, json or waivers"
report_format_sentence (Some word) =
    if bytes_eq word (codes "waivers") then codes "--waive does not work with --format waivers, which prints a file of waivers" else codes "--format must be text, html, json or waivers, not " ++ word

-- what is said of a word that is no format of a measure
abbrev pub measure_format_sentence : Option (List ℕ) → List ℕ
measure_format_sentence None = codes "--format must be text or json"
measure_format_sentence (Some word) = codes "--format must be text or json, not " ++ word

-- what is said of a word that names no profile
abbrev pub profile_sentence : Option (List ℕ) → List ℕ
profile_sentence None = codes "--profile must be strict or wide"
profile_sentence (Some word) = codes "--profile must be strict or wide, not " ++ word

-- what is said of words that name no drilling: of a length alone, that it needs the other; else of the first, of the second, or of both, in this order
abbrev pub drilling_sentence : Option (List ℕ) → Option (List ℕ) → List ℕ
drilling_sentence (Some off) (Some wide) = lengths_sentence (codes "--drill-off") off (codes "--drill-wide") wide (codes "both are 0 or more")
drilling_sentence off wide = codes "--drill-off and --drill-wide are given together"

-- what is said of the words of a report that are refused, by the first of them that is; `outlined` says whether an outline is given
abbrev pub report_sentence : Option (List ℕ) → List ℕ → List ℕ → Option (List ℕ) → Option (List ℕ) → Option (List ℕ) → Bool → Option (List ℕ) → List ℕ
report_sentence profile ring gap off wide limit outlined form =
    if not (is_some (profile_of profile)) then profile_sentence profile
    else if not (is_ok (parse_rules ring gap)) then rules_sentence ring gap
    else if not (is_ok (parse_drilling off wide)) then drilling_sentence off wide
    else if not (is_ok (parse_limit limit)) then count_sentence limit
    else if outlined then codes "--outline works only with --format html and with draw" else report_format_sentence form

-- whether what is printed is for people who see it at once: not where the format is `html`, `json` or `waivers`, which go to a program or into a file
abbrev pub is_for_people : Option (List ℕ) → Bool
is_for_people None = true
is_for_people (Some word) = not (bytes_eq word (codes "html")) && (not (bytes_eq word (codes "json")) && not (bytes_eq word (codes "waivers")))

-- what is said of the words of a measure that are refused, by the first of them that is
abbrev pub measure_sentence : Option (List ℕ) → Option (List ℕ) → List ℕ
measure_sentence profile form = if is_some (profile_of profile) then measure_format_sentence form else profile_sentence profile

-- what is said of the rules of a picture that are refused: of a ring or a gap alone, that it needs the other
abbrev pub drawn_sentence : Option (List ℕ) → Option (List ℕ) → List ℕ
drawn_sentence (Some ring) (Some gap) = rules_sentence ring gap
drawn_sentence ring gap = codes "--ring and --gap are given together"

-- what is said of the words of a picture that are refused, by the first of them that is
abbrev pub draw_sentence : Option (List ℕ) → Option (List ℕ) → Option (List ℕ) → List ℕ
draw_sentence profile ring gap = if is_some (profile_of profile) then drawn_sentence ring gap else profile_sentence profile

-- and of those of a check
abbrev pub check_sentence : Option (List ℕ) → List ℕ → List ℕ → List ℕ
check_sentence profile ring gap = draw_sentence profile (Some ring) (Some gap)

-- ---- what cannot be read

-- the line of something that cannot be read: `device`, and of a file `device file=2 name=pth`
abbrev pub unread_line : Subject → List ℕ
unread_line subject.Manifest = codes "device\n"
unread_line subject.Waivers = codes "device\n"
unread_line (subject.File index name) = codes "device file=" ++ (decimal (index + 1) ++ (codes " name=" ++ (name.now ++ ascii.line_feed ∷ [])))

-- what is said of a folder by the name under which a file was looked for: `boards is a folder: ringcheck reads files; ..`
abbrev pub found_folder_sentence : Subject → List ℕ → List ℕ
found_folder_sentence subject.Manifest path = folder_sentence path
found_folder_sentence subject.Waivers path = path ++ codes " is a folder: name a file of waivers"
found_folder_sentence (subject.File index name) path = path ++ (codes ", the file of " ++ (name.now ++ codes ", is a folder: a manifest must name files"))

-- what is said of something else that cannot be read: `cannot read the manifest x.csv: file names are taken from the working directory`
abbrev pub unread_sentence : Subject → List ℕ → Option (List ℕ) → List ℕ
unread_sentence subject.Manifest path folder = codes "cannot read the manifest " ++ (path ++ (codes ": file names are taken from " ++ place_of_names folder))
unread_sentence subject.Waivers path folder = codes "cannot read the file of waivers " ++ (path ++ (codes ": file names are taken from " ++ place_of_names folder))
unread_sentence (subject.File index name) path folder =
    codes "cannot read " ++ (path ++ (codes ", the file of " ++ (name.now ++ (codes ": file names are taken from " ++ place_of_names folder))))

-- the JSON of something that cannot be read: one object on one line (docs/FORMATS.md, JSON)
abbrev pub unread_json : Subject → List ℕ
unread_json subject.Manifest = json_text manifest_device_value
unread_json subject.Waivers = json_text waivers_device_value
unread_json (subject.File index name) = json_text (device_value index name.now)

-- what is said of something that cannot be read, which may be a folder
abbrev pub unread_words : UnreadWords → List ℕ
unread_words words =
    if words.is_folder then found_folder_sentence words.subject words.path.now else unread_sentence words.subject words.path.now (word_bytes words.folder)

-- the text of something that cannot be read, in a style: its line, this line with the sentence below it, or its JSON
abbrev pub unread_text : RefusalStyle → UnreadWords → List ℕ
unread_text style.Line words = unread_line words.subject
unread_text style.Page words = unread_line words.subject ++ sentence_line (unread_words words)
unread_text style.Json words = unread_json words.subject
