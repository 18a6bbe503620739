-- The program's command line, as a command of the crate `clap` (docs/FORMATS.md, The program).
use Rattle.std.specs.Prelude.{◌≡◌, ◌≢◌, ◌==◌, ◌&&◌, Bool, true, false, not, List, [], ◌∷◌, ◌++◌, length, map, codes, Some, None, Option, option_map, Result, Ok, Err}
use Rattle.std.specs.List.{list_all}
use Rattle.clap.specs.Lexer.{usize_max}
use Rattle.clap.specs.Words.{App, Row, Rule, Text, all_of, fault_of, first_of, new_app, new_rule, one_of, subcommand_of, with_rule, with_subcommand}
use Rattle.clap.specs.Kinds.{IsAmong}
use Rattle.clap.specs.declared.builder.action.ArgAction.TheVariants.{Append, Set, SetTrue}
use Rattle.clap.specs.declared.error.kind.ErrorKind.{ErrorKind}
use Rattle.clap.specs.declared.error.kind.ErrorKind.TheVariants.{DisplayHelp, DisplayVersion}
use Rattle.command_line.specs.declared.CheckWords.{CheckWords}
use Rattle.command_line.specs.declared.CommandLine.{CommandLine}
use Rattle.command_line.specs.declared.Request.{Request}
use Rattle.command_line.specs.declared.Request.TheVariants.{Check, Certify, Verify, Measure, Report, Draw, Show, Rewrite, Manifest, Explain}
use Rattle.command_line.specs.declared.Refusal.{Refusal}
use Rattle.command_line.specs.declared.Refusal.TheVariants.{Help, Version, Usage, Memory}

-- ---- the commands

-- a required argument by its position, such as `MANIFEST`
abbrev pub positional : Text → Rule
positional id = record (new_rule id) { required = true; action = Some Set; value_names = 1 }

-- a required option with one value, such as `--ring MM`
abbrev pub option : Text → Rule
option id = record (positional id) { long = Some id }

-- an argument by its position that may be left out, such as `[WORD]`
abbrev pub optional : Text → Rule
optional id = record (new_rule id) { action = Some Set; value_names = 1 }

-- an option with one value that may be left out, such as `[--max N]`
abbrev pub optional_option : Text → Rule
optional_option id = record (optional id) { long = Some id }

-- one required argument by its position, or more of them, such as `FILE..`
abbrev pub one_or_more : Text → Rule
one_or_more id = record (new_rule id) { required = true; action = Some Append; range = Some (record { start_inclusive = 1; end_inclusive = usize_max }); value_names = 1 }

-- an option without a value, such as `[--why]`
abbrev pub flag : Text → Rule
flag id = record (new_rule id) { long = Some id; action = Some SetTrue }

-- the option for the folder from which names are taken: `[--in FOLDER]`
abbrev pub folder_option : Rule
folder_option = optional_option (codes "in")

-- the command of a name that puts a package under rules: `NAME --ring MM --gap MM [--profile strict|wide] [--in FOLDER] MANIFEST`
abbrev pub rules_app : Text → App
rules_app name =
    with_rule (with_rule (with_rule (with_rule (with_rule (new_app name) (option (codes "ring"))) (option (codes "gap"))) (optional_option (codes "profile")))
    folder_option) (positional (codes "manifest"))

-- `check --ring MM --gap MM [--profile strict|wide] [--in FOLDER] MANIFEST`
abbrev pub check_app : App
check_app = rules_app (codes "check")

-- `certify --ring MM --gap MM [--profile strict|wide] [--in FOLDER] MANIFEST`
abbrev pub certify_app : App
certify_app = rules_app (codes "certify")

-- `verify [--in FOLDER] CERTIFICATE`
abbrev pub verify_app : App
verify_app = with_rule (with_rule (new_app (codes "verify")) folder_option) (positional (codes "certificate"))

-- `measure [--profile strict|wide] [--format text|json] [--in FOLDER] MANIFEST`
abbrev pub measure_app : App
measure_app =
    with_rule (with_rule (with_rule (with_rule (new_app (codes "measure")) (optional_option (codes "profile"))) (optional_option (codes "format"))) folder_option)
    (positional (codes "manifest"))

-- `report --ring MM --gap MM [--drill-off MM --drill-wide MM] [--profile strict|wide] [--max N] [--waive FILE] [--outline FILE] [--format text|html|json|waivers] [--exit-zero] [--in FOLDER] MANIFEST`
abbrev pub report_app : App
report_app =
    with_rule (with_rule (with_rule (with_rule (with_rule (with_rule (with_rule (with_rule (with_rule (with_rule (with_rule (with_rule (new_app (codes "report"))
    (option (codes "ring"))) (option (codes "gap"))) (optional_option (codes "drill-off"))) (optional_option (codes "drill-wide")))
    (optional_option (codes "profile"))) (optional_option (codes "max"))) (optional_option (codes "waive"))) (optional_option (codes "outline")))
    (optional_option (codes "format"))) (flag (codes "exit-zero"))) folder_option) (positional (codes "manifest"))

-- `draw [--ring MM --gap MM] [--profile strict|wide] [--outline FILE] [--in FOLDER] MANIFEST`
abbrev pub draw_app : App
draw_app =
    with_rule (with_rule (with_rule (with_rule (with_rule (with_rule (new_app (codes "draw")) (optional_option (codes "ring"))) (optional_option (codes "gap"))) (optional_option (codes "profile"))) (optional_option (codes "outline")))
    folder_option) (positional (codes "manifest"))

-- `show --kind layer|drill [--profile strict|wide] [--in FOLDER] FILE`
abbrev pub show_app : App
show_app = with_rule (with_rule (with_rule (with_rule (new_app (codes "show")) (option (codes "kind"))) (optional_option (codes "profile"))) folder_option) (positional (codes "file"))

-- `rewrite --kind layer|drill [--in FOLDER] FILE`
abbrev pub rewrite_app : App
rewrite_app = with_rule (with_rule (with_rule (new_app (codes "rewrite")) (option (codes "kind"))) folder_option) (positional (codes "file"))

-- `manifest [--why] [--profile strict|wide] [--in FOLDER] FILE..`
abbrev pub manifest_app : App
manifest_app = with_rule (with_rule (with_rule (with_rule (new_app (codes "manifest")) (flag (codes "why"))) (optional_option (codes "profile"))) folder_option) (one_or_more (codes "file"))

-- `explain [WORD]`
abbrev pub explain_app : App
explain_app = with_rule (new_app (codes "explain")) (optional (codes "word"))

-- the program without its commands: it has a version, its words come without its name, and they must begin with a command
abbrev pub program_app : App
program_app = let bare = new_app (codes "ringcheck") in record bare { top = record bare.top { no_binary_name = true; subcommand_required = true; has_version = true } }

-- the program with its ten commands
abbrev pub ringcheck_app : App
ringcheck_app =
    with_subcommand (with_subcommand (with_subcommand (with_subcommand (with_subcommand
    (with_subcommand (with_subcommand (with_subcommand (with_subcommand (with_subcommand program_app
    check_app.top) report_app.top) measure_app.top) draw_app.top) certify_app.top) verify_app.top) manifest_app.top) explain_app.top)
    show_app.top) rewrite_app.top

-- ---- what any words ask for

-- whether an option without a value is on, by the value that `clap` gives it; where it gives none it is off
pub record IsFlagValue (text : Option Text) (on : Bool) : Type 0 where
  pub yes : text ≡ Some (codes "true") → on ≡ true
  pub no : text ≡ Some (codes "false") → on ≡ false
  pub none : text ≡ None → on ≡ false

-- the options of a check are the first values of the ring, the gap and the profile
abbrev pub AreOptionsOf : List Row → CheckWords → Type 0
AreOptionsOf rows options =
    (first_of (codes "ring") rows ≡ Some options.ring.now) × (first_of (codes "gap") rows ≡ Some options.gap.now)
    × (first_of (codes "profile") rows ≡ option_map (λ p. p.now) options.profile)

-- the request is that of the command that `clap` finds, with the first value of each option, and the file or files
abbrev pub IsRequestOf : Option (Text × List Row) → Request → Type 0
IsRequestOf None request = ⊥
IsRequestOf (Some (name, rows)) (Check options manifest) =
    (name ≡ codes "check") × AreOptionsOf rows options × (first_of (codes "manifest") rows ≡ Some manifest.now)
IsRequestOf (Some (name, rows)) (Certify options manifest) =
    (name ≡ codes "certify") × AreOptionsOf rows options × (first_of (codes "manifest") rows ≡ Some manifest.now)
IsRequestOf (Some (name, rows)) (Verify certificate) = (name ≡ codes "verify") × (first_of (codes "certificate") rows ≡ Some certificate.now)
IsRequestOf (Some (name, rows)) (Measure profile format manifest) =
    (name ≡ codes "measure") × (first_of (codes "profile") rows ≡ option_map (λ p. p.now) profile)
    × (first_of (codes "format") rows ≡ option_map (λ f. f.now) format) × (first_of (codes "manifest") rows ≡ Some manifest.now)
IsRequestOf (Some (name, rows)) (Report options manifest) =
    (name ≡ codes "report") × (first_of (codes "ring") rows ≡ Some options.ring.now) × (first_of (codes "gap") rows ≡ Some options.gap.now)
    × (first_of (codes "drill-off") rows ≡ option_map (λ o. o.now) options.drill_off) × (first_of (codes "drill-wide") rows ≡ option_map (λ w. w.now) options.drill_wide)
    × (first_of (codes "profile") rows ≡ option_map (λ p. p.now) options.profile) × (first_of (codes "max") rows ≡ option_map (λ n. n.now) options.limit)
    × (first_of (codes "waive") rows ≡ option_map (λ w. w.now) options.waive) × (first_of (codes "outline") rows ≡ option_map (λ o. o.now) options.outline)
    × (first_of (codes "format") rows ≡ option_map (λ f. f.now) options.format) × IsFlagValue (one_of (codes "exit-zero") rows) options.exit_zero
    × (first_of (codes "manifest") rows ≡ Some manifest.now)
IsRequestOf (Some (name, rows)) (Draw options manifest) =
    (name ≡ codes "draw") × (first_of (codes "ring") rows ≡ option_map (λ r. r.now) options.ring) × (first_of (codes "gap") rows ≡ option_map (λ g. g.now) options.gap)
    × (first_of (codes "profile") rows ≡ option_map (λ p. p.now) options.profile) × (first_of (codes "outline") rows ≡ option_map (λ o. o.now) options.outline) × (first_of (codes "manifest") rows ≡ Some manifest.now)
IsRequestOf (Some (name, rows)) (Show kind profile file) =
    (name ≡ codes "show") × (first_of (codes "kind") rows ≡ Some kind.now) × (first_of (codes "profile") rows ≡ option_map (λ p. p.now) profile)
    × (first_of (codes "file") rows ≡ Some file.now)
IsRequestOf (Some (name, rows)) (Rewrite kind file) =
    (name ≡ codes "rewrite") × (first_of (codes "kind") rows ≡ Some kind.now) × (first_of (codes "file") rows ≡ Some file.now)
IsRequestOf (Some (name, rows)) (Manifest why profile files) =
    (name ≡ codes "manifest") × IsFlagValue (one_of (codes "why") rows) why × (first_of (codes "profile") rows ≡ option_map (λ p. p.now) profile)
    × (all_of (codes "file") rows ≡ Some (map (λ file. file.now) files.items))
IsRequestOf (Some (name, rows)) (Explain word) = (name ≡ codes "explain") × (first_of (codes "word") rows ≡ option_map (λ w. w.now) word)

-- the line has the request of the command that `clap` finds, and the folder that its words name, or none
abbrev pub IsLineOf : Option (Text × List Row) → CommandLine → Type 0
IsLineOf None line = ⊥
IsLineOf (Some (name, rows)) line = (first_of (codes "in") rows ≡ option_map (λ f. f.now) line.folder) × IsRequestOf (Some (name, rows)) line.request

-- the answer to the words of a line, running out of memory aside: a request, with its folder, just where `clap` finds no fault in them,
-- help or the version where it finds these asked for, and a usage error where it finds another fault
abbrev pub ParsesLine : List Text → Result CommandLine Refusal → Type 0
ParsesLine words (Ok line) = (fault_of ringcheck_app words ≡ []) × IsLineOf (subcommand_of ringcheck_app words) line
ParsesLine words (Err (Help text)) = IsAmong DisplayHelp (fault_of ringcheck_app words)
ParsesLine words (Err Version) = IsAmong DisplayVersion (fault_of ringcheck_app words)
ParsesLine words (Err (Usage text)) = (kind : ErrorKind) × IsAmong kind (fault_of ringcheck_app words) × (kind ≢ DisplayHelp) × (kind ≢ DisplayVersion)
ParsesLine words (Err Memory) = Unit {0}

-- ---- what the words of a check, of a certificate and of its verification ask for

-- whether a word is plain: it is not empty and does not begin with `-`, the byte 45
abbrev pub is_plain_word : Text → Bool
is_plain_word [] = false
is_plain_word (x ∷ xs) = not (x == 45)

-- whether a word that may be left out is plain where it is there
abbrev pub is_plain_if_some : Option Text → Bool
is_plain_if_some None = true
is_plain_if_some (Some word) = is_plain_word word

-- an option and its value where there is a value, and else no words
abbrev pub option_words : Text → Option Text → List Text
option_words name None = []
option_words name (Some value) = name ∷ value ∷ []

-- an option without a value where it is given, and else no words
abbrev pub flag_words : Text → Bool → List Text
flag_words name true = name ∷ []
flag_words name false = []

-- the words `NAME --ring R --gap G [--profile P] [--in F] M`
abbrev pub rules_words : Text → Text → Text → Option Text → Option Text → Text → List Text
rules_words name ring gap profile folder manifest =
    name ∷ codes "--ring" ∷ ring ∷ codes "--gap" ∷ gap ∷ (option_words (codes "--profile") profile ++ (option_words (codes "--in") folder ++ manifest ∷ []))

-- the words `check --ring R --gap G [--profile P] [--in F] M`
abbrev pub check_words : Text → Text → Option Text → Option Text → Text → List Text
check_words ring gap profile folder manifest = rules_words (codes "check") ring gap profile folder manifest

-- the words `certify --ring R --gap G [--profile P] [--in F] M`
abbrev pub certify_words : Text → Text → Option Text → Option Text → Text → List Text
certify_words ring gap profile folder manifest = rules_words (codes "certify") ring gap profile folder manifest

-- the words `verify [--in F] C`
abbrev pub verify_words : Option Text → Text → List Text
verify_words folder certificate = codes "verify" ∷ (option_words (codes "--in") folder ++ certificate ∷ [])

-- the options have just this ring and gap, and just this word for a profile or none
abbrev pub HaveRules : Text → Text → Option Text → CheckWords → Type 0
HaveRules r g p options = (options.ring.now ≡ r) × (options.gap.now ≡ g) × (option_map (λ w. w.now) options.profile ≡ p)

-- the request is a check with just this ring, gap and manifest, and just this word for a profile or none
abbrev pub IsCheck : Text → Text → Option Text → Text → Request → Type 0
IsCheck r g p m (Check options manifest) = HaveRules r g p options × (manifest.now ≡ m)
IsCheck r g p m _ = ⊥

-- the request is for a certificate under just this ring and gap of the package of this manifest, and just this word for a profile or none
abbrev pub IsCertify : Text → Text → Option Text → Text → Request → Type 0
IsCertify r g p m (Certify options manifest) = HaveRules r g p options × (manifest.now ≡ m)
IsCertify r g p m _ = ⊥

-- the request is to verify this certificate
abbrev pub IsVerify : Text → Request → Type 0
IsVerify c (Verify certificate) = certificate.now ≡ c
IsVerify c _ = ⊥

-- the answer is such a request with just this folder or none, running out of memory aside
abbrev pub ParsesAs : Option Text → (Request → Type 0) → Result CommandLine Refusal → Type 0
ParsesAs folder IsExpected (Ok line) = (option_map (λ f. f.now) line.folder ≡ folder) × IsExpected line.request
ParsesAs folder IsExpected (Err Memory) = Unit {0}
ParsesAs folder IsExpected (Err _) = ⊥

-- ---- what the words of a command on one file ask for

-- the words `show --kind K [--profile P] [--in D] F`
abbrev pub show_words : Text → Option Text → Option Text → Text → List Text
show_words kind profile folder file = codes "show" ∷ codes "--kind" ∷ kind ∷ (option_words (codes "--profile") profile ++ (option_words (codes "--in") folder ++ file ∷ []))

-- the request is to show this file as one of this kind, with just this word for a profile or none
abbrev pub IsShow : Text → Option Text → Text → Request → Type 0
IsShow k p f (Show kind profile file) = (kind.now ≡ k) × (option_map (λ w. w.now) profile ≡ p) × (file.now ≡ f)
IsShow k p f _ = ⊥

-- the words `rewrite --kind K [--in D] F`
abbrev pub rewrite_words : Text → Option Text → Text → List Text
rewrite_words kind folder file = codes "rewrite" ∷ codes "--kind" ∷ kind ∷ (option_words (codes "--in") folder ++ file ∷ [])

-- the request is to rewrite this file as one of this kind
abbrev pub IsRewrite : Text → Text → Request → Type 0
IsRewrite k f (Rewrite kind file) = (kind.now ≡ k) × (file.now ≡ f)
IsRewrite k f _ = ⊥

-- ---- what the words of the other commands ask for

-- whether there are some words, and each is plain
abbrev pub are_plain_words : List Text → Bool
are_plain_words words = not (length words == 0) && list_all is_plain_word words

-- the words `manifest [--profile P] [--in D] FILE..` or, for the table of why, `manifest --why [--profile P] [--in D] FILE..`
abbrev pub manifest_words : Bool → Option Text → Option Text → List Text → List Text
manifest_words why profile folder files = codes "manifest" ∷ (flag_words (codes "--why") why ++ (option_words (codes "--profile") profile ++ (option_words (codes "--in") folder ++ files)))

-- the request is for a manifest of these files, or for the table of why, with just this word for a profile or none
abbrev pub IsManifest : Bool → Option Text → List Text → Request → Type 0
IsManifest w p fs (Manifest why profile files) = (why ≡ w) × (option_map (λ o. o.now) profile ≡ p) × (map (λ file. file.now) files.items ≡ fs)
IsManifest w p fs _ = ⊥

-- the words `measure [--profile P] [--format F] [--in D] M`
abbrev pub measure_words : Option Text → Option Text → Option Text → Text → List Text
measure_words profile format folder manifest =
    codes "measure" ∷ (option_words (codes "--profile") profile ++ (option_words (codes "--format") format ++ (option_words (codes "--in") folder ++ manifest ∷ [])))

-- the request is to measure the package of this manifest, with just these words for a profile and a format or with none
abbrev pub IsMeasure : Option Text → Option Text → Text → Request → Type 0
IsMeasure p o m (Measure profile format manifest) = (option_map (λ w. w.now) profile ≡ p) × (option_map (λ f. f.now) format ≡ o) × (manifest.now ≡ m)
IsMeasure p o m _ = ⊥

-- the words `report [--exit-zero] --ring R --gap G [--drill-off T] [--drill-wide A] [--profile P] [--max N] [--waive V] [--outline O] [--format F] [--in D] M`
abbrev pub report_words : Bool → Text → Text → Option Text → Option Text → Option Text → Option Text → Option Text → Option Text → Option Text → Option Text → Text → List Text
report_words exit_zero ring gap off wide profile limit waive outline format folder manifest =
    codes "report" ∷ (flag_words (codes "--exit-zero") exit_zero ++ codes "--ring" ∷ ring ∷ codes "--gap" ∷ gap
    ∷ (option_words (codes "--drill-off") off ++ (option_words (codes "--drill-wide") wide ++ (option_words (codes "--profile") profile
    ++ (option_words (codes "--max") limit ++ (option_words (codes "--waive") waive ++ (option_words (codes "--outline") outline ++ (option_words (codes "--format") format
    ++ (option_words (codes "--in") folder ++ manifest ∷ [])))))))))

-- the request is a report with just this ring, gap and manifest, with the flag for the status 0 or without it, and just these of how far holes may be drilled off and
-- how much wider, a profile, a limit of findings, a file of waivers, a file of an outline and a format
abbrev pub IsReport : Bool → Text → Text → Option Text → Option Text → Option Text → Option Text → Option Text → Option Text → Option Text → Text → Request → Type 0
IsReport z r g t a p n v l o m (Report options manifest) =
    (options.exit_zero ≡ z) × (options.ring.now ≡ r) × (options.gap.now ≡ g) × (option_map (λ w. w.now) options.drill_off ≡ t) × (option_map (λ w. w.now) options.drill_wide ≡ a)
    × (option_map (λ w. w.now) options.profile ≡ p) × (option_map (λ c. c.now) options.limit ≡ n) × (option_map (λ w. w.now) options.waive ≡ v)
    × (option_map (λ f. f.now) options.outline ≡ l) × (option_map (λ f. f.now) options.format ≡ o) × (manifest.now ≡ m)
IsReport z r g t a p n v l o m _ = ⊥

-- the words `draw [--profile P] [--outline O] [--in D] M` or `draw --ring R --gap G [--profile P] [--outline O] [--in D] M`
abbrev pub draw_words : Option (Text × Text) → Option Text → Option Text → Option Text → Text → List Text
draw_words None profile outline folder manifest =
    codes "draw" ∷ (option_words (codes "--profile") profile ++ (option_words (codes "--outline") outline ++ (option_words (codes "--in") folder ++ manifest ∷ [])))
draw_words (Some (ring, gap)) profile outline folder manifest =
    codes "draw" ∷ codes "--ring" ∷ ring ∷ codes "--gap" ∷ gap
    ∷ (option_words (codes "--profile") profile ++ (option_words (codes "--outline") outline ++ (option_words (codes "--in") folder ++ manifest ∷ [])))

-- whether a ring and a gap that may be left out are plain where they are there
abbrev pub are_plain_rules : Option (Text × Text) → Bool
are_plain_rules None = true
are_plain_rules (Some (ring, gap)) = is_plain_word ring && is_plain_word gap

-- the request is to draw the package of this manifest, with just this ring and gap or with neither, and just these of a profile and a file of an outline
abbrev pub IsDraw : Option (Text × Text) → Option Text → Option Text → Text → Request → Type 0
IsDraw o p l m (Draw options manifest) =
    (option_map (λ r. r.now) options.ring ≡ option_map (λ rules. rules.0) o) × (option_map (λ g. g.now) options.gap ≡ option_map (λ rules. rules.1) o)
    × (option_map (λ w. w.now) options.profile ≡ p) × (option_map (λ f. f.now) options.outline ≡ l) × (manifest.now ≡ m)
IsDraw o p l m _ = ⊥

-- the words `explain` or `explain W`
abbrev pub explain_words : Option Text → List Text
explain_words None = codes "explain" ∷ []
explain_words (Some word) = codes "explain" ∷ word ∷ []

-- the request is to explain this word, or to list the words
abbrev pub IsExplain : Option Text → Request → Type 0
IsExplain o (Explain word) = option_map (λ w. w.now) word ≡ o
IsExplain o _ = ⊥

-- the answer is the version, running out of memory aside
abbrev pub ParsesAsVersion : Result CommandLine Refusal → Type 0
ParsesAsVersion (Err Memory) = Unit {0}
ParsesAsVersion (Err Version) = Unit {0}
ParsesAsVersion _ = ⊥
