-- What the program makes of the words of `manifest`: a flag, a profile and a folder, each of which may be left out, and then a file or more of them.
use Rattle.command_line.proofs.Common.{◌≡◌, ◌∙◌, ◌++◌, true, false, refl, List, [], ◌∷◌, Option, Some, None, codes, Bool, append-nil, append_assoc, fold, false≢true, clap_on_literals, both, Shape, Walk, idle, with_default, Row, Text, flag_words, is_plain_if_some, is_plain_word, option_words}
use Rattle.std.proofs.Common.{◌==◌, ◌≤◌, not, get_or, length, arith}
use Rattle.std.specs.Prelude.{nat_le}
use Rattle.std.specs.List.{list_all}
use Rattle.std.proofs.lemmas.Bool.{le-leb}
use Rattle.clap.specs.Lexer.{usize_max}
use Rattle.clap.specs.Simple.{help_rule}
use Rattle.clap.specs.Takes.{is_valid, settle_passes, value_passes}
use Rattle.clap.specs.Walk.{option as waits_for, positional, settled_rows}
use Rattle.command_line.specs.ProgramArgs.{are_plain_words, manifest_words}
use Rattle.command_line.proofs.GivenOptions.{Options, given_all, rows_of, unswitched}
use Rattle.command_line.proofs.NamedCommand.{answer, command_of, is_answer}
use Rattle.command_line.proofs.OptionWords.{WalksWord, WalksWords, bare, walk_word, pending, plain_turn, reading, reads, turns, walk_at, walk_nothing}

abbrev manifest_shape : Shape
manifest_shape = command_of (codes "manifest")

-- ---- the walk

-- the flag as an option with the value of its row
abbrev why_given : Bool → Options
why_given true = (codes "why", Some (codes "true")) ∷ []
why_given false = []

-- the flag and the profile
abbrev profile_given : Bool → Option Text → Options
profile_given true profile = (codes "why", Some (codes "true")) ∷ (codes "profile", profile) ∷ []
profile_given false profile = (codes "profile", profile) ∷ []

-- the flag, the profile and the folder
abbrev all_given : Bool → Option Text → Option Text → Options
all_given true profile folder = (codes "why", Some (codes "true")) ∷ (codes "profile", profile) ∷ (codes "in", folder) ∷ []
all_given false profile folder = (codes "profile", profile) ∷ (codes "in", folder) ∷ []

-- where the walk stands after the flag, the profile and the folder
abbrev before_files : Bool → Option Text → Option Text → Walk
before_files why None None = walk_at (bare (rows_of (why_given why))) idle 1
before_files why (Some profile) None = walk_at (pending (rows_of (why_given why)) (codes "profile") (profile ∷ [])) idle 1
before_files why profile (Some folder) = walk_at (pending (rows_of (profile_given why profile)) (codes "in") (folder ∷ [])) idle 1

-- where the walk stands after these and some files
abbrev after : Bool → Option Text → Option Text → List Text → Walk
after why profile folder [] = before_files why profile folder
after why profile folder (f ∷ fs) = walk_at (pending (rows_of (all_given why profile folder)) (codes "file") (f ∷ fs)) positional 1

to_why : WalksWord manifest_shape (before_files false None None) (codes "--why") (before_files true None None)
unfolding clap_on_literals
to_why = refl

-- the walk over the flag
runs_why : (why : Bool) (rest : List Text) → turns manifest_shape [] (before_files false None None) (flag_words (codes "--why") why ++ rest) ≡ turns manifest_shape [] (before_files why None None) rest
runs_why true rest = walk_word manifest_shape (before_files false None None) (codes "--why") (before_files true None None) rest to_why
runs_why false rest = refl

-- where the walk waits for the value of the profile
abbrev awaits_profile : Bool → Walk
awaits_profile why = walk_at (pending (rows_of (why_given why)) (codes "profile") []) (waits_for (codes "profile")) 1

to_profile : (why : Bool) → WalksWord manifest_shape (before_files why None None) (codes "--profile") (awaits_profile why)
unfolding clap_on_literals
to_profile true = refl
to_profile false = refl

to_profile_value : (why : Bool) (profile : Text) → is_plain_word profile ≡ true → WalksWord manifest_shape (awaits_profile why) profile (before_files why (Some profile) None)
unfolding clap_on_literals
to_profile_value why profile p = plain_turn manifest_shape (waits_for (codes "profile")) (pending (rows_of (why_given why)) (codes "profile") []) profile p

-- the walk over the profile
runs_profile : (why : Bool) (profile : Option Text) (rest : List Text) → is_plain_if_some profile ≡ true
    → turns manifest_shape [] (before_files why None None) (option_words (codes "--profile") profile ++ rest) ≡ turns manifest_shape [] (before_files why profile None) rest
runs_profile why None rest p = refl
runs_profile why (Some profile) rest p =
    walk_word manifest_shape (before_files why None None) (codes "--profile") (awaits_profile why) (profile ∷ rest) (to_profile why)
    ∙ walk_word manifest_shape (awaits_profile why) profile (before_files why (Some profile) None) rest (to_profile_value why profile p)

-- where the walk waits for the value of the folder
abbrev awaits_folder : Bool → Option Text → Walk
awaits_folder why profile = walk_at (pending (rows_of (profile_given why profile)) (codes "in") []) (waits_for (codes "in")) 1

to_folder : (why : Bool) (profile : Option Text) → WalksWord manifest_shape (before_files why profile None) (codes "--in") (awaits_folder why profile)
unfolding clap_on_literals
to_folder true None = refl
to_folder true (Some profile) = refl
to_folder false None = refl
to_folder false (Some profile) = refl

to_folder_value : (why : Bool) (profile : Option Text) (folder : Text) → is_plain_word folder ≡ true → WalksWord manifest_shape (awaits_folder why profile) folder (before_files why profile (Some folder))
unfolding clap_on_literals
to_folder_value why None folder p = plain_turn manifest_shape (waits_for (codes "in")) (pending (rows_of (profile_given why None)) (codes "in") []) folder p
to_folder_value why (Some profile) folder p = plain_turn manifest_shape (waits_for (codes "in")) (pending (rows_of (profile_given why (Some profile))) (codes "in") []) folder p

-- the walk over the folder
runs_folder : (why : Bool) (profile folder : Option Text) (rest : List Text) → is_plain_if_some folder ≡ true
    → turns manifest_shape [] (before_files why profile None) (option_words (codes "--in") folder ++ rest) ≡ turns manifest_shape [] (before_files why profile folder) rest
runs_folder why profile None rest p = refl
runs_folder why profile (Some folder) rest p =
    walk_word manifest_shape (before_files why profile None) (codes "--in") (awaits_folder why profile) (folder ∷ rest) (to_folder why profile)
    ∙ walk_word manifest_shape (awaits_folder why profile) folder (before_files why profile (Some folder)) rest (to_folder_value why profile folder p)

to_file : (why : Bool) (profile folder : Option Text) (files : List Text) (f : Text) → is_plain_word f ≡ true
    → WalksWord manifest_shape (after why profile folder files) f (after why profile folder (files ++ f ∷ []))
unfolding clap_on_literals
to_file true None None [] f p = plain_turn manifest_shape idle (bare (rows_of (why_given true))) f p
to_file false None None [] f p = plain_turn manifest_shape idle (bare (rows_of (why_given false))) f p
to_file true (Some profile) None [] f p = plain_turn manifest_shape idle (pending (rows_of (why_given true)) (codes "profile") (profile ∷ [])) f p
to_file false (Some profile) None [] f p = plain_turn manifest_shape idle (pending (rows_of (why_given false)) (codes "profile") (profile ∷ [])) f p
to_file true None (Some folder) [] f p = plain_turn manifest_shape idle (pending (rows_of (profile_given true None)) (codes "in") (folder ∷ [])) f p
to_file false None (Some folder) [] f p = plain_turn manifest_shape idle (pending (rows_of (profile_given false None)) (codes "in") (folder ∷ [])) f p
to_file true (Some profile) (Some folder) [] f p = plain_turn manifest_shape idle (pending (rows_of (profile_given true (Some profile))) (codes "in") (folder ∷ [])) f p
to_file false (Some profile) (Some folder) [] f p = plain_turn manifest_shape idle (pending (rows_of (profile_given false (Some profile))) (codes "in") (folder ∷ [])) f p
to_file why profile folder (g ∷ gs) f p = plain_turn manifest_shape positional (pending (rows_of (all_given why profile folder)) (codes "file") (g ∷ gs)) f p

-- the walk over further files
runs : (why : Bool) (profile folder : Option Text) (files fs : List Text) → list_all is_plain_word fs ≡ true
    → WalksWords manifest_shape (after why profile folder files) fs (after why profile folder (files ++ fs))
runs why profile folder files [] h = rw append-nil (walk_nothing manifest_shape (after why profile folder files))
runs why profile folder files (f ∷ fs) h =
    let k = both (is_plain_word f) (list_all is_plain_word fs) h in
    walk_word manifest_shape _ _ _ _ (to_file why profile folder files f k.0) ∙ rw append_assoc at (runs why profile folder (files ++ f ∷ []) fs k.1)

-- the words after the name of the command
abbrev words_after : Bool → Option Text → Option Text → List Text → List Text
words_after why profile folder files = flag_words (codes "--why") why ++ (option_words (codes "--profile") profile ++ (option_words (codes "--in") folder ++ files))

-- the walk over all of them
runs_all : (why : Bool) (profile folder : Option Text) (f : Text) (fs : List Text) → is_plain_if_some profile ≡ true → is_plain_if_some folder ≡ true → list_all is_plain_word (f ∷ fs) ≡ true
    → WalksWords manifest_shape (before_files false None None) (words_after why profile folder (f ∷ fs)) (after why profile folder (f ∷ fs))
runs_all why profile folder f fs q t h =
    runs_why why (option_words (codes "--profile") profile ++ (option_words (codes "--in") folder ++ f ∷ fs)) ∙ runs_profile why profile (option_words (codes "--in") folder ++ f ∷ fs) q
    ∙ runs_folder why profile folder (f ∷ fs) t ∙ runs why profile folder [] (f ∷ fs) h

-- ---- its end

-- any text is a value
all_pass : (files : List Text) → list_all (value_passes (get_or manifest_shape.rules 3 help_rule)) files ≡ true
unfolding clap_on_literals
all_pass [] = refl
all_pass (f ∷ fs) = all_pass fs

files_pass : (why : Bool) (profile folder : Option Text) (f : Text) (fs : List Text) → length (f ∷ fs) ≤ usize_max
    → settle_passes manifest_shape.rules manifest_shape.args_override_self (after why profile folder (f ∷ fs)).held ≡ true
unfolding clap_on_literals
files_pass why profile folder f fs few =
    let least : nat_le 1 (length (f ∷ fs)) ≡ true = le-leb 1 (length (f ∷ fs)) (omega arith) in
    let limit : nat_le (length (f ∷ fs)) usize_max ≡ true = le-leb (length (f ∷ fs)) usize_max few in
    rw (least, limit, all_pass fs) refl

-- the rows of the options and the files
abbrev given_rows : Bool → Option Text → Option Text → List Text → List Row
given_rows why profile folder files = rows_of (all_given why profile folder) ++ given_all (codes "file") files ∷ []

-- the rows that the words of a manifest give: where the flag is not among them, the row of its default value comes last
abbrev pub rows_of_manifest : Bool → Option Text → Option Text → List Text → List Row
rows_of_manifest true profile folder files = given_rows true profile folder files
rows_of_manifest false profile folder files = given_rows false profile folder files ++ unswitched (codes "why") ∷ []

-- what the command makes of these words, by the rows that they come to
reads_rows : (why : Bool) (profile folder : Option Text) (f : Text) (fs : List Text) → is_plain_if_some profile ≡ true → is_plain_if_some folder ≡ true → list_all is_plain_word (f ∷ fs) ≡ true → length (f ∷ fs) ≤ usize_max
    → settled_rows manifest_shape.rules (Some (codes "file", f ∷ fs)) (rows_of (all_given why profile folder)) ≡ given_rows why profile folder (f ∷ fs)
    → fold with_default (given_rows why profile folder (f ∷ fs)) manifest_shape.rules ≡ rows_of_manifest why profile folder (f ∷ fs) → is_valid manifest_shape (rows_of_manifest why profile folder (f ∷ fs)) false ≡ true
    → reading manifest_shape (words_after why profile folder (f ∷ fs)) ≡ (true, rows_of_manifest why profile folder (f ∷ fs))
unfolding clap_on_literals
reads_rows why profile folder f fs q t h few comes_to defaults valid =
    reads manifest_shape (words_after why profile folder (f ∷ fs)) (after why profile folder (f ∷ fs)) (given_rows why profile folder (f ∷ fs)) (rows_of_manifest why profile folder (f ∷ fs)) (runs_all why profile folder f fs q t h)
    (record { comes_to = comes_to; none_skipped = refl; passes = files_pass why profile folder f fs few }) defaults refl valid

reads_manifest : (why : Bool) (profile folder : Option Text) (f : Text) (fs : List Text) → is_plain_if_some profile ≡ true → is_plain_if_some folder ≡ true → list_all is_plain_word (f ∷ fs) ≡ true → length (f ∷ fs) ≤ usize_max
    → reading manifest_shape (words_after why profile folder (f ∷ fs)) ≡ (true, rows_of_manifest why profile folder (f ∷ fs))
unfolding clap_on_literals
reads_manifest true None None f fs q t h few = reads_rows true None None f fs q t h few refl refl refl
reads_manifest true None (Some folder) f fs q t h few = reads_rows true None (Some folder) f fs q t h few refl refl refl
reads_manifest true (Some profile) None f fs q t h few = reads_rows true (Some profile) None f fs q t h few refl refl refl
reads_manifest true (Some profile) (Some folder) f fs q t h few = reads_rows true (Some profile) (Some folder) f fs q t h few refl refl refl
reads_manifest false None None f fs q t h few = reads_rows false None None f fs q t h few refl refl refl
reads_manifest false None (Some folder) f fs q t h few = reads_rows false None (Some folder) f fs q t h few refl refl refl
reads_manifest false (Some profile) None f fs q t h few = reads_rows false (Some profile) None f fs q t h few refl refl refl
reads_manifest false (Some profile) (Some folder) f fs q t h few = reads_rows false (Some profile) (Some folder) f fs q t h few refl refl refl

pub manifest_answer : (why : Bool) (profile folder : Option Text) (files : List Text) → is_plain_if_some profile ≡ true → is_plain_if_some folder ≡ true → are_plain_words files ≡ true → length files ≤ usize_max
    → answer (manifest_words why profile folder files) ≡ (true, Some (codes "manifest", rows_of_manifest why profile folder files))
unfolding clap_on_literals
manifest_answer why profile folder [] q t p few = absurd (false≢true p)
manifest_answer why profile folder (f ∷ fs) q t p few =
    let h = (both (not (length (f ∷ fs) == 0)) (list_all is_plain_word (f ∷ fs)) p).1 in
    is_answer (codes "manifest") (λ rest. refl, λ rest. refl) (words_after why profile folder (f ∷ fs)) (rows_of_manifest why profile folder (f ∷ fs)) (reads_manifest why profile folder f fs q t h few)
