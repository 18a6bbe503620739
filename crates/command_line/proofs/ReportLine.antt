-- What the program makes of the words of `report`: a flag, which may be left out, and then options and a manifest.
use Rattle.command_line.proofs.Common.{◌≡◌, ◌∙◌, ◌++◌, true, false, refl, ap, cond, Bool, List, [], ◌∷◌, Option, Some, None, codes, find, fold, option_map_or, bytes_eq, clap_on_literals, explicit_source, Shape, is_given, has_row, idle, nothing_held, with_default, Row, Text, first_of, flag_words, is_plain_if_some, is_plain_word}
use Rattle.std.specs.Prelude.{option_and_then, option_map, slice_get, if◌then◌else◌}
use Rattle.std.specs.Option.{option_or}
use Rattle.std.proofs.lemmas.List.Folds.{find-append}
use Rattle.clap.specs.Values.{reading_of}
use Rattle.clap.specs.Walk.{default_rows, more_values, row_text}
use Rattle.clap.specs.Words.{one_of}
use Rattle.clap.specs.declared.builder.value_parser.ValueParser.TheVariants as parser
use Rattle.clap.specs.declared.parser.matches.ValueSource.TheVariants as source
use Rattle.command_line.specs.ProgramArgs.{report_words}
use Rattle.command_line.proofs.GivenOptions.{ArePlain, Options, at_no_row, find_given, first_is, has_none, required_arg, row_of_value, rows_of, unswitched, words_of}
use Rattle.command_line.proofs.NamedCommand.{answer, command_of, is_answer}
use Rattle.command_line.proofs.OptionWords.{WalksWord, bare, only_defaults, read_after, reading, walk_at, walk_word}

abbrev report_shape : Shape
report_shape = command_of (codes "report")

-- ---- the flag and its row

abbrev exit_zero : Text
exit_zero = codes "exit-zero"

-- the flag as an option with the value of its row
abbrev flag_given : Options
flag_given = (exit_zero, Some (codes "true")) ∷ []

-- the rows that the words of a report give, by whether the flag is among them: where it is not, the row of its default value comes last
abbrev pub rows_of_report : Bool → Options → List Row
rows_of_report true os = row_of_value exit_zero (codes "true") ∷ rows_of os
rows_of_report false os = rows_of os ++ unswitched exit_zero ∷ []

or_none : {A : Type 0} (o : Option A) → option_or o None ≡ o
or_none None = refl
or_none (Some x) = refl

-- the row of another id is found where it was
find_other : (id : Text) (os : Options) → bytes_eq exit_zero id ≡ false → find (λ (r : Row). bytes_eq r.id id) (rows_of os ++ unswitched exit_zero ∷ []) ≡ find (λ (r : Row). bytes_eq r.id id) (rows_of os)
find_other id os e = find-append (λ (r : Row). bytes_eq r.id id) (rows_of os) (unswitched exit_zero ∷ []) ∙ rw e (or_none (find (λ (r : Row). bytes_eq r.id id) (rows_of os)))

-- a caller reads the value of another option
pub value_is : (z : Bool) (id : Text) (os : Options) → bytes_eq exit_zero id ≡ false → first_of id (rows_of_report z os) ≡ required_arg id os
value_is true id os e = first_is id (flag_given ++ os) ∙ rw e refl
value_is false id os e = ap (option_and_then (λ (r : Row). slice_get r.values 0)) (find_other id os e) ∙ first_is id os

abbrev pub text_of : Bool → Text
text_of true = codes "true"
text_of false = codes "false"

-- a caller reads the flag
pub flag_is : (z : Bool) (os : Options) → required_arg exit_zero os ≡ None → one_of exit_zero (rows_of_report z os) ≡ Some (text_of z)
flag_is true os e = refl
flag_is false os e =
    ap (option_and_then row_text) (find-append (λ (r : Row). bytes_eq r.id exit_zero) (rows_of os) (unswitched exit_zero ∷ [])
    ∙ ap (λ (o : Option Row). option_or o (Some (unswitched exit_zero))) (find_given exit_zero os ∙ ap (option_map (row_of_value exit_zero)) e))

-- ---- what the command makes of the words

to_flag : WalksWord report_shape (walk_at nothing_held idle 1) (codes "--exit-zero") (walk_at (bare (rows_of flag_given)) idle 1)
unfolding clap_on_literals
to_flag = refl

-- the rows with the default values where the flag is not given
default_added : (os : Options) → required_arg exit_zero os ≡ None
    → (if has_row exit_zero (rows_of os) then rows_of os else default_rows exit_zero (reading_of parser.Bool) (codes "false" ∷ []) (rows_of os)) ≡ rows_of os ++ unswitched exit_zero ∷ []
default_added os e =
    let none = has_none exit_zero os e in
    rw none (at_no_row exit_zero (more_values source.DefaultValue (codes "false" ∷ [])) (unswitched exit_zero ∷ []) (rows_of os) none)

-- the flag is the only argument with a default value
adds_default : (os : Options) → required_arg exit_zero os ≡ None → fold with_default (rows_of os) report_shape.rules ≡ rows_of_report false os
unfolding clap_on_literals
adds_default os e = only_defaults report_shape.rules (rows_of os) ∙ default_added os e

keeps_rows : (os : Options) → fold with_default (rows_of_report true os) report_shape.rules ≡ rows_of_report true os
unfolding clap_on_literals
keeps_rows os = only_defaults report_shape.rules (rows_of_report true os)

-- a default value is no given one
given_still : (id : Text) (rows : List Row) → is_given id (rows ++ unswitched exit_zero ∷ []) ≡ is_given id rows
given_still id rows =
    ap (λ (o : Option Row). option_map_or (λ (r : Row). explicit_source r.source) o false) (find-append (λ (r : Row). bytes_eq r.id id) rows (unswitched exit_zero ∷ []))
    ∙ go (find (λ (r : Row). bytes_eq r.id id) rows) (bytes_eq exit_zero id)
  where
    go : (o : Option Row) (b : Bool)
        → option_map_or (λ (r : Row). explicit_source r.source) (option_or o (cond b (Some (unswitched exit_zero)) None)) false ≡ option_map_or (λ (r : Row). explicit_source r.source) o false
    go None true = refl
    go None false = refl
    go (Some r) b = refl

-- the options before the manifest
abbrev options : Text → Text → Option Text → Option Text → Option Text → Option Text → Option Text → Option Text → Option Text → Option Text → Options
options r g d a f n v l o i =
    (codes "ring", Some r) ∷ (codes "gap", Some g) ∷ (codes "drill-off", d) ∷ (codes "drill-wide", a) ∷ (codes "profile", f) ∷ (codes "max", n)
    ∷ (codes "waive", v) ∷ (codes "outline", l) ∷ (codes "format", o) ∷ (codes "in", i) ∷ []

abbrev pub report_options : Text → Text → Option Text → Option Text → Option Text → Option Text → Option Text → Option Text → Option Text → Option Text → Text → Options
report_options r g d a f n v l o i m = options r g d a f n v l o i ++ (codes "manifest", Some m) ∷ []

reads_report : (z : Bool) (r g : Text) (d a f n v l o i : Option Text) (m : Text) → ArePlain (options r g d a f n v l o i) → is_plain_word m ≡ true
    → reading report_shape (flag_words (codes "--exit-zero") z ++ words_of (options r g d a f n v l o i) (m ∷ [])) ≡ (true, rows_of_report z (report_options r g d a f n v l o i m))
unfolding clap_on_literals
reads_report true r g d a f n v l o i m plain s =
    let words = words_of (options r g d a f n v l o i) (m ∷ []) in
    let all = report_options r g d a f n v l o i m in
    read_after report_shape (codes "--exit-zero" ∷ words) (bare (rows_of flag_given)) flag_given (options r g d a f n v l o i) (codes "manifest") m (rows_of_report true all)
    (walk_word report_shape (walk_at nothing_held idle 1) (codes "--exit-zero") (walk_at (bare (rows_of flag_given)) idle 1) words to_flag)
    (record { comes_to = refl; none_skipped = refl; passes = refl })
    (refl, (refl, (refl, (refl, (refl, (refl, (refl, (refl, (refl, (refl, tt)))))))))) refl plain s (keeps_rows all) refl (λ it. refl)
reads_report false r g d a f n v l o i m plain s =
    let all = report_options r g d a f n v l o i m in
    read_after report_shape (words_of (options r g d a f n v l o i) (m ∷ [])) nothing_held [] (options r g d a f n v l o i) (codes "manifest") m (rows_of_report false all) refl
    (record { comes_to = refl; none_skipped = refl; passes = refl })
    (refl, (refl, (refl, (refl, (refl, (refl, (refl, (refl, (refl, (refl, tt)))))))))) refl plain s (adds_default all refl) refl (λ it. given_still it (rows_of all))

pub report_answer : (z : Bool) (r g : Text) (d a f n v l o i : Option Text) (m : Text) → is_plain_word r ≡ true → is_plain_word g ≡ true → is_plain_if_some d ≡ true → is_plain_if_some a ≡ true
    → is_plain_if_some f ≡ true → is_plain_if_some n ≡ true → is_plain_if_some v ≡ true → is_plain_if_some l ≡ true → is_plain_if_some o ≡ true → is_plain_if_some i ≡ true → is_plain_word m ≡ true
    → answer (report_words z r g d a f n v l o i m) ≡ (true, Some (codes "report", rows_of_report z (report_options r g d a f n v l o i m)))
unfolding clap_on_literals
report_answer z r g d a f n v l o i m p q j k y t w x u b s =
    is_answer (codes "report") (λ rest. refl, λ rest. refl) (flag_words (codes "--exit-zero") z ++ words_of (options r g d a f n v l o i) (m ∷ [])) (rows_of_report z (report_options r g d a f n v l o i m))
    (reads_report z r g d a f n v l o i m (p, (q, (j, (k, (y, (t, (w, (x, (u, (b, tt)))))))))) s)
