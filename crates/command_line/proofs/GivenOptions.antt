-- Options in a row, each with its value where it is given: their words, and the rows that they give.
use Rattle.command_line.proofs.Common.{◌≡◌, ◌∙◌, ◌++◌, ap, refl, sym, true, false, cond, Bool, List, [], ◌∷◌, Option, Some, None, codes, option_map, append-nil, append_assoc, find, list_any, option_map_or, unwrap_or, bytes_eq, bytes_eq-Decides, explicit_source, is_given, has_row, Row, Text, first_of, is_plain_if_some, option_words}
use Rattle.std.proofs.Common.{◌||◌}
use Rattle.std.specs.Prelude.{is_some, option_and_then, slice_get}
use Rattle.std.proofs.lemmas.Bool.{or_parts}
use Rattle.clap.specs.Values.{reading_of}
use Rattle.clap.specs.Walk.{at_row, more_values, with_values, without}
use Rattle.clap.specs.declared.builder.value_parser.ValueParser.TheVariants as parser
use Rattle.clap.specs.declared.parser.matches.ValueSource.TheVariants as source

-- options and arguments by their ids, each with its value where it is given
abbrev pub Options : Type 0
Options = List (Text × Option Text)

-- the words of options, and then others
abbrev pub words_of : Options → List Text → List Text
words_of [] rest = rest
words_of ((id, o) ∷ os) rest = option_words (45 ∷ 45 ∷ id) o ++ words_of os rest

-- each value that is given is a plain word
abbrev pub ArePlain : Options → Type 0
ArePlain [] = Unit {0}
ArePlain ((id, o) ∷ os) = (is_plain_if_some o ≡ true) × ArePlain os

-- the row of an option or an argument with these values
abbrev pub given_all : Text → List Text → Row
given_all id values = record { id = id; values = values; count = None; source = Some source.CommandLine; reading = reading_of parser.String }

abbrev pub row_of_value : Text → Text → Row
row_of_value id value = given_all id (value ∷ [])

-- the row of a flag that is left out, which has its default value
abbrev pub unswitched : Text → Row
unswitched id = record { id = id; values = codes "false" ∷ []; count = None; source = Some source.DefaultValue; reading = reading_of parser.Bool }

abbrev pub row_of_optional : Text → Option Text → List Row
row_of_optional id None = []
row_of_optional id (Some value) = row_of_value id value ∷ []

abbrev pub rows_of : Options → List Row
rows_of [] = []
rows_of ((id, o) ∷ os) = row_of_optional id o ++ rows_of os

pub rows_of-append : (os ps : Options) → rows_of (os ++ ps) ≡ rows_of os ++ rows_of ps
rows_of-append [] ps = refl
rows_of-append ((id, o) ∷ os) ps = ap (λ (rows : List Row). row_of_optional id o ++ rows) (rows_of-append os ps) ∙ sym (append_assoc (row_of_optional id o) (rows_of os) (rows_of ps))

-- ---- the value of an id

-- the first value, or where there is none the second
abbrev pub or_else : Option Text → Option Text → Option Text
or_else o None = o
or_else o (Some value) = Some (unwrap_or o value)

abbrev pub required_arg : Text → Options → Option Text
required_arg id [] = None
required_arg id ((i, o) ∷ os) = cond (bytes_eq i id) (or_else o (required_arg id os)) (required_arg id os)

none_first : (b : Bool) (o : Option Text) → o ≡ cond b (or_else None o) o
none_first true None = refl
none_first true (Some value) = refl
none_first false o = refl

some_first : (value : Text) (o : Option Text) → Some value ≡ or_else (Some value) o
some_first value None = refl
some_first value (Some other) = refl

-- the row of an id is that of its value
pub find_given : (id : Text) (os : Options) → find (λ r. bytes_eq r.id id) (rows_of os) ≡ option_map (row_of_value id) (required_arg id os)
find_given id [] = refl
find_given id ((i, None) ∷ os) = find_given id os ∙ ap (option_map (row_of_value id)) (none_first (bytes_eq i id) (required_arg id os))
find_given id ((i, Some value) ∷ os) = go (bytes_eq i id) (λ e. (bytes_eq-Decides i id).0 e) (find_given id os)
  where
    go : (b : Bool) → (b ≡ true → i ≡ id) → find (λ r. bytes_eq r.id id) (rows_of os) ≡ option_map (row_of_value id) (required_arg id os)
        → cond b (Some (row_of_value i value)) (find (λ r. bytes_eq r.id id) (rows_of os)) ≡ option_map (row_of_value id) (cond b (or_else (Some value) (required_arg id os)) (required_arg id os))
    go true same e = ap (λ (j : Text). Some (row_of_value j value)) (same refl) ∙ ap (option_map (row_of_value id)) (some_first value (required_arg id os))
    go false same e = e

read_first : (id : Text) (o : Option Text) → option_and_then (λ (r : Row). slice_get r.values 0) (option_map (row_of_value id) o) ≡ o
read_first id None = refl
read_first id (Some value) = refl

-- a caller reads the value
pub first_is : (id : Text) (os : Options) → first_of id (rows_of os) ≡ required_arg id os
first_is id os = ap (option_and_then (λ (r : Row). slice_get r.values 0)) (find_given id os) ∙ read_first id (required_arg id os)

-- what is given is shown by the value
pub given_is : (id : Text) (os : Options) → is_given id (rows_of os) ≡ option_map_or (λ (r : Row). explicit_source r.source) (option_map (row_of_value id) (required_arg id os)) false
given_is id os = ap (λ (o : Option Row). option_map_or (λ (r : Row). explicit_source r.source) o false) (find_given id os)

any_found : {X : Type 0} (p : X → Bool) (xs : List X) → list_any p xs ≡ is_some (find p xs)
any_found p [] = refl
any_found p (x ∷ xs) = go (p x) (any_found p xs)
  where
    go : (b : Bool) → list_any p xs ≡ is_some (find p xs) → (b || list_any p xs) ≡ is_some (cond b (Some x) (find p xs))
    go true e = refl
    go false e = e

-- an id with no value has no row
pub has_none : (id : Text) (os : Options) → required_arg id os ≡ None → has_row id (rows_of os) ≡ false
has_none id os none = any_found (λ (r : Row). bytes_eq r.id id) (rows_of os) ∙ ap is_some (find_given id os ∙ ap (option_map (row_of_value id)) none)

-- ---- a row more

pub at_no_row : (id : Text) (change : Row → List Row) (missing rows : List Row) → has_row id rows ≡ false → at_row id change missing rows ≡ rows ++ missing
at_no_row id change missing [] none = refl
at_no_row id change missing (r ∷ rows) none =
    let k = or_parts (bytes_eq r.id id) (has_row id rows) none in
    rw k.0 (ap (λ (rs : List Row). r ∷ rs) (at_no_row id change missing rows k.1))

-- the values of an id that has no row yet join at the end
pub joins : (id : Text) (values : List Text) (rows : List Row) → has_row id rows ≡ false
    → with_values id (reading_of parser.String) source.CommandLine values (without id rows) ≡ rows ++ given_all id values ∷ []
joins id values rows none =
    ap (with_values id (reading_of parser.String) source.CommandLine values) (at_no_row id (λ _. []) [] rows none ∙ append-nil rows)
    ∙ at_no_row id (more_values source.CommandLine values) (given_all id values ∷ []) rows none
