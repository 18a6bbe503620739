-- What a command makes of options in a row and then a plain word, for any command: the words pass, and give just the rows of the values.
use Rattle.command_line.proofs.Common.{◌≡◌, ◌∙◌, ◌++◌, ℕ, true, false, refl, ap, cond, List, [], ◌∷◌, Option, Some, None, Bool, option_map, append-nil, append_assoc, list_any, fold, option_map_or, unwrap_or, bytes_eq, false≢true, bytes_eq-Decides, both, explicit_source, Shape, is_given, Walk, has_row, idle, nothing_held, with_default, Row, Rule, Text, is_plain_word}
use Rattle.std.proofs.Common.{◌==◌, ◌&&◌, ◌||◌, not}
use Rattle.std.specs.List.{list_all, filter}
use Rattle.std.proofs.lemmas.Bool.{cond_both, not-true}
use Rattle.clap.proofs.SimpleLemmas.{is_nil}
use Rattle.clap.specs.Lexer.{long_of, name_and_value}
use Rattle.clap.specs.Simple.{filled}
use Rattle.clap.specs.Takes.{default_passes, is_valid, level_passes, settle_passes, step_passes, turn_passes, walk_passes}
use Rattle.clap.specs.Walk.{Held, Names, Waiting, after_step, arg_by_id, arg_by_index, arg_by_long, finished, is_empty, is_pending, plain_word, rows_after, settled_rows, walk_from, walked, option as waits_for}
use Rattle.command_line.specs.ProgramArgs.{positional}
use Rattle.command_line.proofs.GivenOptions.{ArePlain, Options, row_of_value, given_is, has_none, joins, rows_of, rows_of-append, required_arg, words_of}

-- ---- what a command has

-- an argument with one value, as building makes it: an option by its name, or the argument at a place
abbrev pub one_value : Shape → Option Text → Option ℕ → Text → Rule
one_value s name place id = record (filled (positional id)) { long = name; index = place; required = option_map_or (λ (a : Rule). a.required) (arg_by_id s.rules id) false }

-- an option by its name and by its id, what its word is read as, and the value of its id before it
abbrev pub option_facts : Shape → Text → Options → Option Rule × Option Rule × Option (Text × Option Text) × Option Text
option_facts s id before = (arg_by_long s.rules id, arg_by_id s.rules id, long_of (45 ∷ 45 ∷ id), required_arg id before)

-- the command has these options, whose ids differ from each other and from those before
abbrev pub HasOptions : Shape → Options → Options → Type 0
HasOptions s before [] = Unit {0}
HasOptions s before ((id, o) ∷ os) =
    let a = one_value s (Some id) None id in
    (option_facts s id before ≡ (Some a, Some a, Some (id, None), None)) × HasOptions s (before ++ (id, o) ∷ []) os

-- the argument at the first place by its place and by its id, the value of its id before it, three settings,
-- and whether no argument has a rule on another, and each that is required is given
abbrev pub end_facts : Shape → Options → Text → Text → Option Rule × Option Rule × Option Text × Bool × Bool × Bool × Bool × Bool
end_facts s os id value = (
  arg_by_index s.rules 1,
  arg_by_id s.rules id,
  required_arg id os,
  s.arg_required_else_help,
  s.subcommand_required,
  s.subcommand_negates_reqs,
  list_all (λ a. a.is_free) s.rules,
  list_all (λ a. not a.required || option_map_or (λ r. explicit_source r.source) (option_map (row_of_value a.id) (required_arg a.id (os ++ (id, Some value) ∷ []))) false) s.rules,
)

-- the command has this argument at the first place, and after the options wants no more
abbrev pub HasEnd : Shape → Options → Text → Text → Type 0
HasEnd s os id value =
    let a = one_value s None (Some 1) id in
    end_facts s os id value ≡ (Some a, Some a, None, false, false, false, true, true)

-- no argument of the command has a default value
abbrev pub HasNoDefaults : Shape → Type 0
HasNoDefaults s = list_all (λ (a : Rule). is_empty a.defaults) s.rules ≡ true

-- ---- the walk

abbrev pub walk_at : Held → Waiting → ℕ → Walk
walk_at held waits position = record { held = held; waiting = waits; position = position; is_trailing = false; stopped = None }

-- these rows, and nothing that is pending
abbrev pub bare : List Row → Held
bare rows = record { rows = rows; pending = None; skip = 0 }

-- these rows, and an argument with values that are pending
abbrev pub pending : List Row → Text → List Text → Held
pending rows id values = record { rows = rows; pending = Some (id, values); skip = 0 }

and-false : (b : Bool) → (b && false) ≡ false
and-false true = refl
and-false false = refl

-- where the walk stands after some words, and whether the words pass
abbrev pub turns : Shape → Names → Walk → List Text → Walk × Bool
turns s names w words = (fold (walked s.rules names) w words, walk_passes s names w words)

-- whether the walk may end there
abbrev pub end_passes : Shape → Walk × Bool → Bool → Bool
end_passes s t enters = t.1 && (settle_passes s.rules s.args_override_self t.0.held && (list_all default_passes s.rules && is_valid s (finished s.rules t.0.held) enters))

module _ (s : Shape) where
  abbrev turn : Walk → Text → Walk × Bool
  turn w word = (walked s.rules [] w word, turn_passes s [] w word)

  -- the walk goes on by a word, which passes
  abbrev pub WalksWord : Walk → Text → Walk → Type 0
  WalksWord before word after = turn before word ≡ (after, true)

  abbrev pub WalksWords : Walk → List Text → Walk → Type 0
  WalksWords before words after = turns s [] before words ≡ (after, true)

  abbrev and_turns : List Text → Walk × Bool → Walk × Bool
  and_turns words t = (fold (walked s.rules []) t.0 words, t.1 && walk_passes s [] t.0 words)

  pub walk_word : (before : Walk) (word : Text) (between : Walk) (words : List Text) → WalksWord before word between → turns s [] before (word ∷ words) ≡ turns s [] between words
  unfolding walk_passes
  walk_word before word between words g = ap (and_turns words) g

  pub walk_nothing : (w : Walk) → WalksWords w [] w
  unfolding walk_passes
  walk_nothing w = refl

  -- what is held comes to these rows, and what is pending passes
  pub record Holds (rows : List Row) (h : Held) : Type 0 where
    pub comes_to : settled_rows s.rules h.pending h.rows ≡ rows
    pub none_skipped : h.skip ≡ 0
    pub passes : settle_passes s.rules s.args_override_self h ≡ true

  -- the word `--id`
  to_option : (id : Text) (rows : List Row) (h : Held) → arg_by_long s.rules id ≡ Some (one_value s (Some id) None id) → long_of (45 ∷ 45 ∷ id) ≡ Some (id, None) → Holds rows h
      → WalksWord (walk_at h idle 1) (45 ∷ 45 ∷ id) (walk_at (pending rows id []) (waits_for id) 1)
  unfolding walked
  to_option [] rows h named is holds = cc
  to_option (x ∷ xs) rows h named is holds =
      let name : (name_and_value (x ∷ xs)).0 ≡ x ∷ xs = λ i. (unwrap_or (is i) ([], None)).0 in
      let none : (name_and_value (x ∷ xs)).1 ≡ None = λ i. (unwrap_or (is i) ([], None)).1 in
      rw (name, none, named, holds.comes_to, holds.none_skipped, holds.passes) refl

  -- a plain word, before it is known what takes it
  abbrev as_plain : Waiting → Held → Text → Walk × Bool
  as_plain waits h word =
      let met = plain_word s.rules waits word h in
      (after_step s.rules word (walk_at h waits 1) met.0 met.1, step_passes s 1 met.0 met.1)

  pub plain_turn : (waits : Waiting) (h : Held) (word : Text) → is_plain_word word ≡ true → turn (walk_at h waits 1) word ≡ as_plain waits h word
  unfolding walked
  plain_turn waits h [] p = absurd (false≢true p)
  plain_turn idle h (x ∷ xs) p = rw (not-true (x == 45) p, not-true (x == 45) p) refl
  plain_turn _ h (x ∷ xs) p = rw (not-true (x == 45) p, not-true (x == 45) p) refl

  -- the value of an option
  by_value : (id : Text) (rows : List Row) (value : Text) → arg_by_id s.rules id ≡ Some (one_value s (Some id) None id) → is_plain_word value ≡ true
      → WalksWord (walk_at (pending rows id []) (waits_for id) 1) value (walk_at (pending rows id (value ∷ [])) idle 1)
  by_value id rows value by p =
      let same : bytes_eq id id ≡ true = (bytes_eq-Decides id id).1 refl in
      plain_turn (waits_for id) (pending rows id []) value p ∙ rw (by, same) refl

  -- the argument at the first place
  to_place : (id : Text) (rows : List Row) (h : Held) (value : Text) → arg_by_index s.rules 1 ≡ Some (one_value s None (Some 1) id) → Holds rows h → is_plain_word value ≡ true
      → WalksWord (walk_at h idle 1) value (walk_at (pending rows id (value ∷ [])) idle 2)
  to_place id rows h value at holds p =
      let no = and-false (is_pending (one_value s None (Some 1) id) h.pending) in
      plain_turn idle h value p ∙ rw (at, no, holds.comes_to, holds.none_skipped, holds.passes) refl

  -- one value of an id that has no row
  holds_value : (name : Option Text) (place : Option ℕ) (id : Text) (rows : List Row) (value : Text) → arg_by_id s.rules id ≡ Some (one_value s name place id)
      → has_row id rows ≡ false → Holds (rows ++ row_of_value id value ∷ []) (pending rows id (value ∷ []))
  holds_value name place id rows value by none = record { comes_to = rw by (joins id (value ∷ []) rows none); none_skipped = refl; passes = rw (by, none) refl }

  -- options in a row, each with its value or left out; `go` says how the walk goes on after them
  runs : (before os : Options) (h : Held) → Holds (rows_of before) h → HasOptions s before os → ArePlain os → (rest : List Text) (end : Walk)
      → ((g : Held) → Holds (rows_of (before ++ os)) g → WalksWords (walk_at g idle 1) rest end) → WalksWords (walk_at h idle 1) (words_of os rest) end
  runs before [] h holds has plain rest end go = go h (rw append-nil holds)
  runs before ((id, None) ∷ os) h holds has plain rest end go =
      runs (before ++ (id, None) ∷ []) os h (rw (rows_of-append before ((id, None) ∷ []), append-nil (rows_of before)) holds) has.1 plain.1 rest end (λ g k. go g (rw append_assoc at k))
  runs before ((id, Some value) ∷ os) h holds has plain rest end go =
      let rows = rows_of before in
      let held = holds_value (Some id) None id rows value (λ i. (has.0 i).1) (has_none id before (λ i. (has.0 i).3)) in
      walk_word _ _ _ _ (to_option id rows h (λ i. (has.0 i).0) (λ i. (has.0 i).2) holds) ∙ walk_word _ _ _ _ (by_value id rows value (λ i. (has.0 i).1) plain.0)
      ∙ runs (before ++ (id, Some value) ∷ []) os (pending rows id (value ∷ [])) (rw (rows_of-append before ((id, Some value) ∷ [])) held) has.1 plain.1 rest end
      (λ g k. go g (rw append_assoc at k))

  -- ---- the end

  -- whether words after the command's name pass, and the rows that they give
  abbrev pub reading : List Text → Bool × List Row
  reading words = (level_passes s [] nothing_held words false, rows_after s.rules [] words)

  -- from where the walk ends: `rows` are those of the words, and `all` those with the default values too
  pub reads : (words : List Text) (end : Walk) (rows all : List Row) → WalksWords (walk_from nothing_held) words end → Holds rows end.held → fold with_default rows s.rules ≡ all
      → list_all default_passes s.rules ≡ true → is_valid s all false ≡ true → reading words ≡ (true, all)
  reads words end rows all run holds is defaults valid =
      let ends : finished s.rules end.held ≡ all = ap (λ (rows : List Row). fold with_default rows s.rules) holds.comes_to ∙ is in
      (λ i. (end_passes s (run i) false, finished s.rules (run i).0.held)) ∙ (λ i. (holds.passes i && (defaults i && is_valid s (ends i) false), ends i)) ∙ (λ i. (valid i, all))

-- only arguments with default values get some
pub only_defaults : (rules : List Rule) (rows : List Row) → fold with_default rows rules ≡ fold with_default rows (filter (λ (a : Rule). not (is_empty a.defaults)) rules)
only_defaults [] rows = refl
only_defaults (a ∷ rules) rows = go (is_empty a.defaults) (is_nil a.defaults) (only_defaults rules)
  where
    kept : cond (has_row a.id rows) rows rows ≡ rows
    kept = cond_both (has_row a.id rows) rows rows (λ (rs : List Row). rs ≡ rows) (λ _. refl) (λ _. refl)

    others : List Rule
    others = filter (λ (a : Rule). not (is_empty a.defaults)) rules

    go : (b : Bool) → (b ≡ true → a.defaults ≡ []) → ((rs : List Row) → fold with_default rs rules ≡ fold with_default rs others)
        → fold with_default (with_default rows a) rules ≡ fold with_default rows (cond (not b) (a ∷ others) others)
    go true none rest = rw (none refl, kept) (rest rows)
    go false none rest = rest (with_default rows a)

-- where no default value is given there is none to add
no_defaults : (rules : List Rule) (rows : List Row) → list_all (λ (a : Rule). is_empty a.defaults) rules ≡ true → (fold with_default rows rules ≡ rows) × (list_all default_passes rules ≡ true)
no_defaults [] rows e = (refl, refl)
no_defaults (a ∷ rules) rows e =
    let k = both (is_empty a.defaults) (list_all (λ (a : Rule). is_empty a.defaults) rules) e in
    let rest = no_defaults rules rows k.1 in
    let kept = cond_both (has_row a.id rows) rows rows (λ (rs : List Row). rs ≡ rows) (λ _. refl) (λ _. refl) in
    (rw (is_nil a.defaults k.0, kept) rest.0, rw (k.0, rest.1) refl)

-- options in a row, each with its value or left out, and then the argument at the first place, all after words with the options `before`;
-- `all` are the rows with the default values too
pub read_after : (s : Shape) (words : List Text) (h : Held) (before os : Options) (id value : Text) (all : List Row)
    → turns s [] (walk_from nothing_held) words ≡ turns s [] (walk_at h idle 1) (words_of os (value ∷ [])) → Holds s (rows_of before) h → HasOptions s before os
    → HasEnd s (before ++ os) id value → ArePlain os → is_plain_word value ≡ true → fold with_default (rows_of ((before ++ os) ++ (id, Some value) ∷ [])) s.rules ≡ all
    → list_all default_passes s.rules ≡ true → ((i : Text) → is_given i all ≡ is_given i (rows_of ((before ++ os) ++ (id, Some value) ∷ []))) → reading s words ≡ (true, all)
read_after s words h before os id value all start holds has ends plain p is defaults given =
    let given_options = before ++ os in
    let rows = rows_of (given_options ++ (id, Some value) ∷ []) in
    let end = walk_at (pending (rows_of given_options) id (value ∷ [])) idle 2 in
    let run = start ∙ runs s before os h holds has plain (value ∷ []) end
    (λ g holds. walk_word s _ _ _ _ (to_place s id (rows_of given_options) g value (λ i. (ends i).0) holds p) ∙ walk_nothing s end) in
    let held = holds_value s None (Some 1) id (rows_of given_options) value (λ i. (ends i).1) (has_none id given_options (λ i. (ends i).2)) in
    let valid : is_valid s all false ≡ true =
    (λ i. (not (ends i).3 || (false || list_any (λ (r : Row). explicit_source r.source) all))
    && ((not (ends i).4 || false) && ((ends i).6 && (((ends i).5 && false) || list_all (λ (a : Rule). not a.required || is_given a.id all) s.rules))))
    ∙ (λ i. list_all (λ (a : Rule). not a.required || given a.id i) s.rules)
    ∙ (λ i. list_all (λ (a : Rule). not a.required || given_is a.id (given_options ++ (id, Some value) ∷ []) i) s.rules) ∙ (λ i. (ends i).7) in
    reads s words end rows all run (rw (rows_of-append given_options ((id, Some value) ∷ [])) held) is defaults valid

-- the same of words that begin with the options, for a command without default values
pub options_read : (s : Shape) (os : Options) (id value : Text) → HasOptions s [] os → HasEnd s os id value → HasNoDefaults s → ArePlain os → is_plain_word value ≡ true
    → reading s (words_of os (value ∷ [])) ≡ (true, rows_of (os ++ (id, Some value) ∷ []))
options_read s os id value has ends without_defaults plain p =
    let rows = rows_of (os ++ (id, Some value) ∷ []) in
    let none = no_defaults s.rules rows without_defaults in
    read_after s (words_of os (value ∷ [])) nothing_held [] os id value rows refl (record { comes_to = refl; none_skipped = refl; passes = refl }) has ends plain p none.0 none.1 (λ i. refl)
