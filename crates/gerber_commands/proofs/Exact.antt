-- A word that is written for commands is read as these.
use Rattle.gerber_commands.proofs.Common.{◌≡◌, ℕ, zero, suc, ◌<◌, ◌≤◌, ◌⊎◌, inl, inr, Bool, true, false, cond, not, ◌||◌, ◌&&◌, eqb, leb, List, [], ◌∷◌, ◌++◌, length, slice_index_or, Option, Some, None, is_some, is_ok, Ok, Err, refl, sym, ap, subst, ◌∙◌, arith, append_assoc, codes, option_map, option_or, list_all, AllByRecursion, All-contains, All-from_recursion, bytes_eq, eqb-true, le-leb, BadWord, NegativeImage, is_digit, ◌>>=◌, both, Command, Comment, Mode, RegionStart, RegionEnd, Select, Operate, Interpolation, Linear, Clockwise, Counterclockwise, Action, Plot, Move, Flash, Meaning, Row, first_match, modes_of, is_negative_comment, comment_row, action, digits_after, named_action, is_plot, Fields, is_operation, words_after_comment, words, NamesInt, fixed_words, modes, code, IsComment, IsSelection, IsOperation, IsWord, digits_numbers}
use Rattle.std.proofs.Common.{ℤ, Contains}
use Rattle.gerber_commands.specs.Numbers.{nat_of}
use Rattle.gerber_commands.specs.Words.{no_effect_row, comment, split_mode, mode_row, quadrant_row, region_row, unit_row, incremental_row, d_word, g54_word, select_row, kind, fields, is_action_code, operands, operate, operation_row, finish_row, deprecated_row, word}
use Rattle.gerber_commands.specs.WordGrammar.{field}
use Rattle.gerber_commands.proofs.FieldLemmas.{some_is, AllPass, NoPercent, nat_digits, names_numbers, names_read, names_none, written_fields, fields_read, numbers_no_percent, append_no_percent, fields_no_percent}

-- what holds of each element holds of this one
each : {X : Type 0} (P : X → Type 0) (xs : List X) (x : X) → AllByRecursion P xs → Contains xs x → P x
each P xs x h at = All-contains P xs x (All-from_recursion P xs h) at

-- ---- rows that a word does not fit

not_zero : (n : ℕ) → eqb (suc n) 0 ≡ false
not_zero n = by (eqb (suc n) 0) refl
  where
    by : (t : Bool) → eqb (suc n) 0 ≡ t → eqb (suc n) 0 ≡ false
    by true e = absurd (omega (arith, eqb-true (suc n) 0 e))
    by false e = e

-- no row fits a word that begins so, but those of interpolations and operations
abbrev Passes : List ℕ → Type 0
Passes text = (no_effect_row text ≡ None) × (comment_row text ≡ None) × (quadrant_row text ≡ None) × (region_row text ≡ None) × (unit_row text ≡ None) × (incremental_row text ≡ None) × (select_row text ≡ None) × (finish_row text ≡ None) × (deprecated_row text ≡ None)

nothing_is : (b : ℕ) (bs : List ℕ) (t : Bool) → t ≡ false → cond {A = Row} (eqb (length (b ∷ bs)) 0 || t) (Some (Ok [])) None ≡ None
nothing_is b bs t e = λ i. cond {A = Row} (not_zero (length bs) i || e i) (Some (Ok [])) None

-- what such a word is read as, where this interpolation stands in front
reads_as : Option Action → Option Interpolation → List ℕ → Meaning
reads_as last m rest = cond (is_operation (fields rest)) (operate last m (fields rest)) (Err BadWord)

no_mode : (text : List ℕ) (m : Option Interpolation) (b : ℕ) (bs : List ℕ) → split_mode text ≡ (m, b ∷ bs) → mode_row text ≡ None
unfolding mode_row
no_mode text m b bs e =
    ap (λ (s : Option Interpolation × List ℕ). cond {A = Row} (eqb (length s.1) 0) (option_map (λ mode. Ok (Mode mode ∷ [])) s.0) None) e
    ∙ ap (λ t. cond {A = Row} t (option_map (λ mode. Ok (Mode mode ∷ [])) m) None) (not_zero (length bs))

operation_fits : (last : Option Action) (text : List ℕ) (m : Option Interpolation) (rest : List ℕ) → split_mode text ≡ (m, rest) → first_match (operation_row last text ∷ None ∷ None ∷ []) ≡ reads_as last m rest
unfolding operation_row reads_as
operation_fits last text m rest e =
    ap (λ (s : Option Interpolation × List ℕ). first_match (cond (is_operation (fields s.1)) (Some (operate last s.0 (fields s.1))) None ∷ None ∷ None ∷ [])) e
    ∙ by (is_operation (fields rest))
  where
    by : (t : Bool) → first_match (cond t (Some (operate last m (fields rest))) None ∷ None ∷ None ∷ []) ≡ cond t (operate last m (fields rest)) (Err BadWord)
    by true = refl
    by false = refl

fits : (last : Option Action) (text : List ℕ) (m : Option Interpolation) (b : ℕ) (bs : List ℕ) → Passes text → split_mode text ≡ (m, b ∷ bs) → first_match (words last text) ≡ reads_as last m (b ∷ bs)
fits last text m b bs p e =
    (λ i. first_match (p.0 i ∷ p.1 i ∷ no_mode text m b bs e i ∷ p.2 i ∷ p.3 i ∷ p.4 i ∷ p.5 i ∷ p.6 i ∷ operation_row last text ∷ p.7 i ∷ p.8 i ∷ []))
    ∙ operation_fits last text m (b ∷ bs) e

-- ---- after an interpolation

-- how a word of this interpolation and these fields is read
abbrev Reads : Option Action → List ℕ × List Command → List ℕ → Type 0
Reads last mode rest = (m : Option Interpolation) × (mode.1 ≡ modes_of m) × (first_match (words last (mode.0 ++ rest)) ≡ reads_as last m rest)

-- `G36` and `G37` begin as `G3` does
not_region : (b : ℕ) (bs : List ℕ) → eqb b 54 ≡ false → eqb b 55 ≡ false → region_row (71 ∷ 51 ∷ b ∷ bs) ≡ None
unfolding region_row
not_region b bs six seven = λ i. cond {A = Row} (six i && bytes_eq bs []) (Some (Ok (RegionStart ∷ []))) (cond (seven i && bytes_eq bs []) (Some (Ok (RegionEnd ∷ []))) None)

linear : (last : Option Action) (b : ℕ) (bs : List ℕ) → Reads last (codes "G01", Mode Linear ∷ []) (b ∷ bs)
unfolding no_effect_row split_mode quadrant_row region_row unit_row incremental_row select_row finish_row deprecated_row
linear last b bs = (Some Linear, refl, fits last (71 ∷ 48 ∷ 49 ∷ b ∷ bs) (Some Linear) b bs (nothing_is 71 (48 ∷ 49 ∷ b ∷ bs) false refl, refl, refl, refl, refl, refl, refl, refl, refl) refl)

short_linear : (last : Option Action) (b : ℕ) (bs : List ℕ) → Reads last (codes "G1", Mode Linear ∷ []) (b ∷ bs)
unfolding no_effect_row split_mode quadrant_row region_row unit_row incremental_row select_row finish_row deprecated_row
short_linear last b bs = (Some Linear, refl, fits last (71 ∷ 49 ∷ b ∷ bs) (Some Linear) b bs (nothing_is 71 (49 ∷ b ∷ bs) false refl, refl, refl, refl, refl, refl, refl, refl, refl) refl)

clockwise : (last : Option Action) (b : ℕ) (bs : List ℕ) → Reads last (codes "G02", Mode Clockwise ∷ []) (b ∷ bs)
unfolding no_effect_row split_mode quadrant_row region_row unit_row incremental_row select_row finish_row deprecated_row
clockwise last b bs = (Some Clockwise, refl, fits last (71 ∷ 48 ∷ 50 ∷ b ∷ bs) (Some Clockwise) b bs (nothing_is 71 (48 ∷ 50 ∷ b ∷ bs) false refl, refl, refl, refl, refl, refl, refl, refl, refl) refl)

short_clockwise : (last : Option Action) (b : ℕ) (bs : List ℕ) → Reads last (codes "G2", Mode Clockwise ∷ []) (b ∷ bs)
unfolding no_effect_row split_mode quadrant_row region_row unit_row incremental_row select_row finish_row deprecated_row
short_clockwise last b bs = (Some Clockwise, refl, fits last (71 ∷ 50 ∷ b ∷ bs) (Some Clockwise) b bs (nothing_is 71 (50 ∷ b ∷ bs) false refl, refl, refl, refl, refl, refl, refl, refl, refl) refl)

counterclockwise : (last : Option Action) (b : ℕ) (bs : List ℕ) → Reads last (codes "G03", Mode Counterclockwise ∷ []) (b ∷ bs)
unfolding no_effect_row split_mode quadrant_row region_row unit_row incremental_row select_row finish_row deprecated_row
counterclockwise last b bs = (Some Counterclockwise, refl, fits last (71 ∷ 48 ∷ 51 ∷ b ∷ bs) (Some Counterclockwise) b bs (nothing_is 71 (48 ∷ 51 ∷ b ∷ bs) false refl, refl, refl, refl, refl, refl, refl, refl, refl) refl)

short_counterclockwise : (last : Option Action) (b : ℕ) (bs : List ℕ) → eqb b 54 ≡ false → eqb b 55 ≡ false → Reads last (codes "G3", Mode Counterclockwise ∷ []) (b ∷ bs)
unfolding no_effect_row split_mode quadrant_row region_row unit_row incremental_row select_row finish_row deprecated_row
short_counterclockwise last b bs six seven =
    (Some Counterclockwise, refl, fits last (71 ∷ 51 ∷ b ∷ bs) (Some Counterclockwise) b bs (nothing_is 71 (51 ∷ b ∷ bs) false refl, refl, refl, not_region b bs six seven, refl, refl, refl, refl, refl) refl)

mode_reads : (last : Option Action) (b : ℕ) (bs : List ℕ) → eqb b 54 ≡ false → eqb b 55 ≡ false → (mode : List ℕ × List Command) → Contains modes mode → Reads last mode (b ∷ bs)
mode_reads last b bs six seven mode at =
    each (λ w. Reads last w (b ∷ bs)) modes mode
    (linear last b bs, (short_linear last b bs, (clockwise last b bs, (short_clockwise last b bs, (counterclockwise last b bs, (short_counterclockwise last b bs six seven, tt)))))) at

-- the fields of an operation
abbrev the_fields : Option (List ℕ) → Option (List ℕ) → Option (List ℕ) → Option (List ℕ) → Option (List ℕ) → Fields
the_fields x y i j d = record { x = x; y = y; i = i; j = j; d = d; rest = [] }

-- a field stands
abbrev SomeStands : Option (List ℕ) → Option (List ℕ) → Option (List ℕ) → Option (List ℕ) → Option (List ℕ) → Type 0
SomeStands x y i j d = (is_some x || (is_some y || (is_some i || (is_some j || (is_some d || false))))) ≡ true

after_mode : (last : Option Action) (x y i j d : Option (List ℕ)) → SomeStands x y i j d → (mode : List ℕ × List Command) → Contains modes mode → Reads last mode (written_fields (the_fields x y i j d))
after_mode last (Some r) y i j d some mode at = mode_reads last 88 _ refl refl mode at
after_mode last None (Some r) i j d some mode at = mode_reads last 89 _ refl refl mode at
after_mode last None None (Some r) j d some mode at = mode_reads last 73 _ refl refl mode at
after_mode last None None None (Some r) d some mode at = mode_reads last 74 _ refl refl mode at
after_mode last None None None None (Some r) some mode at = mode_reads last 68 _ refl refl mode at
after_mode last None None None None None some mode at = absurd cc

-- ---- with no interpolation in front

no_mode_reads : (last : Option Action) (x y i j d : Option (List ℕ)) → (is_some x || (is_some y || (is_some i || is_some j))) ≡ true → Reads last ([], []) (written_fields (the_fields x y i j d))
unfolding no_effect_row split_mode quadrant_row region_row unit_row incremental_row select_row finish_row deprecated_row
no_mode_reads last (Some r) y i j d some =
    (None, refl, fits last (written_fields (the_fields (Some r) y i j d)) None 88 _ (nothing_is 88 _ false refl, refl, refl, refl, refl, refl, refl, refl, refl) refl)
no_mode_reads last None (Some r) i j d some =
    (None, refl, fits last (written_fields (the_fields None (Some r) i j d)) None 89 _ (nothing_is 89 _ false refl, refl, refl, refl, refl, refl, refl, refl, refl) refl)
no_mode_reads last None None (Some r) j d some =
    (None, refl, fits last (written_fields (the_fields None None (Some r) j d)) None 73 _ (nothing_is 73 _ false refl, refl, refl, refl, refl, refl, refl, refl, refl) refl)
no_mode_reads last None None None (Some r) d some =
    (None, refl, fits last (written_fields (the_fields None None None (Some r) d)) None 74 _ (nothing_is 74 _ false refl, refl, refl, refl, refl, refl, refl, refl, refl) refl)
no_mode_reads last None None None None d some = absurd cc

-- ---- words without `%`

word_fits : (last : Option Action) (text : List ℕ) → NoPercent text → word last text ≡ first_match (words last text)
unfolding word
word_fits last text h = ap (λ t. cond t (Err BadWord) (first_match (words last text))) h

-- ---- D codes alone

d_reads : (last : Option Action) (digits : List ℕ) → list_all is_digit digits ≡ true → word last (68 ∷ digits) ≡ d_word digits
unfolding no_effect_row mode_row split_mode quadrant_row region_row unit_row incremental_row select_row
d_reads last digits h =
    let w : List ℕ = 68 ∷ digits in
    word_fits last w (numbers_no_percent digits (digits_numbers digits h))
    ∙ (λ i. first_match (nothing_is 68 digits false refl i ∷ comment_row w ∷ cond (not_zero (length digits) i) None None ∷ quadrant_row w ∷ region_row w ∷ unit_row w ∷ incremental_row w ∷ select_row w ∷ operation_row last w ∷ finish_row w ∷ deprecated_row w ∷ []))
    ∙ ap (λ t. first_match (option_or (option_map d_word (cond t (Some digits) None)) (option_map g54_word (digits_after (codes "G54D") w)) ∷ operation_row last w ∷ finish_row w ∷ deprecated_row w ∷ [])) h

g54_reads : (last : Option Action) (digits : List ℕ) → list_all is_digit digits ≡ true → word last (71 ∷ 53 ∷ 52 ∷ 68 ∷ digits) ≡ g54_word digits
unfolding no_effect_row mode_row split_mode quadrant_row region_row unit_row incremental_row select_row
g54_reads last digits h =
    let w : List ℕ = 71 ∷ 53 ∷ 52 ∷ 68 ∷ digits in
    word_fits last w (numbers_no_percent digits (digits_numbers digits h))
    ∙ (λ i. first_match (nothing_is 71 (53 ∷ 52 ∷ 68 ∷ digits) false refl i ∷ comment_row w ∷ cond (not_zero (length (53 ∷ 52 ∷ 68 ∷ digits)) i) None None ∷ quadrant_row w ∷ region_row w ∷ unit_row w ∷ incremental_row w ∷ select_row w ∷ operation_row last w ∷ finish_row w ∷ deprecated_row w ∷ []))
    ∙ ap (λ t. first_match (option_map g54_word (cond t (Some digits) None) ∷ operation_row last w ∷ finish_row w ∷ deprecated_row w ∷ [])) h

selects : (digits : List ℕ) (n : ℕ) → nat_of digits ≡ Ok n → 10 ≤ n → (d_word digits ≡ Ok (Select n ∷ [])) × (g54_word digits ≡ Ok (Select n ∷ []))
unfolding d_word g54_word
selects digits n reads le = (
  (λ i. reads i >>= λ m. cond (leb 10 m) (Ok (Select m ∷ [])) (action m >>= λ what. Ok (Operate what None None None None ∷ []))) ∙ ap (λ t. cond t (Ok (Select n ∷ [])) (action n >>= λ what. Ok (Operate what None None None None ∷ []))) (le-leb 10 n le),
  (λ i. reads i >>= λ m. cond (leb 10 m) (Ok (Select m ∷ [])) (Err BadWord)) ∙ ap (λ t. cond t (Ok (Select n ∷ [])) (Err BadWord)) (le-leb 10 n le),
)

selection_exact : (last : Option Action) (text : List ℕ) (cs : List Command) → IsSelection text cs → word last text ≡ Ok cs
selection_exact last text cs h =
    let digits = h.0 in
    let n = h.1 in
    let all = nat_digits digits n h.3 in
    let s = selects digits n h.3 h.4 in
    elim h.2 [
      | inl is ↦ ap (word last) is ∙ d_reads last digits all ∙ s.0 ∙ ap (λ (c : List Command). Ok c) (sym h.5)
      | inr is ↦ ap (word last) is ∙ g54_reads last digits all ∙ s.1 ∙ ap (λ (c : List Command). Ok c) (sym h.5)
    ]

-- an answer
abbrev answer : List Command → Meaning
answer commands = Ok commands

operates : (digits : List ℕ) (what : Action) → nat_of digits ≡ Ok (code what) → d_word digits ≡ Ok (Operate what None None None None ∷ [])
unfolding d_word
operates digits what reads = (λ i. reads i >>= λ m. cond (leb 10 m) (Ok (Select m ∷ [])) (action m >>= λ done. Ok (Operate done None None None None ∷ []))) ∙ by what
  where
    by : (a : Action) → cond (leb 10 (code a)) (Ok (Select (code a) ∷ [])) (action (code a) >>= λ done. Ok (Operate done None None None None ∷ [])) ≡ answer (Operate a None None None None ∷ [])
    by Plot = refl
    by Move = refl
    by Flash = refl

-- ---- comments

comment_reads : (last : Option Action) (text : List ℕ) → is_negative_comment text ≡ false → NoPercent text → word last (71 ∷ 48 ∷ 52 ∷ text) ≡ Ok (Comment text ∷ [])
unfolding no_effect_row comment
comment_reads last text n p =
    let w : List ℕ = 71 ∷ 48 ∷ 52 ∷ text in
    word_fits last w p
    ∙ (λ i. first_match (nothing_is 71 (48 ∷ 52 ∷ text) false refl i ∷ comment_row w ∷ words_after_comment last w))
    ∙ ap (λ t. cond t (Err NegativeImage) (Ok (Comment text ∷ []))) n

comment_exact : (last : Option Action) (text : List ℕ) (cs : List Command) → IsComment text cs → word last text ≡ Ok cs
comment_exact last text cs h = ap (word last) h.1 ∙ comment_reads last h.0 h.3 h.4 ∙ ap (λ (c : List Command). Ok c) (sym h.2)

-- ---- words of one form, and interpolations alone

fixed_exact : (last : Option Action) (p : List ℕ × List Command) → Contains fixed_words p → word last p.0 ≡ Ok p.1
unfolding word no_effect_row mode_row split_mode quadrant_row region_row unit_row incremental_row select_row operation_row fields finish_row deprecated_row
fixed_exact last p at = each (λ w. word last w.0 ≡ Ok w.1) fixed_words p (refl, (refl, (refl, (refl, (refl, (refl, (refl, (refl, (refl, (refl, tt)))))))))) at

mode_exact : (last : Option Action) (p : List ℕ × List Command) → Contains modes p → word last p.0 ≡ Ok p.1
unfolding word no_effect_row mode_row split_mode
mode_exact last p at = each (λ w. word last w.0 ≡ Ok w.1) modes p (refl, (refl, (refl, (refl, (refl, (refl, tt)))))) at

mode_no_percent : (mode : List ℕ × List Command) → Contains modes mode → NoPercent mode.0
mode_no_percent mode at = each (λ w. NoPercent w.0) modes mode (refl, (refl, (refl, (refl, (refl, (refl, tt)))))) at

-- ---- what an operation does

-- by its D code, or the last operation again
abbrev Does : Option Action → Option (List ℕ) → Action → Type 0
Does last d what = (option_map nat_of d ≡ Some (Ok (code what))) ⊎ ((d ≡ None) × (last ≡ Some what))

-- only a plot has offsets
abbrev Plots : Option (List ℕ) → Option (List ℕ) → Action → Type 0
Plots i j what = (what ≡ Plot) ⊎ ((i ≡ None) × (j ≡ None))

does_digits : (last : Option Action) (d : Option (List ℕ)) (what : Action) → Does last d what → AllPass is_digit d
does_digits last None what h = refl
does_digits last (Some digits) what (inl e) = nat_digits digits (code what) (some_is (nat_of digits) (Ok (code what)) e)
does_digits last (Some digits) what (inr k) = absurd (let e : Some digits ≡ None = k.0 in cc)

without_offsets : (a : Action) (i j : Option (List ℕ)) → Plots i j a → ((is_some i || is_some j) && not (is_plot a)) ≡ false
without_offsets Plot i j h = by (is_some i || is_some j)
  where
    by : (t : Bool) → (t && false) ≡ false
    by true = refl
    by false = refl
without_offsets Move i j (inl e) = absurd cc
without_offsets Move i j (inr k) = λ t. (is_some (k.0 t) || is_some (k.1 t)) && true
without_offsets Flash i j (inl e) = absurd cc
without_offsets Flash i j (inr k) = λ t. (is_some (k.0 t) || is_some (k.1 t)) && true

action_code : (a : Action) → action (code a) ≡ Ok a
action_code Plot = refl
action_code Move = refl
action_code Flash = refl

named_reads : (last : Option Action) (d : Option (List ℕ)) (what : Action) → Does last d what → named_action d last ≡ Ok what
named_reads last None what (inl e) = absurd cc
named_reads last None what (inr k) = ap (named_action None) k.1
named_reads last (Some digits) what (inl e) = (λ t. some_is (nat_of digits) (Ok (code what)) e t >>= action) ∙ action_code what
named_reads last (Some digits) what (inr k) = absurd (let e : Some digits ≡ None = k.0 in cc)

kind_reads : (last : Option Action) (i j d : Option (List ℕ)) (what : Action) → Does last d what → Plots i j what → kind last (is_some i || is_some j) d ≡ Ok what
unfolding kind
kind_reads last i j d what does h =
    (λ t. named_reads last d what does t >>= λ done. cond ((is_some i || is_some j) && not (is_plot done)) (Err BadWord) (Ok done)) ∙ ap (λ t. cond t (Err BadWord) (Ok what)) (without_offsets what i j h)

is_code : (last : Option Action) (d : Option (List ℕ)) (what : Action) → Does last d what → is_action_code d ≡ (is_some d || false)
unfolding is_action_code
is_code last None what h = refl
is_code last (Some digits) what (inl e) = (λ t. is_ok (some_is (nat_of digits) (Ok (code what)) e t >>= action)) ∙ ap is_ok (action_code what)
is_code last (Some digits) what (inr k) = absurd (let e : Some digits ≡ None = k.0 in cc)

-- ---- operations

-- what the fields of an operation say
record Says (last : Option Action) (x y i j d : Option (List ℕ)) (what : Action) (at offset : Option ℤ × Option ℤ) : Type 0 where
  some : SomeStands x y i j d
  names : NamesInt x at.0 × NamesInt y at.1 × NamesInt i offset.0 × NamesInt j offset.1
  does : Does last d what
  plots : Plots i j what

operate_reads : (last : Option Action) (m : Option Interpolation) (x y i j d : Option (List ℕ)) (what : Action) (at offset : Option ℤ × Option ℤ) → Says last x y i j d what at offset
    → operate last m (the_fields x y i j d) ≡ Ok (modes_of m ++ Operate what at.0 at.1 offset.0 offset.1 ∷ [])
unfolding operate operands
operate_reads last m x y i j d what at offset h =
    let cx = names_read x at.0 h.names.0 in
    let cy = names_read y at.1 h.names.1 in
    let ci = names_read i offset.0 h.names.2 in
    let cj = names_read j offset.1 h.names.3 in
    let act = kind_reads last i j d what h.does h.plots in
    λ k. both (both (both (cx k) (cy k)) (both (ci k) (cj k))) (act k) >>= λ r. Ok (modes_of m ++ Operate r.1 r.0.0.0 r.0.0.1 r.0.1.0 r.0.1.1 ∷ [])

some_fit : (last : Option Action) (x y i j d : Option (List ℕ)) (what : Action) → Does last d what → SomeStands x y i j d → is_operation (the_fields x y i j d) ≡ true
some_fit last x y i j d what does some = ap (λ t. is_some x || (is_some y || (is_some i || (is_some j || t)))) (is_code last d what does) ∙ some

operation_reads : (last : Option Action) (mode : List ℕ × List Command) (x y i j d : Option (List ℕ)) (what : Action) (at offset : Option ℤ × Option ℤ) → Says last x y i j d what at offset → NoPercent mode.0
    → Reads last mode (written_fields (the_fields x y i j d)) → word last (mode.0 ++ written_fields (the_fields x y i j d)) ≡ Ok (mode.1 ++ Operate what at.0 at.1 offset.0 offset.1 ∷ [])
unfolding reads_as
operation_reads last mode x y i j d what at offset h clean r =
    let f = the_fields x y i j d in
    let xs = names_numbers x at.0 h.names.0 in
    let ys = names_numbers y at.1 h.names.1 in
    let is = names_numbers i offset.0 h.names.2 in
    let js = names_numbers j offset.1 h.names.3 in
    let ds = does_digits last d what h.does in
    word_fits last (mode.0 ++ written_fields f) (append_no_percent mode.0 (written_fields f) clean (fields_no_percent x y i j d xs ys is js ds))
    ∙ r.2
    ∙ ap (λ (g : Fields). cond (is_operation g) (operate last r.0 g) (Err BadWord)) (fields_read x y i j d xs ys is js ds)
    ∙ ap (λ t. cond t (operate last r.0 f) (Err BadWord)) (some_fit last x y i j d what h.does h.some)
    ∙ operate_reads last r.0 x y i j d what at offset h
    ∙ ap (λ (c : List Command). Ok (c ++ Operate what at.0 at.1 offset.0 offset.1 ∷ [])) (sym r.1)

-- a D code alone
code_reads : (last : Option Action) (d : Option (List ℕ)) (what : Action) (at offset : Option ℤ × Option ℤ) → Says last None None None None d what at offset → word last (field (codes "D") d) ≡ Ok (Operate what at.0 at.1 offset.0 offset.1 ∷ [])
code_reads last None what at offset h = absurd (let e = h.some in cc)
code_reads last (Some digits) what at offset h = elim h.does [
  | inl e ↦
      let reads : nat_of digits ≡ Ok (code what) = some_is (nat_of digits) (Ok (code what)) e in
      let x = names_none at.0 h.names.0 in
      let y = names_none at.1 h.names.1 in
      let i = names_none offset.0 h.names.2 in
      let j = names_none offset.1 h.names.3 in
      d_reads last digits (nat_digits digits (code what) reads) ∙ operates digits what reads ∙ (λ k. Ok (Operate what (sym x k) (sym y k) (sym i k) (sym j k) ∷ []))
  | inr k ↦ absurd (let e : Some digits ≡ None = k.0 in cc)
]

plain_reads : (last : Option Action) (x y i j d : Option (List ℕ)) (what : Action) (at offset : Option ℤ × Option ℤ) → Says last x y i j d what at offset
    → word last (written_fields (the_fields x y i j d)) ≡ Ok (Operate what at.0 at.1 offset.0 offset.1 ∷ [])
plain_reads last None None None None d what at offset h = code_reads last d what at offset h
plain_reads last (Some r) y i j d what at offset h = operation_reads last ([], []) (Some r) y i j d what at offset h refl (no_mode_reads last (Some r) y i j d refl)
plain_reads last None (Some r) i j d what at offset h = operation_reads last ([], []) None (Some r) i j d what at offset h refl (no_mode_reads last None (Some r) i j d refl)
plain_reads last None None (Some r) j d what at offset h = operation_reads last ([], []) None None (Some r) j d what at offset h refl (no_mode_reads last None None (Some r) j d refl)
plain_reads last None None None (Some r) d what at offset h = operation_reads last ([], []) None None None (Some r) d what at offset h refl (no_mode_reads last None None None (Some r) d refl)

front_reads : (last : Option Action) (mode : List ℕ × List Command) (x y i j d : Option (List ℕ)) (what : Action) (at offset : Option ℤ × Option ℤ) → Says last x y i j d what at offset → (k : ℕ) → k < 7 → slice_index_or (([], []) ∷ modes) k mode ≡ mode
    → word last (mode.0 ++ written_fields (the_fields x y i j d)) ≡ Ok (mode.1 ++ Operate what at.0 at.1 offset.0 offset.1 ∷ [])
front_reads last mode x y i j d what at offset h zero lt e =
    subst (λ (m : List ℕ × List Command). word last (m.0 ++ written_fields (the_fields x y i j d)) ≡ Ok (m.1 ++ Operate what at.0 at.1 offset.0 offset.1 ∷ [])) e (plain_reads last x y i j d what at offset h)
front_reads last mode x y i j d what at offset h (suc k) lt e =
    let is : Contains modes mode = (k, omega (arith, lt), e) in
    operation_reads last mode x y i j d what at offset h (mode_no_percent mode is) (after_mode last x y i j d h.some mode is)

operation_exact : (last : Option Action) (text : List ℕ) (cs : List Command) → IsOperation last text cs → word last text ≡ Ok cs
operation_exact last text cs o =
    let whole : text ≡ o.mode.0 ++ written_fields (the_fields o.x o.y o.i o.j o.d) = o.written ∙ simp append_assoc in
    let says : Says last o.x o.y o.i o.j o.d o.what o.at o.offset = record { some = o.some; names = o.names; does = o.does; plots = o.plots } in
    ap (word last) whole ∙ front_reads last o.mode o.x o.y o.i o.j o.d o.what o.at o.offset says o.mode_is.0 o.mode_is.1 o.mode_is.2 ∙ ap (λ (c : List Command). Ok c) (sym o.is)

-- ---- words

pub word_exact : (last : Option Action) (text : List ℕ) (commands : List Command) → IsWord last text commands → word last text ≡ Ok commands
word_exact last text cs (inl at) = fixed_exact last (text, cs) at
word_exact last text cs (inr (inl at)) = mode_exact last (text, cs) at
word_exact last text cs (inr (inr (inl h))) = comment_exact last text cs h
word_exact last text cs (inr (inr (inr (inl h)))) = selection_exact last text cs h
word_exact last text cs (inr (inr (inr (inr o)))) = operation_exact last text cs o

pub one_spelling : (last : Option Action) (text : List ℕ) (a b : List Command) → IsWord last text a → IsWord last text b → a ≡ b
one_spelling last text a b h k = let e : answer a ≡ Ok b = sym (word_exact last text a h) ∙ word_exact last text b k in cc
