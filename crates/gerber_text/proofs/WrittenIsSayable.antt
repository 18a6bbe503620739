-- What the grammar of items writes is sayable.
use Rattle.gerber_text.proofs.Common.{◌≡◌, ◌≢◌, ◌⊎◌, inl, inr, ℕ, suc, ◌+◌, ◌≤◌, Bool, true, false, cond, not, ◌||◌, ◌&&◌, eqb, leb, List, [], ◌∷◌, ◌++◌, length, map, ℤ, Option, Some, None, is_some, Ok, Contains, refl, sym, ap, ◌∙◌, arith, lit≤, codes, decimal, bytes_eq, list_all, list_any, join_with_byte, AllByRecursion, length-append, All-contains, All-from_recursion, recursion_from_All, list_all-append, AllPass-from_list_all, le-leb, nat_tests, item_limit, parse_decimal, and_true, both_true, or_is_false, list_all_append, Strict, Command, Comment, FormatIs, Define, Macro, Select, Operate, Turn, Scale, Repeat, Attribute, Remove, Action, Plot, Circle, Rectangle, Obround, Polygon, Template, canonical, is_negative_comment, is_negative_image, int_of, nat_of, standard_template, min_sizes, max_sizes, is_plot, NamesInt, fixed_words, modes, IsOperation, IsWord, HasNo, fixed_pieces, standards, IsMacroName, IsTemplate, SpellsOne, IsPiece, bytes_are, is_not_break, IsItemIn, is_text_byte, is_text, is_optional_text, is_optional_int, is_dec, is_macro_name, is_template, has_valid_fields, is_short, is_sayable, repeated_in}
use Rattle.std.specs.Prelude.{All}
use Rattle.gerber_commands.specs.declared.command.AttributeKind.TheVariants as kinds
use Rattle.gerber_commands.specs.declared.command.Template.TheVariants as templates
use Rattle.gerber_commands.specs.PieceGrammar.{field}
use Rattle.gerber_text.proofs.FieldRangeLemmas.{was_nat, was_int, was_dec}
use Rattle.gerber_text.proofs.LengthLemmas.{is_bounded, bounded_short, short_true, comment_test, attribute_test, removal_test, macro_test, named_test, plain_test, standard_test}
use Rattle.gerber_text.proofs.PieceLemmas.{starred, joined_ends}
use Rattle.gerber_text.proofs.RunLemmas.{all_parts}

-- ---- commands

-- a command whose item is within the limit where a number is within another
limited : (c : Command) (n most : ℕ) → has_valid_fields c ≡ true → leb n most ≡ is_short c → n ≤ most → is_sayable c ≡ true
limited c n most h e l = and_true (has_valid_fields c) (is_short c) h (sym e ∙ le-leb n most l)

-- a command whose item is never too long
pub bounded : (c : Command) → has_valid_fields c ≡ true → is_bounded c ≡ true → is_sayable c ≡ true
bounded c h b = limited c 0 0 h (short_true c (bounded_short c h b)) (lit≤ tt)

alone : (c : Command) (cs : List Command) → cs ≡ c ∷ [] → is_sayable c ≡ true → list_all is_sayable cs ≡ true
alone c cs is h = ap (list_all is_sayable) is ∙ ap (λ t. t && true) h

-- commands that are always written alike
form_sayable : (forms : List (List ℕ × List Command)) (form : List ℕ × List Command) → list_all (λ f. list_all is_sayable f.1) forms ≡ true → Contains forms form → list_all is_sayable form.1 ≡ true
form_sayable forms form h at = All-contains (λ (f : List ℕ × List Command). list_all is_sayable f.1 ≡ true) forms form (AllPass-from_list_all (λ (f : List ℕ × List Command). list_all is_sayable f.1) forms h) at

words_sayable : list_all (λ f. list_all is_sayable f.1) fixed_words ≡ true
unfolding has_valid_fields canonical
words_sayable = refl

modes_sayable : list_all (λ f. list_all is_sayable f.1) modes ≡ true
unfolding has_valid_fields canonical
modes_sayable = refl

pieces_sayable : list_all (λ f. list_all is_sayable f.1) fixed_pieces ≡ true
unfolding has_valid_fields canonical
pieces_sayable = refl

-- ---- bytes

-- neither `%` nor a line break
is_half : ℕ → Bool
is_half b = not (eqb b 37) && is_not_break b

halves : (bytes : List ℕ) → list_all is_not_break bytes ≡ true → HasNo 37 bytes → list_all is_half bytes ≡ true
unfolding is_half
halves [] h k = refl
halves (b ∷ bytes) h k =
    let kept = both_true (is_not_break b) (list_all is_not_break bytes) h in
    let percent = or_is_false (eqb b 37) (list_any (λ c. eqb c 37) bytes) k in
    λ i. (not (percent.0 i) && kept.0 i) && halves bytes kept.1 percent.1 i

text_byte : (b : ℕ) → is_half b ≡ true → eqb b 42 ≡ false → is_text_byte b ≡ true
unfolding is_half
text_byte b h e = grind (arith, nat_tests)

all_text : (bytes : List ℕ) → list_all is_half bytes ≡ true → HasNo 42 bytes → is_text bytes ≡ true
all_text [] h k = refl
all_text (b ∷ bytes) h k =
    let half = both_true (is_half b) (list_all is_half bytes) h in
    let star = or_is_false (eqb b 42) (list_any (λ c. eqb c 42) bytes) k in
    and_true (is_text_byte b) (is_text bytes) (text_byte b half.0 star.0) (all_text bytes half.1 star.1)

-- ---- words

named_int : (run : Option (List ℕ)) (v : Option ℤ) → NamesInt run v → (is_optional_int v ≡ true) × (is_some v ≡ is_some run)
named_int None None e = (refl, refl)
named_int None (Some v) e = absurd cc
named_int (Some run) None e = absurd cc
named_int (Some run) (Some v) e = let is : int_of run ≡ Ok v = cc in (was_int run v is, refl)

plot_alone : (what : Action) (i j : Option (List ℕ)) → (what ≡ Plot) ⊎ ((i ≡ None) × (j ≡ None)) → (is_plot what || not (is_some i || is_some j)) ≡ true
plot_alone what i j (inl is) = ap (λ (a : Action). is_plot a || not (is_some i || is_some j)) is
plot_alone what i j (inr none) = (λ k. is_plot what || not (is_some (none.0 k) || is_some (none.1 k))) ∙ or_true (is_plot what)
  where
    or_true : (t : Bool) → (t || true) ≡ true
    or_true true = refl
    or_true false = refl

operation_sayable : (repeated : Option Action) (w : List ℕ) (cs : List Command) → IsOperation repeated w cs → list_all is_sayable cs ≡ true
unfolding has_valid_fields is_bounded
operation_sayable repeated w cs o =
    let x = named_int o.x o.at.0 o.names.0 in
    let y = named_int o.y o.at.1 o.names.1 in
    let i = named_int o.i o.offset.0 o.names.2 in
    let j = named_int o.j o.offset.1 o.names.3 in
    let plots = (λ k. is_plot o.what || not (i.1 k || j.1 k)) ∙ plot_alone o.what o.i o.j o.plots in
    let c = Operate o.what o.at.0 o.at.1 o.offset.0 o.offset.1 in
    let one : is_sayable c ≡ true = bounded c (λ k. (x.0 k && y.0 k) && ((i.0 k && j.0 k) && plots k)) refl in
    ap (list_all is_sayable) o.is ∙ (list_all-append is_sayable o.mode.1 (c ∷ []) ∙ (λ k. form_sayable (([], []) ∷ modes) o.mode modes_sayable o.mode_is k && (one k && true)))

word_sayable : (repeated : Option Action) (w : List ℕ) (cs : List Command) → IsWord repeated w cs → list_all is_not_break w ≡ true → HasNo 42 w → length w + 1 ≤ item_limit → list_all is_sayable cs ≡ true
unfolding has_valid_fields is_bounded
word_sayable repeated w cs (inl at) h k l = form_sayable fixed_words (w, cs) words_sayable at
word_sayable repeated w cs (inr (inl at)) h k l = form_sayable modes (w, cs) modes_sayable at
word_sayable repeated w cs (inr (inr (inl (text, is, spelled, positive, percent)))) h k l =
    let said = all_text text (halves text (ap (list_all is_not_break) (sym is) ∙ h) percent) (ap (list_any (λ b. eqb b 42)) (sym is) ∙ k) in
    let valid : (is_text text && not (is_negative_comment text)) ≡ true = λ i. said i && not (positive i) in
    alone (Comment text) cs spelled (limited (Comment text) (length text) 1048572 valid (comment_test (Comment text) text refl valid) (omega (arith, l, ap length is)))
word_sayable repeated w cs (inr (inr (inr (inl (digits, n, is, e, ten, spelled))))) h k l = alone (Select n) cs spelled (bounded (Select n) (λ i. le-leb 10 n ten i && (was_nat digits n e).range i) refl)
word_sayable repeated w cs (inr (inr (inr (inr o)))) h k l = operation_sayable repeated w cs o

-- ---- apertures

other_name : (name form : List ℕ) → form ≢ name → bytes_eq name form ≡ false
other_name name form h = by (bytes_eq name form) refl
  where
    by : (t : Bool) → bytes_eq name form ≡ t → t ≡ false
    by true e = absurd (h (sym (bytes_are name form e)))
    by false e = refl

macro_name : (name : List ℕ) → IsMacroName name → is_macro_name name ≡ true
macro_name name h =
    let k = recursion_from_All (λ s. s.0 ≢ name) standards h.1 in
    let none : standard_template name ≡ None =
    (λ i. cond (other_name name (codes "C") k.0 i) (Some Circle) (cond (other_name name (codes "R") k.1.0 i) (Some Rectangle) (cond (other_name name (codes "O") k.1.1.0 i) (Some Obround) (cond (other_name name (codes "P") k.1.1.1.0 i) (Some Polygon) None)))) in
    λ i. h.0 i && not (is_some (none i))

read_sizes : (runs : List (List ℕ)) (sizes : List ℤ) → map parse_decimal runs ≡ map Ok sizes → (list_all is_dec sizes ≡ true) × (length sizes ≡ length runs)
read_sizes [] [] e = (refl, refl)
read_sizes [] (v ∷ vs) e = absurd cc
read_sizes (run ∷ runs) [] e = absurd cc
read_sizes (run ∷ runs) (v ∷ vs) e =
    let first : parse_decimal run ≡ Ok v = cc in
    let others : map parse_decimal runs ≡ map Ok vs = cc in
    let k = read_sizes runs vs others in
    (λ i. was_dec run v first i && k.0 i, ap suc k.1)

sizes_listed : AllByRecursion (λ s. (s.2 ≡ min_sizes s.1) × (s.3 ≡ max_sizes s.1)) standards
sizes_listed = ((refl, refl), ((refl, refl), ((refl, refl), ((refl, refl), tt))))

parameters_text : (name : List ℕ) (parameters : Option (List ℕ)) → is_text (name ++ field (codes ",") parameters) ≡ true → is_optional_text parameters ≡ true
parameters_text name None h = refl
parameters_text name (Some text) h = (all_parts is_text_byte name (44 ∷ text) h).1

template_valid : (rest : List ℕ) (t : Template) → IsTemplate rest t → is_text rest ≡ true → is_template t ≡ true
template_valid rest (templates.Standard which sizes) (letter, least, most, runs, at, is, few, many, read) h =
    let s = All-contains (λ s. (s.2 ≡ min_sizes s.1) × (s.3 ≡ max_sizes s.1)) standards (letter, which, least, most) (All-from_recursion (λ s. (s.2 ≡ min_sizes s.1) × (s.3 ≡ max_sizes s.1)) standards sizes_listed) at in
    let k = read_sizes runs sizes read in
    λ i. k.0 i && (le-leb (min_sizes which) (length sizes) (omega (arith, s.0, few, k.1)) i && le-leb (length sizes) (max_sizes which) (omega (arith, s.1, many, k.1)) i)
template_valid rest (templates.Named name parameters) (named, is) h = λ i. macro_name name named i && parameters_text name parameters (ap is_text (sym is) ∙ h) i

define_sayable : (digits rest : List ℕ) (n : ℕ) (t : Template) → has_valid_fields (Define n t) ≡ true → nat_of digits ≡ Ok n → IsTemplate rest t → 6 + (length digits + length rest) ≤ item_limit → is_sayable (Define n t) ≡ true
define_sayable digits rest n (templates.Standard which sizes) valid e k l = limited (Define n (templates.Standard which sizes)) 0 0 valid (standard_test n (templates.Standard which sizes) which sizes refl valid) (lit≤ tt)
define_sayable digits rest n (templates.Named name None) valid e k l = limited (Define n (templates.Named name None)) 0 0 valid (plain_test n name None refl valid) (lit≤ tt)
define_sayable digits rest n (templates.Named name (Some text)) valid e k l =
    limited (Define n (templates.Named name (Some text))) (7 + (length (decimal n) + (length name + length text))) item_limit valid (named_test n name text (Some text) refl valid) (omega (arith, l, (was_nat digits n e).short, ap length k.1, length-append name (44 ∷ text)))

-- ---- macros

texts_of : (pieces : List (List ℕ)) → list_all is_half (starred pieces) ≡ true → AllByRecursion (HasNo 42) pieces → list_all is_text pieces ≡ true
texts_of [] h k = refl
texts_of (piece ∷ pieces) h k =
    let parts = all_parts is_half (piece ++ 42 ∷ []) (starred pieces) h in
    λ i. all_text piece (all_parts is_half piece (42 ∷ []) parts.0).0 k.0 i && texts_of pieces parts.1 k.1 i

macro_sayable : (name : List ℕ) (pieces : List (List ℕ)) → IsMacroName name → All (HasNo 42) pieces → list_all is_half (join_with_byte 42 (name ∷ pieces)) ≡ true → length (join_with_byte 42 (name ∷ pieces)) + 5 ≤ item_limit → is_sayable (Macro name pieces) ≡ true
unfolding has_valid_fields is_half
macro_sayable name pieces m k h l =
    let text = join_with_byte 42 (name ∷ pieces) in
    let ends : name ++ 42 ∷ (starred pieces ++ []) ≡ text ++ 42 ∷ [] = joined_ends name pieces [] in
    let after = all_parts is_half name (42 ∷ (starred pieces ++ [])) (ap (list_all is_half) ends ∙ list_all_append is_half text (42 ∷ []) h refl) in
    let said = texts_of pieces (all_parts is_half (starred pieces) [] after.1).0 (recursion_from_All (HasNo 42) pieces k) in
    let valid : (is_macro_name name && list_all is_text pieces) ≡ true = λ i. macro_name name m i && said i in
    limited (Macro name pieces) (5 + (length name + length (starred pieces))) item_limit valid (macro_test (Macro name pieces) name pieces refl valid)
    (omega (arith, l, ap length ends, length-append name (42 ∷ (starred pieces ++ [])), length-append (starred pieces) [], length-append text (42 ∷ [])))

-- ---- pieces

one_sayable : (text : List ℕ) (c : Command) → SpellsOne text c → is_text text ≡ true → length text + 3 ≤ item_limit → is_sayable c ≡ true
unfolding has_valid_fields is_bounded
one_sayable text (FormatIs f) (whole, decimals, some, is) h l = bounded (FormatIs f) (λ i. le-leb f.whole 6 whole i && (le-leb f.decimals 6 decimals i && le-leb 1 (f.whole + f.decimals) (omega (arith, some)) i)) refl
one_sayable text (Define n t) (digits, rest, e, ten, k, is) h l =
    let parts = all_parts is_text_byte digits rest (ap is_text (sym is) ∙ h) in
    define_sayable digits rest n t (λ i. (le-leb 10 n ten i && (was_nat digits n e).range i) && template_valid rest t k parts.1 i) e k (omega (arith, l, ap length is, length-append digits rest))
one_sayable text (Turn v) (run, is, e) h l = bounded (Turn v) (was_dec run v e) refl
one_sayable text (Scale v) (run, is, e) h l = bounded (Scale v) (was_dec run v e) refl
one_sayable text (Repeat b) (x, y, i, j, is, hx, hy, hi, hj) h l = bounded (Repeat b) (λ k. ((was_nat x b.columns hx).range k && (was_nat y b.rows hy).range k) && (was_dec i b.step_x hi k && was_dec j b.step_y hj k)) refl
one_sayable text (Attribute kinds.File value) (is, positive) h l =
    let valid : (is_text value && not (is_negative_image value)) ≡ true = λ i. (ap is_text (sym is) ∙ h) i && not (positive i) in
    limited (Attribute kinds.File value) (length value) 1048571 valid (attribute_test (Attribute kinds.File value) kinds.File value refl valid) (omega (arith, l, ap length is))
one_sayable text (Attribute kinds.Aperture value) is h l = let valid = ap is_text (sym is) ∙ h in limited (Attribute kinds.Aperture value) (length value) 1048571 valid (attribute_test (Attribute kinds.Aperture value) kinds.Aperture value refl valid) (omega (arith, l, ap length is))
one_sayable text (Attribute kinds.Object value) is h l = let valid = ap is_text (sym is) ∙ h in limited (Attribute kinds.Object value) (length value) 1048571 valid (attribute_test (Attribute kinds.Object value) kinds.Object value refl valid) (omega (arith, l, ap length is))
one_sayable text (Remove value) is h l = let valid = ap is_text (sym is) ∙ h in limited (Remove value) (length value) 1048571 valid (removal_test (Remove value) value refl valid) (omega (arith, l, ap length is))
one_sayable text c h k l = absurd h

piece_sayable : (text : List ℕ) (cs : List Command) → IsPiece text cs → list_all is_half text ≡ true → length text + 3 ≤ item_limit → list_all is_sayable cs ≡ true
unfolding is_half
piece_sayable text cs (inl (name, pieces, m, k, is, spelled)) h l = alone (Macro name pieces) cs spelled (macro_sayable name pieces m k (ap (list_all is_half) (sym is) ∙ h) (omega (arith, l, ap length is)))
piece_sayable text cs (inr (star, inl at)) h l = form_sayable fixed_pieces (text, cs) pieces_sayable at
piece_sayable text cs (inr (star, inr (inl (c, one, spelled)))) h l = alone c cs spelled (one_sayable text c one (all_text text h star) l)
piece_sayable text cs (inr (star, inr (inr (idle, none)))) h l = ap (list_all is_sayable) none

-- ---- items

-- each command of an item that the grammar writes is sayable
pub item_sayable : (latest : Option Action) (item : List ℕ) (cs : List Command) → IsItemIn Strict latest item cs → list_all is_not_break item ≡ true → length item ≤ item_limit → list_all is_sayable cs ≡ true
item_sayable latest item cs (inl (w, is, star, written)) h l =
    word_sayable (repeated_in Strict latest) w cs written (all_parts is_not_break w (42 ∷ []) (ap (list_all is_not_break) (sym is) ∙ h)).0 star (omega (arith, l, ap length is, length-append w (42 ∷ [])))
item_sayable latest item cs (inr (text, is, percent, written)) h l =
    let kept = (all_parts is_not_break text (42 ∷ 37 ∷ []) (ap (list_all is_not_break) (sym is) ∙ h)).0 in
    piece_sayable text cs written (halves text kept percent) (omega (arith, l, ap length is, length-append text (42 ∷ 37 ∷ [])))
