-- How long canonical items are.
use Rattle.gerber_text.proofs.Common.{◌≡◌, ℕ, suc, ◌+◌, ◌-◌, ◌*◌, ◌≤◌, Bool, true, false, cond, not, ◌||◌, ◌&&◌, leb, List, [], ◌∷◌, ◌++◌, length, ℤ, Option, Some, None, is_some, refl, sym, ap, ◌∙◌, arith, lit≤, filter, decimal, list_all, length-append, leb-true, le-leb, Inch, Millimetre, Command, Comment, Mode, Quadrant, RegionStart, RegionEnd, UnitIs, FormatIs, Define, Macro, Select, Operate, Dark, Clear, Mirror, Turn, Scale, Repeat, RepeatEnd, Attribute, Remove, Finish, Linear, Clockwise, Counterclockwise, Single, Multi, Action, Plot, Move, Flash, Standard, Circle, Rectangle, Obround, Polygon, Template, is_negative_comment, is_negative_image, is_plot, is_name, standard_template, min_sizes, max_sizes, canonical, coordinate_text, action_code, sizes_text, standard_name, is_not_break, without_breaks, is_text_byte, is_text, is_nat, is_optional_int, is_dec, is_aperture_number, is_macro_name, are_parameters, is_operation, is_block, has_valid_fields, is_short, item_limit, both_true, list_all_weaker, list_all_append}
use Rattle.grid_units.specs.Spellings.{canonical as canonical_dec}
use Rattle.gerber_commands.specs.declared.command.StepRepeat.{StepRepeat}
use Rattle.gerber_commands.specs.declared.command.AttributeKind.{AttributeKind}
use Rattle.gerber_commands.specs.declared.command.AttributeKind.TheVariants as kinds
use Rattle.gerber_commands.specs.declared.command.Template.TheVariants as templates
use Rattle.gerber_text.proofs.RunLemmas.{kept_whole}
use Rattle.gerber_text.proofs.ItemLemmas.{text_kept, piece_unbroken}
use Rattle.gerber_text.proofs.NumberLemmas.{nat_is, int_is, dec_is}
use Rattle.gerber_text.proofs.PieceLemmas.{format_text, format_whole, named, define_text, define_whole, define_bytes, starred, macro_kept}

-- two comparisons of numbers with one answer
pub same_test : (a b m n : ℕ) → (a ≤ b → m ≤ n) → (m ≤ n → a ≤ b) → leb a b ≡ leb m n
same_test a b m n h k = by (leb a b) (leb m n) refl refl
  where
    by : (t u : Bool) → leb a b ≡ t → leb m n ≡ u → leb a b ≡ leb m n
    by true true e f = e ∙ sym f
    by true false e f = e ∙ sym (le-leb m n (h (leb-true a b e)))
    by false true e f = le-leb a b (k (leb-true m n f)) ∙ sym f
    by false false e f = e ∙ sym f

filter_one : (t : Bool) (x n : ℕ) (ys : List ℕ) → length ys ≤ n → length (cond t (x ∷ ys) ys) ≤ suc n
filter_one true x n ys h = omega (arith, h)
filter_one false x n ys h = omega (arith, h)

-- dropping lengthens nothing
pub filter_short : (p : ℕ → Bool) (xs : List ℕ) → length (filter p xs) ≤ length xs
filter_short p [] = lit≤ tt
filter_short p (x ∷ xs) = filter_one (p x) x (length xs) (filter p xs) (filter_short p xs)

-- ---- items of a bounded length

-- the canonical item is within the limit
abbrev pub Short : Command → Type 0
Short c = length (without_breaks (canonical c)) ≤ item_limit

within : (c : Command) (n : ℕ) → length (canonical c) ≤ n → n ≤ item_limit → Short c
within c n h l = omega (arith, filter_short is_not_break (canonical c), h, l)

coordinate_short : (letter : ℕ) (v : Option ℤ) → is_optional_int v ≡ true → length (coordinate_text letter v) ≤ 14
coordinate_short letter None h = lit≤ tt
coordinate_short letter (Some v) h = omega (arith, (int_is v h).short)

code_short : (a : Action) → length (action_code a) ≤ 4
code_short Plot = lit≤ tt
code_short Move = lit≤ tt
code_short Flash = lit≤ tt

operate_short : (a : Action) (x y i j : Option ℤ) → is_operation a x y i j ≡ true → Short (Operate a x y i j)
unfolding canonical
operate_short a x y i j h =
    let k = both_true (is_optional_int x && is_optional_int y) ((is_optional_int i && is_optional_int j) && (is_plot a || not (is_some i || is_some j))) h in
    let xy = both_true (is_optional_int x) (is_optional_int y) k.0 in
    let l = both_true (is_optional_int i && is_optional_int j) (is_plot a || not (is_some i || is_some j)) k.1 in
    let ij = both_true (is_optional_int i) (is_optional_int j) l.0 in
    let r3 = coordinate_text 74 j ++ action_code a in
    let r2 = coordinate_text 73 i ++ r3 in
    let r1 = coordinate_text 89 y ++ r2 in
    within (Operate a x y i j) 60
    (omega (
      arith,
      length-append (coordinate_text 88 x) r1,
      length-append (coordinate_text 89 y) r2,
      length-append (coordinate_text 73 i) r3,
      length-append (coordinate_text 74 j) (action_code a),
      coordinate_short 88 x xy.0,
      coordinate_short 89 y xy.1,
      coordinate_short 73 i ij.0,
      coordinate_short 74 j ij.1,
      code_short a,
    )) (lit≤ tt)

block_short : (b : StepRepeat) → is_block b ≡ true → Short (Repeat b)
unfolding canonical
block_short b h =
    let k = both_true (is_nat b.columns && is_nat b.rows) (is_dec b.step_x && is_dec b.step_y) h in
    let n = both_true (is_nat b.columns) (is_nat b.rows) k.0 in
    let s = both_true (is_dec b.step_x) (is_dec b.step_y) k.1 in
    let end : List ℕ = 42 ∷ 37 ∷ [] in
    let r3 : List ℕ = 74 ∷ (canonical_dec b.step_y ++ end) in
    let r2 : List ℕ = 73 ∷ (canonical_dec b.step_x ++ r3) in
    let r1 : List ℕ = 89 ∷ (decimal b.rows ++ r2) in
    within (Repeat b) 63
    (omega (
      arith,
      length-append (decimal b.columns) r1,
      length-append (decimal b.rows) r2,
      length-append (canonical_dec b.step_x) r3,
      length-append (canonical_dec b.step_y) end,
      (nat_is b.columns n.0).short,
      (nat_is b.rows n.1).short,
      (dec_is b.step_x s.0).short,
      (dec_is b.step_y s.1).short,
    )) (lit≤ tt)

sizes_short : (sizes : List ℤ) → list_all is_dec sizes ≡ true → length (sizes_text sizes) ≤ 17 * length sizes
sizes_short [] h = lit≤ tt
sizes_short (v ∷ []) h = omega (arith, (dec_is v (both_true (is_dec v) true h).0).short)
sizes_short (v ∷ w ∷ vs) h =
    let k = both_true (is_dec v) (list_all is_dec (w ∷ vs)) h in
    omega (arith, length-append (canonical_dec v) (88 ∷ sizes_text (w ∷ vs)), (dec_is v k.0).short, sizes_short (w ∷ vs) k.1)

at_most : (aperture : Standard) (n : ℕ) → leb n (max_sizes aperture) ≡ true → n ≤ 5
at_most Circle n h = omega (arith, leb-true n 3 h)
at_most Rectangle n h = omega (arith, leb-true n 4 h)
at_most Obround n h = omega (arith, leb-true n 4 h)
at_most Polygon n h = leb-true n 5 h

letter_short : (aperture : Standard) → length (standard_name aperture) ≤ 2
letter_short Circle = lit≤ tt
letter_short Rectangle = lit≤ tt
letter_short Obround = lit≤ tt
letter_short Polygon = lit≤ tt

-- numbers of apertures are short
number_short : (n : ℕ) → is_aperture_number n ≡ true → length (decimal n) ≤ 10
number_short n h = (nat_is n (both_true (leb 10 n) (is_nat n) h).1).short

pub standard_short : (n : ℕ) (aperture : Standard) (sizes : List ℤ) → has_valid_fields (Define n (templates.Standard aperture sizes)) ≡ true → Short (Define n (templates.Standard aperture sizes))
unfolding has_valid_fields canonical
standard_short n aperture sizes h =
    let k = both_true (is_aperture_number n) (are_parameters aperture sizes) h in
    let l = both_true (list_all is_dec sizes) (leb (min_sizes aperture) (length sizes) && leb (length sizes) (max_sizes aperture)) k.1 in
    let most = at_most aperture (length sizes) (both_true (leb (min_sizes aperture) (length sizes)) (leb (length sizes) (max_sizes aperture)) l.1).1 in
    let end : List ℕ = 42 ∷ 37 ∷ [] in
    let text = standard_name aperture ++ sizes_text sizes in
    within (Define n (templates.Standard aperture sizes)) 103
    (omega (arith, length-append (decimal n) (text ++ end), length-append text end, length-append (standard_name aperture) (sizes_text sizes), number_short n k.0, letter_short aperture, sizes_short sizes l.0, most)) (lit≤ tt)

name_few : (name : List ℕ) → is_macro_name name ≡ true → length name ≤ 127
name_few name h = (named name (both_true (is_name name) (not (is_some (standard_template name))) h).0).few

pub plain_short : (n : ℕ) (name : List ℕ) → has_valid_fields (Define n (templates.Named name None)) ≡ true → Short (Define n (templates.Named name None))
unfolding has_valid_fields canonical
plain_short n name h =
    let k = both_true (is_aperture_number n) (is_macro_name name && true) h in
    let end : List ℕ = 42 ∷ 37 ∷ [] in
    within (Define n (templates.Named name None)) 143
    (omega (arith, length-append (decimal n) (name ++ end), length-append name end, number_short n k.0, name_few name (both_true (is_macro_name name) true k.1).0)) (lit≤ tt)

-- ---- items whose length is that of their texts

pub name_length : (c : Command) (name : List ℕ) (ps : List (List ℕ)) → c ≡ Macro name ps → has_valid_fields c ≡ true → length name ≤ 127
unfolding has_valid_fields
name_length c name ps e h = name_few name (both_true (is_macro_name name) (list_all is_text ps) (sym (ap has_valid_fields e) ∙ h)).0

pub comment_length : (text : List ℕ) → has_valid_fields (Comment text) ≡ true → length (without_breaks (canonical (Comment text))) ≡ 4 + length text
unfolding has_valid_fields canonical
comment_length text h =
    let k = both_true (is_text text) (not (is_negative_comment text)) h in
    ap length (kept_whole is_not_break (71 ∷ 48 ∷ 52 ∷ (text ++ 42 ∷ [])) (list_all_append is_not_break text (42 ∷ []) (list_all_weaker is_text_byte is_not_break text_kept text k.0) refl)) ∙ omega (arith, length-append text (42 ∷ []))

text_length : (a b : ℕ) (text : List ℕ) → is_not_break a ≡ true → is_not_break b ≡ true → is_text text ≡ true → length (without_breaks (37 ∷ a ∷ b ∷ (text ++ 42 ∷ 37 ∷ []))) ≡ 5 + length text
text_length a b text p q h =
    let texts : list_all is_not_break text ≡ true = list_all_weaker is_text_byte is_not_break text_kept text h in
    ap length (piece_unbroken (a ∷ b ∷ text) (λ i. p i && (q i && texts i))) ∙ omega (arith, length-append text (42 ∷ 37 ∷ []))

pub attribute_length : (kind : AttributeKind) (text : List ℕ) → has_valid_fields (Attribute kind text) ≡ true → length (without_breaks (canonical (Attribute kind text))) ≡ 5 + length text
unfolding has_valid_fields canonical
attribute_length kinds.File text h = text_length 84 70 text refl refl (both_true (is_text text) (not (is_negative_image text)) h).0
attribute_length kinds.Aperture text h = text_length 84 65 text refl refl h
attribute_length kinds.Object text h = text_length 84 79 text refl refl h

pub removal_length : (text : List ℕ) → has_valid_fields (Remove text) ≡ true → length (without_breaks (canonical (Remove text))) ≡ 5 + length text
unfolding has_valid_fields canonical
removal_length text h = text_length 84 68 text refl refl h

pub macro_length : (name : List ℕ) (ps : List (List ℕ)) → has_valid_fields (Macro name ps) ≡ true → length (without_breaks (canonical (Macro name ps))) ≡ 5 + (length name + length (starred ps))
unfolding has_valid_fields
macro_length name ps h = ap length (macro_kept name ps h) ∙ omega (arith, length-append name (42 ∷ (starred ps ++ 37 ∷ [])), length-append (starred ps) (37 ∷ []))

pub define_length : (n : ℕ) (name text : List ℕ) → has_valid_fields (Define n (templates.Named name (Some text))) ≡ true → length (without_breaks (canonical (Define n (templates.Named name (Some text))))) ≡ 7 + (length (decimal n) + (length name + length text))
unfolding has_valid_fields define_text
define_length n name text h =
    let t = templates.Named name (Some text) in
    let w = name ++ 44 ∷ text in
    ap length (ap without_breaks (define_whole n t) ∙ piece_unbroken (define_text n t) (list_all_weaker is_text_byte is_not_break text_kept (define_text n t) (define_bytes n t h)))
    ∙ omega (arith, length-append (decimal n ++ w) (42 ∷ 37 ∷ []), length-append (decimal n) w, length-append name (44 ∷ text))

-- ---- all others

-- no kind whose item may be too long
unfoldable pub is_bounded : Command → Bool
is_bounded (Comment text) = false
is_bounded (Define n t) = false
is_bounded (Macro name ps) = false
is_bounded (Attribute kind text) = false
is_bounded (Remove text) = false
is_bounded _ = true

pub bounded_short : (c : Command) → has_valid_fields c ≡ true → is_bounded c ≡ true → Short c
unfolding has_valid_fields canonical is_bounded format_text
bounded_short (Mode Linear) h b = lit≤ tt
bounded_short (Mode Clockwise) h b = lit≤ tt
bounded_short (Mode Counterclockwise) h b = lit≤ tt
bounded_short (Quadrant Single) h b = lit≤ tt
bounded_short (Quadrant Multi) h b = lit≤ tt
bounded_short RegionStart h b = lit≤ tt
bounded_short RegionEnd h b = lit≤ tt
bounded_short (UnitIs Inch) h b = lit≤ tt
bounded_short (UnitIs Millimetre) h b = lit≤ tt
bounded_short (FormatIs f) h b = within (FormatIs f) 13 (omega (arith, ap length (format_whole f h))) (lit≤ tt)
bounded_short (Select n) h b = within (Select n) 12 (omega (arith, length-append (decimal n) (42 ∷ []), number_short n h)) (lit≤ tt)
bounded_short (Operate a x y i j) h b = operate_short a x y i j h
bounded_short Dark h b = lit≤ tt
bounded_short Clear h b = absurd cc
bounded_short (Mirror false false) h b = lit≤ tt
bounded_short (Mirror true false) h b = lit≤ tt
bounded_short (Mirror false true) h b = lit≤ tt
bounded_short (Mirror true true) h b = lit≤ tt
bounded_short (Turn v) h b = within (Turn v) 21 (omega (arith, length-append (canonical_dec v) (42 ∷ 37 ∷ []), (dec_is v h).short)) (lit≤ tt)
bounded_short (Scale v) h b = within (Scale v) 21 (omega (arith, length-append (canonical_dec v) (42 ∷ 37 ∷ []), (dec_is v h).short)) (lit≤ tt)
bounded_short (Repeat b) h e = block_short b h
bounded_short RepeatEnd h b = lit≤ tt
bounded_short Finish h b = lit≤ tt
bounded_short c h b = absurd cc

pub short_true : (c : Command) → Short c → true ≡ is_short c
short_true c h = sym (le-leb (length (without_breaks (canonical c))) item_limit h)

-- ---- what the tests of lengths answer

-- a text of n bytes is short enough where its item of n + k bytes is
shifted : (n k len : ℕ) → k ≤ item_limit → len ≡ k + n → leb n (item_limit - k) ≡ leb len item_limit
shifted n k len h e = same_test n (item_limit - k) len item_limit (λ l. omega (arith, e, h, l)) (λ l. omega (arith, e, h, l))

pub comment_test : (c : Command) (text : List ℕ) → c ≡ Comment text → has_valid_fields c ≡ true → leb (length text) 1048572 ≡ is_short c
comment_test c text e h = shifted (length text) 4 (length (without_breaks (canonical (Comment text)))) (lit≤ tt) (comment_length text (ap has_valid_fields (sym e) ∙ h)) ∙ ap is_short (sym e)

pub attribute_test : (c : Command) (kind : AttributeKind) (text : List ℕ) → c ≡ Attribute kind text → has_valid_fields c ≡ true → leb (length text) 1048571 ≡ is_short c
attribute_test c kind text e h = shifted (length text) 5 (length (without_breaks (canonical (Attribute kind text)))) (lit≤ tt) (attribute_length kind text (ap has_valid_fields (sym e) ∙ h)) ∙ ap is_short (sym e)

pub removal_test : (c : Command) (text : List ℕ) → c ≡ Remove text → has_valid_fields c ≡ true → leb (length text) 1048571 ≡ is_short c
removal_test c text e h = shifted (length text) 5 (length (without_breaks (canonical (Remove text)))) (lit≤ tt) (removal_length text (ap has_valid_fields (sym e) ∙ h)) ∙ ap is_short (sym e)

pub macro_test : (c : Command) (name : List ℕ) (ps : List (List ℕ)) → c ≡ Macro name ps → has_valid_fields c ≡ true → leb (5 + (length name + length (starred ps))) item_limit ≡ is_short c
macro_test c name ps e h = ap (λ n. leb n item_limit) (sym (macro_length name ps (ap has_valid_fields (sym e) ∙ h))) ∙ ap is_short (sym e)

pub named_few : (n : ℕ) (name text : List ℕ) (o : Option (List ℕ)) → o ≡ Some text → has_valid_fields (Define n (templates.Named name o)) ≡ true → length name ≤ 127
unfolding has_valid_fields
named_few n name text o e h =
    let k : (is_aperture_number n && (is_macro_name name && is_text text)) ≡ true = ap (λ x. has_valid_fields (Define n (templates.Named name x))) (sym e) ∙ h in
    name_few name (both_true (is_macro_name name) (is_text text) (both_true (is_aperture_number n) (is_macro_name name && is_text text) k).1).0

pub named_test : (n : ℕ) (name text : List ℕ) (o : Option (List ℕ)) → o ≡ Some text → has_valid_fields (Define n (templates.Named name o)) ≡ true → leb (7 + (length (decimal n) + (length name + length text))) item_limit ≡ is_short (Define n (templates.Named name o))
named_test n name text o e h = ap (λ m. leb m item_limit) (sym (define_length n name text (ap (λ x. has_valid_fields (Define n (templates.Named name x))) (sym e) ∙ h))) ∙ ap (λ x. is_short (Define n (templates.Named name x))) (sym e)

pub plain_test : (n : ℕ) (name : List ℕ) (o : Option (List ℕ)) → o ≡ None → has_valid_fields (Define n (templates.Named name o)) ≡ true → true ≡ is_short (Define n (templates.Named name o))
plain_test n name o e h = short_true (Define n (templates.Named name None)) (plain_short n name (ap (λ x. has_valid_fields (Define n (templates.Named name x))) (sym e) ∙ h)) ∙ ap (λ x. is_short (Define n (templates.Named name x))) (sym e)

pub standard_test : (n : ℕ) (t : Template) (aperture : Standard) (sizes : List ℤ) → t ≡ templates.Standard aperture sizes → has_valid_fields (Define n t) ≡ true → true ≡ is_short (Define n t)
standard_test n t aperture sizes e h = short_true (Define n (templates.Standard aperture sizes)) (standard_short n aperture sizes (ap (λ x. has_valid_fields (Define n x)) (sym e) ∙ h)) ∙ ap (λ x. is_short (Define n x)) (sym e)

-- no kind whose item may be too long
pub are_bounded : (c : Command) → ((text : List ℕ) → c ≡ Comment text → ⊥) → ((n : ℕ) (t : Template) → c ≡ Define n t → ⊥) → ((name : List ℕ) (ps : List (List ℕ)) → c ≡ Macro name ps → ⊥) → ((kind : AttributeKind) (text : List ℕ) → c ≡ Attribute kind text → ⊥) → ((text : List ℕ) → c ≡ Remove text → ⊥) → is_bounded c ≡ true
unfolding is_bounded
are_bounded (Comment text) a b d e f = absurd (a text refl)
are_bounded (Define n t) a b d e f = absurd (b n t refl)
are_bounded (Macro name ps) a b d e f = absurd (d name ps refl)
are_bounded (Attribute kind text) a b d e f = absurd (e kind text refl)
are_bounded (Remove text) a b d e f = absurd (f text refl)
are_bounded c a b d e f = refl
