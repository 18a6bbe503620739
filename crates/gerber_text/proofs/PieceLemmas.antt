-- The pieces of commands are so written.
use Rattle.gerber_text.proofs.Common.{◌≡◌, ◌≢◌, ℕ, ◌+◌, ◌≤◌, Bool, true, false, not, ◌||◌, ◌&&◌, eqb, leb, ltb, List, [], ◌∷◌, ◌++◌, length, map, ℤ, Option, Some, None, is_some, Ok, Contains, refl, sym, ap, ◌∙◌, arith, append_assoc, decimal, codes, list_all, flat_map, join_with_byte, AllByRecursion, length-map, All-from_recursion, filter-append, leb-true, ltb-true, nat_tests, decimal_digit, is_digit, is_number_char, parse_decimal, FormatIs, Define, Macro, Repeat, Standard, Circle, Rectangle, Obround, Polygon, Template, canonical, pieces_text, sizes_text, template_text, standard_name, is_name_start, is_name_byte, is_name, standard_template, min_sizes, max_sizes, HasNo, standards, IsMacroName, IsTemplate, IsMacro, SpellsOne, block_fields_are, is_not_break, without_breaks, is_text_byte, is_text, is_nat, is_dec, is_format, is_aperture_number, is_macro_name, is_template, is_block, digits_numbers, and_true, both_true, list_all_weaker, list_all_append}
use Rattle.std.proofs.Common.{append-nil}
use Rattle.grid_units.specs.Spellings.{canonical as canonical_dec}
use Rattle.gerber_commands.specs.declared.command.Format.{Format}
use Rattle.gerber_commands.specs.declared.command.StepRepeat.{StepRepeat}
use Rattle.gerber_commands.specs.declared.command.Template.TheVariants as templates
use Rattle.gerber_text.proofs.RunLemmas.{none_passes, kept_whole}
use Rattle.gerber_text.proofs.ItemLemmas.{text_kept, text_no_star, piece_item}
use Rattle.gerber_text.proofs.WordLemmas.{append_to_ended}
use Rattle.gerber_text.proofs.NumberLemmas.{number_text, numbers_text, nat_is, dec_is}

-- ---- formats

unfoldable pub format_text : Format → List ℕ
format_text f = 70 ∷ 83 ∷ 76 ∷ 65 ∷ 88 ∷ (48 + f.whole) ∷ (48 + f.decimals) ∷ 89 ∷ (48 + f.whole) ∷ (48 + f.decimals) ∷ []

six_digit : (n : ℕ) → n ≤ 6 → is_digit (48 + n) ≡ true
six_digit n h = grind (arith, nat_tests)

pub format_written : (f : Format) → is_format f ≡ true → SpellsOne (format_text f) (FormatIs f)
unfolding format_text
format_written f h =
    let k = both_true (leb f.whole 6) (leb f.decimals 6 && leb 1 (f.whole + f.decimals)) h in
    let l = both_true (leb f.decimals 6) (leb 1 (f.whole + f.decimals)) k.1 in
    let le = leb-true f.whole 6 k.0 in
    let few = leb-true f.decimals 6 l.0 in
    let w : decimal f.whole ≡ (48 + f.whole) ∷ [] = decimal_digit f.whole (omega (arith, le)) in
    let d : decimal f.decimals ≡ (48 + f.decimals) ∷ [] = decimal_digit f.decimals (omega (arith, few)) in
    let is : codes "FSLAX" ++ decimal f.whole ++ decimal f.decimals ++ codes "Y" ++ decimal f.whole ++ decimal f.decimals ≡ format_text f = λ i. codes "FSLAX" ++ w i ++ d i ++ codes "Y" ++ w i ++ d i in
    (le, few, omega (arith, leb-true 1 (f.whole + f.decimals) l.1), sym is)

pub format_whole : (f : Format) → is_format f ≡ true → canonical (FormatIs f) ≡ piece_item (format_text f)
unfolding canonical format_text
format_whole f h =
    let k = both_true (leb f.whole 6) (leb f.decimals 6 && leb 1 (f.whole + f.decimals)) h in
    let l = both_true (leb f.decimals 6) (leb 1 (f.whole + f.decimals)) k.1 in
    let w : decimal f.whole ≡ (48 + f.whole) ∷ [] = decimal_digit f.whole (omega (arith, leb-true f.whole 6 k.0)) in
    let d : decimal f.decimals ≡ (48 + f.decimals) ∷ [] = decimal_digit f.decimals (omega (arith, leb-true f.decimals 6 l.0)) in
    λ i. codes "%FSLAX" ++ ((w i ++ d i) ++ (codes "Y" ++ ((w i ++ d i) ++ codes "*%")))

pub format_bytes : (f : Format) → is_format f ≡ true → is_text (format_text f) ≡ true
unfolding format_text
format_bytes f h =
    let k = both_true (leb f.whole 6) (leb f.decimals 6 && leb 1 (f.whole + f.decimals)) h in
    let l = both_true (leb f.decimals 6) (leb 1 (f.whole + f.decimals)) k.1 in
    let a : is_text_byte (48 + f.whole) ≡ true = number_text (48 + f.whole) (ap (λ t. t || (eqb (48 + f.whole) 43 || (eqb (48 + f.whole) 45 || eqb (48 + f.whole) 46))) (six_digit f.whole (leb-true f.whole 6 k.0))) in
    let b : is_text_byte (48 + f.decimals) ≡ true = number_text (48 + f.decimals) (ap (λ t. t || (eqb (48 + f.decimals) 43 || (eqb (48 + f.decimals) 45 || eqb (48 + f.decimals) 46))) (six_digit f.decimals (leb-true f.decimals 6 l.0))) in
    λ i. a i && (b i && (a i && (b i && true)))

-- ---- step and repeat

pub block_text : StepRepeat → List ℕ
block_text b = 83 ∷ 82 ∷ 88 ∷ (decimal b.columns ++ 89 ∷ (decimal b.rows ++ 73 ∷ (canonical_dec b.step_x ++ 74 ∷ canonical_dec b.step_y)))

pub block_written : (b : StepRepeat) → is_block b ≡ true → SpellsOne (block_text b) (Repeat b)
unfolding block_text
block_written b h =
    let k = both_true (is_nat b.columns && is_nat b.rows) (is_dec b.step_x && is_dec b.step_y) h in
    let n = both_true (is_nat b.columns) (is_nat b.rows) k.0 in
    let s = both_true (is_dec b.step_x) (is_dec b.step_y) k.1 in
    let parts = block_fields_are (decimal b.columns) (decimal b.rows) (canonical_dec b.step_x) (canonical_dec b.step_y) in
    (decimal b.columns, decimal b.rows, canonical_dec b.step_x, canonical_dec b.step_y, ap (λ (l : List ℕ). codes "SRX" ++ l) (sym parts), (nat_is b.columns n.0).reads, (nat_is b.rows n.1).reads, (dec_is b.step_x s.0).reads, (dec_is b.step_y s.1).reads)

pub block_whole : (b : StepRepeat) → canonical (Repeat b) ≡ piece_item (block_text b)
unfolding canonical block_text
block_whole b =
    let end : List ℕ = 42 ∷ 37 ∷ [] in
    let t3 : List ℕ = 74 ∷ canonical_dec b.step_y in
    let t2 : List ℕ = 73 ∷ (canonical_dec b.step_x ++ t3) in
    let t1 : List ℕ = 89 ∷ (decimal b.rows ++ t2) in
    ap (λ (l : List ℕ). codes "%SRX" ++ l)
    (append_to_ended (decimal b.columns) (89 ∷ (decimal b.rows ++ 73 ∷ (canonical_dec b.step_x ++ (t3 ++ end)))) t1 end
    (append_to_ended (89 ∷ decimal b.rows) (73 ∷ (canonical_dec b.step_x ++ (t3 ++ end))) t2 end
    (append_to_ended (73 ∷ canonical_dec b.step_x) (t3 ++ end) t3 end refl)))

pub block_bytes : (b : StepRepeat) → is_block b ≡ true → is_text (block_text b) ≡ true
unfolding block_text
block_bytes b h =
    let k = both_true (is_nat b.columns && is_nat b.rows) (is_dec b.step_x && is_dec b.step_y) h in
    let n = both_true (is_nat b.columns) (is_nat b.rows) k.0 in
    let s = both_true (is_dec b.step_x) (is_dec b.step_y) k.1 in
    let t3 : List ℕ = 74 ∷ canonical_dec b.step_y in
    let t2 : List ℕ = 73 ∷ (canonical_dec b.step_x ++ t3) in
    list_all_append is_text_byte (decimal b.columns) (89 ∷ (decimal b.rows ++ t2)) (numbers_text (decimal b.columns) (digits_numbers (decimal b.columns) (nat_is b.columns n.0).digits))
    (list_all_append is_text_byte (decimal b.rows) t2 (numbers_text (decimal b.rows) (digits_numbers (decimal b.rows) (nat_is b.rows n.1).digits))
    (list_all_append is_text_byte (canonical_dec b.step_x) t3 (numbers_text (canonical_dec b.step_x) (dec_is b.step_x s.0).numbers) (numbers_text (canonical_dec b.step_y) (dec_is b.step_y s.1).numbers)))

-- ---- joined parts

-- a test that all parts pass, and the byte between them
pub joined_all : (p : ℕ → Bool) (at : ℕ) (part : List ℕ) (parts : List (List ℕ)) → p at ≡ true → list_all (list_all p) (part ∷ parts) ≡ true → list_all p (join_with_byte at (part ∷ parts)) ≡ true
joined_all p at part [] e h = (both_true (list_all p part) true h).0
joined_all p at part (next ∷ parts) e h =
    let k = both_true (list_all p part) (list_all (list_all p) (next ∷ parts)) h in
    list_all_append p part (at ∷ join_with_byte at (next ∷ parts)) k.0 (and_true (p at) (list_all p (join_with_byte at (next ∷ parts))) e (joined_all p at next parts e k.1))

pub lists_weaker : (p q : ℕ → Bool) → ((b : ℕ) → p b ≡ true → q b ≡ true) → (xs : List (List ℕ)) → list_all (list_all p) xs ≡ true → list_all (list_all q) xs ≡ true
lists_weaker p q h [] e = refl
lists_weaker p q h (x ∷ xs) e = let k = both_true (list_all p x) (list_all (list_all p) xs) e in and_true (list_all q x) (list_all (list_all q) xs) (list_all_weaker p q h x k.0) (lists_weaker p q h xs k.1)

-- ---- parameters

sizes_runs : (sizes : List ℤ) → list_all is_dec sizes ≡ true → list_all (list_all is_number_char) (map canonical_dec sizes) ≡ true
sizes_runs [] h = refl
sizes_runs (v ∷ vs) h = let k = both_true (is_dec v) (list_all is_dec vs) h in and_true (list_all is_number_char (canonical_dec v)) (list_all (list_all is_number_char) (map canonical_dec vs)) (dec_is v k.0).numbers (sizes_runs vs k.1)

sizes_read : (sizes : List ℤ) → list_all is_dec sizes ≡ true → map parse_decimal (map canonical_dec sizes) ≡ map Ok sizes
sizes_read [] h = refl
sizes_read (v ∷ vs) h = let k = both_true (is_dec v) (list_all is_dec vs) h in λ i. (dec_is v k.0).reads i ∷ sizes_read vs k.1 i

-- ---- names

-- the bytes of a name
pub record IsNamed (name : List ℕ) : Type 0 where
  pub bytes : list_all is_name_byte name ≡ true
  pub few : length name ≤ 127

pub named : (name : List ℕ) → is_name name ≡ true → IsNamed name
unfolding is_name
named [] h = absurd cc
named (b ∷ bs) h =
    let k = both_true (is_name_start b) (list_all is_name_byte bs && ltb (length bs) 127) h in
    let l = both_true (list_all is_name_byte bs) (ltb (length bs) 127) k.1 in
    record {
      bytes = and_true (is_name_byte b) (list_all is_name_byte bs) (ap (λ t. t || (is_digit b || eqb b 45)) k.0) l.0;
      few = omega (arith, ltb-true _ _ l.1);
    }

name_text : (b : ℕ) → is_name_byte b ≡ true → is_text_byte b ≡ true
name_text b h = grind (arith, nat_tests)

pub name_bytes : (name : List ℕ) → is_name name ≡ true → is_text name ≡ true
name_bytes name h = list_all_weaker is_name_byte is_text_byte name_text name (named name h).bytes

-- another letter than that of a standard aperture
no_letter : (name letter : List ℕ) (which : Standard) → standard_template letter ≡ Some which → not (is_some (standard_template name)) ≡ true → letter ≢ name
no_letter name letter which is none e = absurd (by (standard_template name) (sym (ap standard_template e) ∙ is) none)
  where
    by : (o : Option Standard) → o ≡ Some which → not (is_some o) ≡ true → ⊥
    by None h k = absurd cc
    by (Some other) h k = absurd cc

macro_named : (name : List ℕ) → is_macro_name name ≡ true → IsMacroName name
macro_named name h =
    let k = both_true (is_name name) (not (is_some (standard_template name))) h in
    (k.0, All-from_recursion (λ s. s.0 ≢ name) standards (no_letter name (codes "C") Circle refl k.1, (no_letter name (codes "R") Rectangle refl k.1, (no_letter name (codes "O") Obround refl k.1, (no_letter name (codes "P") Polygon refl k.1, tt)))))

-- ---- definitions

listed : (which : Standard) → (letter : List ℕ) × Contains standards (letter, which, min_sizes which, max_sizes which) × (standard_name which ≡ letter ++ codes ",")
listed Circle = (codes "C", (0, omega arith, refl), refl)
listed Rectangle = (codes "R", (1, omega arith, refl), refl)
listed Obround = (codes "O", (2, omega arith, refl), refl)
listed Polygon = (codes "P", (3, omega arith, refl), refl)

template_written : (t : Template) → is_template t ≡ true → IsTemplate (template_text t) t
template_written (templates.Standard which sizes) h =
    let k = both_true (list_all is_dec sizes) (leb (min_sizes which) (length sizes) && leb (length sizes) (max_sizes which)) h in
    let l = both_true (leb (min_sizes which) (length sizes)) (leb (length sizes) (max_sizes which)) k.1 in
    let len = length-map sizes canonical_dec in
    let at = listed which in
    (at.0, min_sizes which, max_sizes which, map canonical_dec sizes, at.1, ap (λ (x : List ℕ). x ++ sizes_text sizes) at.2, omega (arith, len, leb-true _ _ l.0), omega (arith, len, leb-true _ _ l.1), sizes_read sizes k.0)
template_written (templates.Named name None) h = (macro_named name (both_true (is_macro_name name) true h).0, sym (append-nil name))
template_written (templates.Named name (Some text)) h = (macro_named name (both_true (is_macro_name name) (is_text text) h).0, refl)

unfoldable pub define_text : ℕ → Template → List ℕ
define_text n t = 65 ∷ 68 ∷ 68 ∷ (decimal n ++ template_text t)

pub define_written : (n : ℕ) (t : Template) → (is_aperture_number n && is_template t) ≡ true → SpellsOne (define_text n t) (Define n t)
unfolding define_text
define_written n t h =
    let k = both_true (is_aperture_number n) (is_template t) h in
    let m = both_true (leb 10 n) (is_nat n) k.0 in
    (decimal n, template_text t, (nat_is n m.1).reads, leb-true 10 n m.0, template_written t k.1, refl)

pub define_whole : (n : ℕ) (t : Template) → canonical (Define n t) ≡ piece_item (define_text n t)
unfolding canonical define_text
define_whole n t = ap (λ (l : List ℕ). codes "%ADD" ++ l) (sym (append_assoc (decimal n) (template_text t) (codes "*%")))

sizes_bytes : (sizes : List ℤ) → list_all is_dec sizes ≡ true → is_text (sizes_text sizes) ≡ true
sizes_bytes [] h = refl
sizes_bytes (v ∷ vs) h = joined_all is_text_byte 88 (canonical_dec v) (map canonical_dec vs) refl (lists_weaker is_number_char is_text_byte number_text (map canonical_dec (v ∷ vs)) (sizes_runs (v ∷ vs) h))

letter_bytes : (aperture : Standard) → is_text (standard_name aperture) ≡ true
letter_bytes Circle = refl
letter_bytes Rectangle = refl
letter_bytes Obround = refl
letter_bytes Polygon = refl

template_bytes : (t : Template) → is_template t ≡ true → is_text (template_text t) ≡ true
template_bytes (templates.Standard aperture sizes) h = list_all_append is_text_byte (standard_name aperture) (sizes_text sizes) (letter_bytes aperture) (sizes_bytes sizes (both_true (list_all is_dec sizes) (leb (min_sizes aperture) (length sizes) && leb (length sizes) (max_sizes aperture)) h).0)
template_bytes (templates.Named name None) h = let k = both_true (is_macro_name name) true h in name_bytes name (both_true (is_name name) (not (is_some (standard_template name))) k.0).0
template_bytes (templates.Named name (Some text)) h =
    let k = both_true (is_macro_name name) (is_text text) h in
    list_all_append is_text_byte name (44 ∷ text) (name_bytes name (both_true (is_name name) (not (is_some (standard_template name))) k.0).0) k.1

pub define_bytes : (n : ℕ) (t : Template) → (is_aperture_number n && is_template t) ≡ true → is_text (define_text n t) ≡ true
unfolding define_text
define_bytes n t h =
    let k = both_true (is_aperture_number n) (is_template t) h in
    list_all_append is_text_byte (decimal n) (template_text t) (numbers_text (decimal n) (digits_numbers (decimal n) (nat_is n (both_true (leb 10 n) (is_nat n) k.0).1).digits)) (template_bytes t k.1)

-- ---- macros

pub macro_piece_text : List ℕ → List (List ℕ) → List ℕ
macro_piece_text name ps = 65 ∷ 77 ∷ join_with_byte 42 (name ∷ ps)

macro_texts : (name : List ℕ) (ps : List (List ℕ)) → (is_macro_name name && list_all is_text ps) ≡ true → list_all (list_all is_text_byte) (name ∷ ps) ≡ true
macro_texts name ps h =
    let k = both_true (is_macro_name name) (list_all is_text ps) h in
    and_true (is_text name) (list_all is_text ps) (name_bytes name (both_true (is_name name) (not (is_some (standard_template name))) k.0).0) k.1

no_stars : (texts : List (List ℕ)) → list_all is_text texts ≡ true → AllByRecursion (HasNo 42) texts
no_stars [] h = tt
no_stars (text ∷ texts) h = let k = both_true (is_text text) (list_all is_text texts) h in (none_passes is_text_byte (λ b. eqb b 42) text_no_star text k.0, no_stars texts k.1)

pub macro_written : (name : List ℕ) (ps : List (List ℕ)) → (is_macro_name name && list_all is_text ps) ≡ true → IsMacro (macro_piece_text name ps) (Macro name ps ∷ [])
unfolding macro_piece_text
macro_written name ps h =
    let k = both_true (is_macro_name name) (list_all is_text ps) h in
    (name, ps, macro_named name k.0, All-from_recursion (HasNo 42) ps (no_stars ps k.1), refl, refl)

pub macro_percent : (name : List ℕ) (ps : List (List ℕ)) → (is_macro_name name && list_all is_text ps) ≡ true → HasNo 37 (macro_piece_text name ps)
unfolding macro_piece_text
macro_percent name ps h = none_passes (λ b. is_text_byte b || eqb b 42) (λ b. eqb b 37) part_percent (macro_piece_text name ps) (joined_all (λ b. is_text_byte b || eqb b 42) 42 name ps refl (lists_weaker is_text_byte (λ b. is_text_byte b || eqb b 42) (λ b e. ap (λ t. t || eqb b 42) e) (name ∷ ps) (macro_texts name ps h)))
  where
    part_percent : (b : ℕ) → (is_text_byte b || eqb b 42) ≡ true → eqb b 37 ≡ false
    part_percent b e = grind (arith, nat_tests)

-- pieces, each with its `*`
abbrev pub starred : List (List ℕ) → List ℕ
starred ps = flat_map (λ piece. piece ++ codes "*") ps

pub joined_ends : (name : List ℕ) (ps : List (List ℕ)) (s : List ℕ) → name ++ 42 ∷ (starred ps ++ s) ≡ join_with_byte 42 (name ∷ ps) ++ 42 ∷ s
joined_ends name [] s = refl
joined_ends name (p ∷ ps) s =
    let star : List ℕ = 42 ∷ [] in
    let parts : ((p ++ star) ++ starred ps) ++ s ≡ p ++ 42 ∷ (starred ps ++ s) = append_assoc (p ++ star) (starred ps) s ∙ append_assoc p star (starred ps ++ s) in
    ap (λ (l : List ℕ). name ++ 42 ∷ l) (parts ∙ joined_ends p ps s) ∙ sym (append_assoc name (42 ∷ join_with_byte 42 (p ∷ ps)) (42 ∷ s))

piece_kept : (p : List ℕ) → is_text p ≡ true → without_breaks (p ++ 42 ∷ []) ≡ p ++ 42 ∷ []
piece_kept p h = kept_whole is_not_break (p ++ 42 ∷ []) (list_all_append is_not_break p (42 ∷ []) (list_all_weaker is_text_byte is_not_break text_kept p h) refl)

pieces_kept : (ps : List (List ℕ)) → list_all is_text ps ≡ true → without_breaks (pieces_text ps) ≡ starred ps
pieces_kept [] h = refl
pieces_kept (p ∷ ps) h =
    let k = both_true (is_text p) (list_all is_text ps) h in
    filter-append is_not_break (p ++ 42 ∷ []) (pieces_text ps) ∙ (λ i. piece_kept p k.0 i ++ pieces_kept ps k.1 i)

-- the canonical item of a macro without its line breaks
pub macro_kept : (name : List ℕ) (ps : List (List ℕ)) → (is_macro_name name && list_all is_text ps) ≡ true → without_breaks (canonical (Macro name ps)) ≡ 37 ∷ 65 ∷ 77 ∷ (name ++ 42 ∷ (starred ps ++ 37 ∷ []))
unfolding canonical
macro_kept name ps h =
    let k = both_true (is_macro_name name) (list_all is_text ps) h in
    let prefix : without_breaks name ≡ name = kept_whole is_not_break name (list_all_weaker is_text_byte is_not_break text_kept name (name_bytes name (both_true (is_name name) (not (is_some (standard_template name))) k.0).0)) in
    let back : without_breaks (pieces_text ps ++ 37 ∷ []) ≡ starred ps ++ 37 ∷ [] = filter-append is_not_break (pieces_text ps) (37 ∷ []) ∙ ap (λ (l : List ℕ). l ++ 37 ∷ []) (pieces_kept ps k.1) in
    ap (λ (l : List ℕ). 37 ∷ 65 ∷ 77 ∷ l) (filter-append is_not_break name (42 ∷ (pieces_text ps ++ 37 ∷ [])) ∙ (λ i. prefix i ++ 42 ∷ back i))

pub macro_whole : (name : List ℕ) (ps : List (List ℕ)) → (is_macro_name name && list_all is_text ps) ≡ true → without_breaks (canonical (Macro name ps)) ≡ piece_item (macro_piece_text name ps)
unfolding macro_piece_text
macro_whole name ps h = macro_kept name ps h ∙ ap (λ (l : List ℕ). 37 ∷ 65 ∷ 77 ∷ l) (joined_ends name ps (37 ∷ []))
