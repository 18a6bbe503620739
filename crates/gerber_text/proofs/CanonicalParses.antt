-- The canonical item of a sayable command spells just it, since it is so written.
use Rattle.gerber_text.proofs.Common.{◌≡◌, inl, inr, ℕ, true, false, not, eqb, leb, Option, None, List, [], ◌∷◌, length, refl, ap, ◌∙◌, arith, codes, decimal, leb-true, Inch, Millimetre, Strict, item_limit, both_true, not_true, list_all_weaker, digits_numbers, Action, Command, Comment, Mode, Quadrant, RegionStart, RegionEnd, UnitIs, FormatIs, Define, Macro, Select, Operate, Dark, Clear, Mirror, Turn, Scale, Repeat, RepeatEnd, Attribute, Remove, Finish, Linear, Clockwise, Counterclockwise, Single, Multi, canonical, is_negative_comment, is_negative_image, IsWord, SpellsOne, IsPlain, is_not_break, without_breaks, Spells, IsItemIn, is_text_byte, is_text, is_nat, has_valid_fields, is_short, is_sayable, repeated_in}
use Rattle.grid_units.specs.Spellings.{canonical as canonical_dec}
use Rattle.gerber_commands.specs.declared.command.AttributeKind.TheVariants as kinds
use Rattle.gerber_text.proofs.GrammarItems.{item_means}
use Rattle.gerber_text.proofs.ItemLemmas.{text_kept, text_no_star, text_no_percent, word_item, word_unbroken, piece_item, piece_unbroken}
use Rattle.gerber_text.proofs.NumberLemmas.{numbers_text, nat_is, dec_is}
use Rattle.gerber_text.proofs.RunLemmas.{none_passes}
use Rattle.gerber_text.proofs.WordLemmas.{operation_text, operation_written, operation_whole}
use Rattle.gerber_text.proofs.PieceLemmas.{format_text, format_written, format_whole, format_bytes, block_text, block_written, block_whole, block_bytes, define_text, define_written, define_whole, define_bytes, macro_piece_text, macro_written, macro_percent, macro_whole}

-- the canonical item of a command without its line breaks is so written
abbrev IsWritten : Command → Type 0
IsWritten c = (latest : Option Action) → IsItemIn Strict latest (without_breaks (canonical c)) (c ∷ [])

word_written : (c : Command) (w : List ℕ) → canonical c ≡ word_item w → is_text w ≡ true → ((repeated : Option Action) → IsWord repeated w (c ∷ [])) → IsWritten c
word_written c w whole h written latest = inl (w, ap without_breaks whole ∙ word_unbroken w h, none_passes is_text_byte (λ b. eqb b 42) text_no_star w h, written (repeated_in Strict latest))

piece_written : (c : Command) (t : List ℕ) → canonical c ≡ piece_item t → is_text t ≡ true → IsPlain t (c ∷ []) → IsWritten c
piece_written c t whole h written latest =
    let percent = none_passes is_text_byte (λ b. eqb b 37) text_no_percent t h in
    let star = none_passes is_text_byte (λ b. eqb b 42) text_no_star t h in
    inr (t, ap without_breaks whole ∙ piece_unbroken t (list_all_weaker is_text_byte is_not_break text_kept t h), percent, inr (star, written))

one_written : (c : Command) (t : List ℕ) → canonical c ≡ piece_item t → is_text t ≡ true → SpellsOne t c → IsWritten c
one_written c t whole h one = piece_written c t whole h (inr (inl (c, one, refl)))

-- ---- each kind

kind_written : (c : Command) → has_valid_fields c ≡ true → IsWritten c
unfolding has_valid_fields canonical
kind_written (Comment text) h =
    let k = both_true (is_text text) (not (is_negative_comment text)) h in
    word_written (Comment text) (71 ∷ 48 ∷ 52 ∷ text) refl k.0 (λ _. inr (inr (inl (text, refl, refl, not_true (is_negative_comment text) k.1, none_passes is_text_byte (λ b. eqb b 37) text_no_percent text k.0))))
kind_written (Mode Linear) h = word_written (Mode Linear) (codes "G01") refl refl (λ _. inr (inl (0, omega arith, refl)))
kind_written (Mode Clockwise) h = word_written (Mode Clockwise) (codes "G02") refl refl (λ _. inr (inl (2, omega arith, refl)))
kind_written (Mode Counterclockwise) h = word_written (Mode Counterclockwise) (codes "G03") refl refl (λ _. inr (inl (4, omega arith, refl)))
kind_written (Quadrant Single) h = word_written (Quadrant Single) (codes "G74") refl refl (λ _. inl (2, omega arith, refl))
kind_written (Quadrant Multi) h = word_written (Quadrant Multi) (codes "G75") refl refl (λ _. inl (3, omega arith, refl))
kind_written RegionStart h = word_written RegionStart (codes "G36") refl refl (λ _. inl (4, omega arith, refl))
kind_written RegionEnd h = word_written RegionEnd (codes "G37") refl refl (λ _. inl (5, omega arith, refl))
kind_written (UnitIs Inch) h = piece_written (UnitIs Inch) (codes "MOIN") refl refl (inl (0, omega arith, refl))
kind_written (UnitIs Millimetre) h = piece_written (UnitIs Millimetre) (codes "MOMM") refl refl (inl (1, omega arith, refl))
kind_written (FormatIs f) h = one_written (FormatIs f) (format_text f) (format_whole f h) (format_bytes f h) (format_written f h)
kind_written (Define n t) h = one_written (Define n t) (define_text n t) (define_whole n t) (define_bytes n t h) (define_written n t h)
kind_written (Macro name ps) h = λ _. inr (macro_piece_text name ps, macro_whole name ps h, macro_percent name ps h, inl (macro_written name ps h))
kind_written (Select n) h =
    let k = both_true (leb 10 n) (is_nat n) h in
    let d = nat_is n k.1 in
    word_written (Select n) (68 ∷ decimal n) refl (numbers_text (decimal n) (digits_numbers (decimal n) d.digits)) (λ _. inr (inr (inr (inl (decimal n, n, inl refl, d.reads, leb-true 10 n k.0, refl)))))
kind_written (Operate a x y i j) h = let o = operation_written a x y i j h in word_written (Operate a x y i j) (operation_text a x y i j) (operation_whole a x y i j) o.1 (λ repeated. inr (inr (inr (inr (o.0 repeated)))))
kind_written Dark h = piece_written Dark (codes "LPD") refl refl (inl (2, omega arith, refl))
kind_written Clear h = absurd cc
kind_written (Mirror false false) h = piece_written (Mirror false false) (codes "LMN") refl refl (inl (4, omega arith, refl))
kind_written (Mirror true false) h = piece_written (Mirror true false) (codes "LMX") refl refl (inl (5, omega arith, refl))
kind_written (Mirror false true) h = piece_written (Mirror false true) (codes "LMY") refl refl (inl (6, omega arith, refl))
kind_written (Mirror true true) h = piece_written (Mirror true true) (codes "LMXY") refl refl (inl (7, omega arith, refl))
kind_written (Turn v) h = let d = dec_is v h in one_written (Turn v) (76 ∷ 82 ∷ canonical_dec v) refl (numbers_text (canonical_dec v) d.numbers) (canonical_dec v, refl, d.reads)
kind_written (Scale v) h = let d = dec_is v h in one_written (Scale v) (76 ∷ 83 ∷ canonical_dec v) refl (numbers_text (canonical_dec v) d.numbers) (canonical_dec v, refl, d.reads)
kind_written (Repeat b) h = one_written (Repeat b) (block_text b) (block_whole b) (block_bytes b h) (block_written b h)
kind_written RepeatEnd h = piece_written RepeatEnd (codes "SR") refl refl (inl (3, omega arith, refl))
kind_written (Attribute kinds.File text) h = let k = both_true (is_text text) (not (is_negative_image text)) h in one_written (Attribute kinds.File text) (84 ∷ 70 ∷ text) refl k.0 (refl, not_true (is_negative_image text) k.1)
kind_written (Attribute kinds.Aperture text) h = one_written (Attribute kinds.Aperture text) (84 ∷ 65 ∷ text) refl h refl
kind_written (Attribute kinds.Object text) h = one_written (Attribute kinds.Object text) (84 ∷ 79 ∷ text) refl h refl
kind_written (Remove text) h = one_written (Remove text) (84 ∷ 68 ∷ text) refl h refl
kind_written Finish h = word_written Finish (codes "M02") refl refl (λ _. inl (8, omega arith, refl))

pub parses : (c : Command) → is_sayable c ≡ true → Spells (canonical c) c
parses c h =
    let k = both_true (has_valid_fields c) (is_short c) h in
    let item = without_breaks (canonical c) in
    let means = λ (latest : Option Action). item_means Strict latest item (c ∷ []) (kind_written c k.0 latest) in
    record { one = (means None).0; short = leb-true (length item) item_limit k.1; parses = λ latest. (means latest).1 }
