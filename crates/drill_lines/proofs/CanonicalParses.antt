-- The canonical line of a command spells just it, since it is so written.
use Rattle.drill_lines.proofs.Common.{◌≡◌, ℕ, suc, ◌≤◌, Bool, true, false, cond, not, ◌||◌, ◌&&◌, eqb, leb, ltb, List, [], ◌∷◌, ◌++◌, length, ℤ, Option, Some, None, Ok, refl, sym, ap, subst, ◌∙◌, arith, append_assoc, replicate, ◌⊎◌, inl, inr, lit<, lit≤, IfSome, decimal, codes, list_all, list_any, length-append, length-decimal-le, leb-true, eqb-true, Inch, Millimetre, Zeros, Leading, Trailing, Full, is_digit, is_number_char, parse_zero_filled, length-zeros, digit_number, spells_decimal, Coordinates, Part, Settings, DrillCommand, Comment, Start, UnitLine, Tool, HeaderEnd, UnitCode, Pick, Hit, Slot, Finish, Digits, AreDigitCounts, fixed_lines, unit_words, zeros_words, IsNumber, IsCoordinate, IsPointText, IsLine, format_in, zeros_in, is_blank, without_end_blanks, meaning, unit_word, zeros_text, pattern_text, canonical, is_comment_text, can_give_zeros, has_coordinate, is_sayable, IsInRange, and_true, both_true, list_all_weaker, list_all_append}
use Rattle.std.proofs.Common.{Contains, append-nil}
use Rattle.std.proofs.lemmas.Bool.{ltb-true}
use Rattle.grid_units.specs.declared.lengths.Unit.{Unit as Units}
use Rattle.grid_units.specs.Spellings.{spelling_with_point}
use Rattle.drill_lines.specs.declared.command.Part.TheVariants as part
use Rattle.drill_lines.specs.HoleLines.{coordinate_of}
use Rattle.drill_lines.specs.Writing.{coordinate_text, point_text, IsOptionalDec, IsPoint}
use Rattle.drill_lines.proofs.Answered.{shows, pattern_numbers, written_is_answered}
use Rattle.drill_lines.proofs.CutLemmas.{nested}
use Rattle.drill_lines.proofs.Runs.{decimal_digits, pointed_run, pointed_short, is_no_blank_or_break, solid_number, solid_kept}
use Rattle.grid_units.proofs.BoolLemmas.{not_empty}

-- ---- forms

listed : (s : Settings) (p : Part) (form : List ℕ × Option DrillCommand) → s.part ≡ p → Contains (([], None) ∷ fixed_lines p) form → Contains (([], None) ∷ fixed_lines s.part) form
listed s p form e h = subst (λ q. Contains (([], None) ∷ fixed_lines q) form) (sym e) h

unit_listed : (unit : Units) → Contains unit_words (unit_word unit, unit)
unit_listed Inch = (0, omega arith, refl)
unit_listed Millimetre = (1, omega arith, refl)

zeros_listed : (zeros : Option Zeros) → can_give_zeros zeros ≡ true → Contains zeros_words (zeros_text zeros, zeros)
zeros_listed None h = (0, omega arith, refl)
zeros_listed (Some Leading) h = (1, omega arith, refl)
zeros_listed (Some Trailing) h = (2, omega arith, refl)
zeros_listed (Some Full) h = absurd cc

format_given : (unit : Units) (zeros : Option Zeros) (format : Option Digits) → IsInRange (UnitLine unit zeros format) → IfSome format (λ f. AreDigitCounts f.whole f.decimals)
format_given unit zeros None t = tt
format_given unit zeros (Some f) t = t

number_written : (n : ℕ) → n ≤ 999 → IsNumber (decimal n) n
number_written n high =
    let s = spells_decimal n (omega (arith, high)) in
    (λ i. not_empty (length (decimal n)) s.some i && s.digits i, sym s.value, high)

-- ---- points

coordinate_written : (s : Settings) (letter : ℕ) (v : Option ℤ) → IsOptionalDec v → IsCoordinate s (letter ∷ []) (coordinate_text letter v) v
unfolding coordinate_of
coordinate_written s letter None t = refl
coordinate_written s letter (Some v) t =
    let run = pointed_run v t in
    (spelling_with_point v, refl, λ i. cond (run.point i) (run.reads i) (parse_zero_filled (spelling_with_point v) (format_in s).whole (format_in s).decimals (zeros_in s)))

point_written : (s : Settings) (p : Coordinates) → IsPoint p → has_coordinate p ≡ true → IsPointText s (point_text p) p
point_written s p t h = (coordinate_text 88 p.x, coordinate_text 89 p.y, refl, coordinate_written s 88 p.x t.0, coordinate_written s 89 p.y t.1, h)

-- ---- the line of a command

canonical_written : (p : Part) (s : Settings) (c : DrillCommand) → s.part ≡ p → is_sayable p c ≡ true → IsInRange c → IsLine s (canonical c) (Some c)
canonical_written part.Before s Start e h t = listed s part.Before (codes "M48", Some Start) e (1, omega arith, refl)
canonical_written part.Before s (Comment text) e h t = (λ k. absurd (let no : part.Before ≡ part.After = sym e ∙ k in cc), refl)
canonical_written part.Header s (Comment text) e h t = (λ k. absurd (let no : part.Header ≡ part.After = sym e ∙ k in cc), refl)
canonical_written part.Body s (Comment text) e h t = (λ k. absurd (let no : part.Body ≡ part.After = sym e ∙ k in cc), refl)
canonical_written part.Header s (UnitLine unit zeros format) e h t =
    (e, (unit_word unit, zeros_text zeros, sym (append_assoc (unit_word unit) (zeros_text zeros) (pattern_text format)), unit_listed unit, zeros_listed zeros h, format_given unit zeros format t))
canonical_written part.Header s (Tool n diameter) e h t =
    let k = both_true (leb 1 n) (leb n 999) h in
    let run = pointed_run diameter t in
    let whole : 84 ∷ (decimal n ++ 67 ∷ spelling_with_point diameter) ≡ 84 ∷ (decimal n ++ 67 ∷ (spelling_with_point diameter ++ [])) = ap (λ (l : List ℕ). 84 ∷ (decimal n ++ 67 ∷ l)) (sym (append-nil (spelling_with_point diameter))) in
    (e, (decimal n, [], spelling_with_point diameter, [], whole ∙ sym (nested (codes "T") (decimal n) [] (codes "C") (spelling_with_point diameter) []), number_written n (leb-true n 999 k.1), leb-true 1 n k.0, (refl, refl), (refl, refl), run.point, run.reads))
canonical_written part.Header s HeaderEnd e h t = listed s part.Header (codes "%", Some HeaderEnd) e (1, omega arith, refl)
canonical_written part.Header s (UnitCode Millimetre) e h t = listed s part.Header (codes "M71", Some (UnitCode Millimetre)) e (3, omega arith, refl)
canonical_written part.Header s (UnitCode Inch) e h t = listed s part.Header (codes "M72", Some (UnitCode Inch)) e (4, omega arith, refl)
canonical_written part.Body s (UnitCode Millimetre) e h t = listed s part.Body (codes "M71", Some (UnitCode Millimetre)) e (2, omega arith, refl)
canonical_written part.Body s (UnitCode Inch) e h t = listed s part.Body (codes "M72", Some (UnitCode Inch)) e (3, omega arith, refl)
canonical_written part.Body s (Pick n) e h t = (e, (decimal n, [], sym (append-nil (84 ∷ decimal n)), number_written n (leb-true n 999 h), (refl, refl)))
canonical_written part.Body s (Hit p) e h t = (e, point_written s p t h)
canonical_written part.Body s (Slot p q) e h t =
    let k = both_true (has_coordinate p) (has_coordinate q) h in
    (e, (point_text p, point_text q, sym (append_assoc (point_text p) (codes "G85") (point_text q)), point_written s p t.0 k.0, point_written s q t.1 k.1))
canonical_written part.Body s Finish e h t = listed s part.Body (codes "M30", Some Finish) e (1, omega arith, refl)
canonical_written p s c e h t = absurd cc

-- ---- bytes of a line

pub numbers_solid : (xs : List ℕ) → list_all is_number_char xs ≡ true → list_all is_no_blank_or_break xs ≡ true
numbers_solid xs h = list_all_weaker is_number_char is_no_blank_or_break solid_number xs h

coordinate_solid : (letter : ℕ) (v : Option ℤ) → is_no_blank_or_break letter ≡ true → IsOptionalDec v → list_all is_no_blank_or_break (coordinate_text letter v) ≡ true
coordinate_solid letter None h t = refl
coordinate_solid letter (Some v) h t = and_true (is_no_blank_or_break letter) (list_all is_no_blank_or_break (spelling_with_point v)) h (numbers_solid (spelling_with_point v) (pointed_run v t).numbers)

point_solid : (p : Coordinates) → IsPoint p → list_all is_no_blank_or_break (point_text p) ≡ true
unfolding is_no_blank_or_break
point_solid p t = list_all_append is_no_blank_or_break (coordinate_text 88 p.x) (coordinate_text 89 p.y) (coordinate_solid 88 p.x refl t.0) (coordinate_solid 89 p.y refl t.1)

decimal_solid : (n : ℕ) → n ≤ 999 → list_all is_no_blank_or_break (decimal n) ≡ true
decimal_solid n h = numbers_solid (decimal n) (list_all_weaker is_digit is_number_char digit_number (decimal n) (decimal_digits n (omega arith)))

unit_solid : (unit : Units) → list_all is_no_blank_or_break (unit_word unit) ≡ true
unfolding is_no_blank_or_break
unit_solid Inch = refl
unit_solid Millimetre = refl

zeros_solid : (zeros : Option Zeros) → list_all is_no_blank_or_break (zeros_text zeros) ≡ true
unfolding is_no_blank_or_break
zeros_solid None = refl
zeros_solid (Some Leading) = refl
zeros_solid (Some Trailing) = refl
zeros_solid (Some Full) = refl

pattern_solid : (format : Option Digits) → list_all is_no_blank_or_break (pattern_text format) ≡ true
unfolding shows is_no_blank_or_break
pattern_solid None = refl
pattern_solid (Some f) = numbers_solid (shows f) (pattern_numbers f)

-- a canonical line that is no comment has neither blanks nor LF
solid_line : (p : Part) (c : DrillCommand) → is_sayable p c ≡ true → IsInRange c → (list_all is_no_blank_or_break (canonical c) ≡ true) ⊎ ((text : List ℕ) × (canonical c ≡ 59 ∷ text) × (is_comment_text text ≡ true))
unfolding is_no_blank_or_break
solid_line part.Before Start h t = inl refl
solid_line part.Before (Comment text) h t = inr (text, refl, h)
solid_line part.Header (Comment text) h t = inr (text, refl, h)
solid_line part.Header (UnitLine unit zeros format) h t = inl (list_all_append is_no_blank_or_break (unit_word unit) (zeros_text zeros ++ pattern_text format) (unit_solid unit) (list_all_append is_no_blank_or_break (zeros_text zeros) (pattern_text format) (zeros_solid zeros) (pattern_solid format)))
solid_line part.Header (Tool number diameter) h t =
    let n = both_true (leb 1 number) (leb number 999) h in
    inl (list_all_append is_no_blank_or_break (decimal number) (67 ∷ spelling_with_point diameter) (decimal_solid number (leb-true number 999 n.1)) (numbers_solid (spelling_with_point diameter) (pointed_run diameter t).numbers))
solid_line part.Header HeaderEnd h t = inl refl
solid_line part.Header (UnitCode Inch) h t = inl refl
solid_line part.Header (UnitCode Millimetre) h t = inl refl
solid_line part.Body (Comment text) h t = inr (text, refl, h)
solid_line part.Body (UnitCode Inch) h t = inl refl
solid_line part.Body (UnitCode Millimetre) h t = inl refl
solid_line part.Body (Pick number) h t = inl (decimal_solid number (leb-true number 999 h))
solid_line part.Body (Hit p) h t = inl (point_solid p t)
solid_line part.Body (Slot p q) h t = inl (list_all_append is_no_blank_or_break (point_text p) (codes "G85" ++ point_text q) (point_solid p t.0) (point_solid q t.1))
solid_line part.Body Finish h t = inl refl
solid_line p c h t = absurd cc

-- a text that trimming leaves as long is left unchanged
trimmed_first : (t : Bool) (x : ℕ) (xs : List ℕ) → (length (without_end_blanks xs) ≡ length xs → without_end_blanks xs ≡ xs) → length (cond t [] (x ∷ without_end_blanks xs)) ≡ suc (length xs) → cond t [] (x ∷ without_end_blanks xs) ≡ x ∷ xs
trimmed_first true x xs rest k = absurd (omega (arith, k))
trimmed_first false x xs rest k = ap (λ (l : List ℕ). x ∷ l) (rest (omega (arith, k)))

trimmed_whole : (xs : List ℕ) → length (without_end_blanks xs) ≡ length xs → without_end_blanks xs ≡ xs
trimmed_whole [] h = refl
trimmed_whole (x ∷ xs) h = trimmed_first (is_blank x && eqb (length (without_end_blanks xs)) 0) x xs (trimmed_whole xs) h

-- the canonical line of a command that this part can have: kept whole, without LF, and spelling it
pub record CanonicalParses (s : Settings) (c : DrillCommand) : Type 0 where
  pub spells : meaning s (without_end_blanks (canonical c)) ≡ Ok (Some c)
  pub inside : list_all (λ b. not (eqb b 10)) (canonical c) ≡ true
  pub short : length (canonical c) ≤ 1048576

no_break_first : (t u v : Bool) → (not u ≡ true → v ≡ true) → not (t || u) ≡ true → (not t && v) ≡ true
no_break_first true u v rest k = absurd cc
no_break_first false u v rest k = rest k

no_breaks : (text : List ℕ) → not (list_any (λ b. eqb b 10) text) ≡ true → list_all (λ b. not (eqb b 10)) text ≡ true
no_breaks [] h = refl
no_breaks (x ∷ xs) h = no_break_first (eqb x 10) (list_any (λ b. eqb b 10) xs) (list_all (λ b. not (eqb b 10)) xs) (no_breaks xs) h

-- ---- lengths

coordinate_short : (letter : ℕ) (v : Option ℤ) → IsOptionalDec v → length (coordinate_text letter v) ≤ 17
coordinate_short letter None t = lit≤ tt
coordinate_short letter (Some v) t = omega (arith, pointed_short v t)

point_short : (p : Coordinates) → IsPoint p → length (point_text p) ≤ 34
point_short p t = omega (arith, length-append (coordinate_text 88 p.x) (coordinate_text 89 p.y), coordinate_short 88 p.x t.0, coordinate_short 89 p.y t.1)

number_short : (n : ℕ) → n ≤ 999 → length (decimal n) ≤ 3
number_short n h = length-decimal-le 3 n (lit< tt) (omega arith) (omega arith)

unit_short : (unit : Units) → length (unit_word unit) ≤ 6
unit_short Inch = lit≤ tt
unit_short Millimetre = lit≤ tt

zeros_short : (zeros : Option Zeros) → length (zeros_text zeros) ≤ 3
zeros_short None = lit≤ tt
zeros_short (Some Leading) = lit≤ tt
zeros_short (Some Trailing) = lit≤ tt
zeros_short (Some Full) = lit≤ tt

pattern_short : (unit : Units) (zeros : Option Zeros) (format : Option Digits) → IsInRange (UnitLine unit zeros format) → length (pattern_text format) ≤ 14
pattern_short unit zeros None t = lit≤ tt
pattern_short unit zeros (Some f) t = omega (arith, length-append {A = ℕ} (replicate f.whole 48) (46 ∷ replicate f.decimals 48), length-zeros f.whole, length-zeros f.decimals, t.0, t.1, t.2, t.3)

comment_short : (text : List ℕ) → is_comment_text text ≡ true → length (59 ∷ text) ≤ 1048576
comment_short text h =
    let k = both_true (not (list_any (λ b. eqb b 10) text)) (eqb (length (without_end_blanks text)) (length text) && ltb (length text) 1048576) h in
    let l = both_true (eqb (length (without_end_blanks text)) (length text)) (ltb (length text) 1048576) k.1 in
    omega (arith, ltb-true _ _ l.1)

line_short : (p : Part) (c : DrillCommand) → is_sayable p c ≡ true → IsInRange c → length (canonical c) ≤ 1048576
line_short part.Before Start h t = lit≤ tt
line_short part.Before (Comment text) h t = comment_short text h
line_short part.Header (Comment text) h t = comment_short text h
line_short part.Header (UnitLine unit zeros format) h t = omega (arith, length-append (unit_word unit) (zeros_text zeros ++ pattern_text format), length-append (zeros_text zeros) (pattern_text format), unit_short unit, zeros_short zeros, pattern_short unit zeros format t)
line_short part.Header (Tool number diameter) h t =
    let n = both_true (leb 1 number) (leb number 999) h in
    omega (arith, length-append (decimal number) (67 ∷ spelling_with_point diameter), number_short number (leb-true number 999 n.1), pointed_short diameter t)
line_short part.Header HeaderEnd h t = lit≤ tt
line_short part.Header (UnitCode Inch) h t = lit≤ tt
line_short part.Header (UnitCode Millimetre) h t = lit≤ tt
line_short part.Body (Comment text) h t = comment_short text h
line_short part.Body (UnitCode Inch) h t = lit≤ tt
line_short part.Body (UnitCode Millimetre) h t = lit≤ tt
line_short part.Body (Pick number) h t = omega (arith, number_short number (leb-true number 999 h))
line_short part.Body (Hit p) h t = omega (arith, point_short p t)
line_short part.Body (Slot p q) h t = omega (arith, length-append (point_text p) (codes "G85" ++ point_text q), point_short p t.0, point_short q t.1)
line_short part.Body Finish h t = lit≤ tt
line_short p c h t = absurd cc

pub solid_no_break : (b : ℕ) → is_no_blank_or_break b ≡ true → not (eqb b 10) ≡ true
unfolding is_no_blank_or_break
solid_no_break b h = (both_true (not (is_blank b)) (not (eqb b 10)) h).1

pub parses : (s : Settings) (c : DrillCommand) → is_sayable s.part c ≡ true → IsInRange c → CanonicalParses s c
parses s c h t = let answered = written_is_answered s (canonical c) (Some c) (canonical_written s.part s c refl h t) in elim (solid_line s.part c h t) [
  | inl solid ↦ record {
    spells = ap (meaning s) (solid_kept (canonical c) solid) ∙ answered;
    inside = list_all_weaker is_no_blank_or_break (λ b. not (eqb b 10)) solid_no_break (canonical c) solid;
    short = line_short s.part c h t;
  }
  | inr comment ↦ (
      let text = comment.0 in
      let k = both_true (not (list_any (λ b. eqb b 10) text)) (eqb (length (without_end_blanks text)) (length text) && ltb (length text) 1048576) comment.2 in
      let l = both_true (eqb (length (without_end_blanks text)) (length text)) (ltb (length text) 1048576) k.1 in
      let kept : without_end_blanks (canonical c) ≡ canonical c = ap without_end_blanks comment.1 ∙ (ap (λ (x : List ℕ). 59 ∷ x) (trimmed_whole text (eqb-true _ _ l.0)) ∙ sym comment.1) in
      record {
        spells = ap (meaning s) kept ∙ answered;
        inside = ap (list_all (λ b. not (eqb b 10))) comment.1 ∙ no_breaks text k.0;
        short = line_short s.part c h t;
      })
]
