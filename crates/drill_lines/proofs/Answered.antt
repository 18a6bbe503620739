-- Of a line that is written for a command, or for nothing, the rows answer just that.
use Rattle.drill_lines.proofs.Common.{◌≡◌, ◌≢◌, ℕ, zero, suc, ◌≤◌, Bool, true, false, cond, not, ◌||◌, ◌&&◌, eqb, leb, List, [], ◌∷◌, ◌++◌, length, drop, ℤ, Option, Some, None, is_some, Result, Ok, Err, IfSome, refl, sym, ap, subst, ◌∙◌, arith, append_assoc, replicate, codes, take_while, count_by, list_all, prefix_len, after_first, AllByRecursion, le-leb, eq-eqb, nat_tests, append-nil, All-from_recursion, All-contains, Reason, BadLine, BadNumber, Inch, Millimetre, Zeros, Leading, Trailing, Full, ◌>>=◌, both, is_digit, is_digits, is_number_char, value, and_true, both_true, list_all_weaker, list_all_append, length-zeros, Coordinates, Part, Settings, DrillCommand, Comment, Start, UnitLine, Tool, HeaderEnd, UnitCode, Pick, Hit, Slot, Finish, Digits, AreDigitCounts, is_zero, is_digit_count, digit_counts, pattern_from, is_diameter_letter, is_tool_letter, is_skipped_letter, begins_with, are_fields, field, Runs, runs_of, has_run, one_command, begins_comment, unit_word, zeros_text, pattern_text, canonical, can_give_zeros, IsInRange, fixed_lines, unit_words, zeros_words, IsNumber, IsCoordinate, IsPointText}
use Rattle.std.specs.List.{Contains}
use Rattle.std.proofs.lemmas.List.Sums.{sum_by-append}
use Rattle.grid_units.specs.declared.lengths.Unit.{Unit as Units}
use Rattle.grid_units.proofs.ListLemmas.{prefix_len_append, take_while_append, drop_run_append}
use Rattle.drill_lines.specs.declared.command.Part.TheVariants as part
use Rattle.drill_lines.specs.Header.{pattern, unit_format, unit_line}
use Rattle.drill_lines.specs.Tools.{tool_number, diameter_of, diameter_run, tool_fields, tool_line, pick_fields, pick_line}
use Rattle.drill_lines.specs.HoleLines.{coordinate, coordinates, point_line, slot_line, hole_from, hole_line}
use Rattle.drill_lines.specs.Meaning.{lines_before, common_lines, header_ends, body_prefixes, line_in, meaning}
use Rattle.drill_lines.specs.Grammar.{IsUnitLine, IsToolLine, IsPickLine, IsSlotLine}
use Rattle.drill_lines.specs.Laws.{WrittenIsAnswered, SpellsAtMostOne}
use Rattle.drill_lines.proofs.CutLemmas.{nested, after_more, after_here, decimal_numbers, coordinate_numbers}
use Rattle.drill_lines.proofs.SkippedFields.{is_field_byte, is_skipped_byte, letter_no_digit, letter_no_number, written_bytes, written_begins, fields_end, last_fields_end, count_more}
use Rattle.drill_lines.proofs.Runs.{or_right, zeros_pass}

-- ---- lines of a part

-- a line without blanks at its end, in this part
unfoldable pub read_in_part : Part → Settings → List ℕ → Result (Option DrillCommand) Reason
read_in_part p s [] = Ok None
read_in_part p s (b ∷ bs) = cond (begins_comment p b) (Ok (Some (Comment bs))) (line_in p s (b ∷ bs))

pub means : (s : Settings) (line : List ℕ) → meaning s line ≡ read_in_part s.part s line
unfolding meaning read_in_part
means s [] = refl
means s (b ∷ bs) = refl

-- a line that spells this in a part is read so in a file that is there
in_this_part : (s : Settings) (p : Part) (line : List ℕ) (spelled : Option DrillCommand) → s.part ≡ p → read_in_part p s line ≡ Ok spelled → meaning s line ≡ Ok spelled
in_this_part s p line spelled e h = means s line ∙ ap (λ q. read_in_part q s line) e ∙ h

-- ---- fixed lines

fixed_read : (p : Part) (s : Settings) → AllByRecursion (λ form. read_in_part p s form.0 ≡ Ok form.1) (([], None) ∷ fixed_lines p)
unfolding read_in_part line_in lines_before common_lines header_ends body_prefixes
fixed_read part.Before s = (refl, (refl, (refl, tt)))
fixed_read part.Header s = (refl, (refl, (refl, (refl, (refl, (refl, (refl, (refl, (refl, (refl, tt))))))))))
fixed_read part.Body s = (refl, (refl, (refl, (refl, (refl, (refl, (refl, (refl, (refl, tt)))))))))
fixed_read part.After s = (refl, tt)

listed_read : (s : Settings) (line : List ℕ) (spelled : Option DrillCommand) → Contains (([], None) ∷ fixed_lines s.part) (line, spelled) → meaning s line ≡ Ok spelled
listed_read s line spelled h =
    let Reads : List ℕ × Option DrillCommand → Type 0 = λ form. read_in_part s.part s form.0 ≡ Ok form.1 in
    let forms = ([], None) ∷ fixed_lines s.part in
    in_this_part s s.part line spelled refl (All-contains Reads forms (line, spelled) (All-from_recursion Reads forms (fixed_read s.part s)) h)

comment_read : (p : Part) (s : Settings) (text : List ℕ) → p ≢ part.After → read_in_part p s (59 ∷ text) ≡ Ok (Some (Comment text))
unfolding read_in_part
comment_read part.Before s text h = refl
comment_read part.Header s text h = refl
comment_read part.Body s text h = refl
comment_read part.After s text h = absurd (h refl)

-- ---- unit lines

unfoldable pub shows : Digits → List ℕ
shows f = replicate f.whole 48 ++ 46 ∷ replicate f.decimals 48

sizes_read : (f : Digits) → AreDigitCounts f.whole f.decimals → digit_counts f.whole f.decimals ≡ Ok f
sizes_read f s =
    let a : is_digit_count f.whole ≡ true = and_true (leb 1 f.whole) (leb f.whole 6) (le-leb 1 f.whole s.0) (le-leb f.whole 6 s.1) in
    let b : is_digit_count f.decimals ≡ true = and_true (leb 1 f.decimals) (leb f.decimals 6) (le-leb 1 f.decimals s.2) (le-leb f.decimals 6 s.3) in
    λ i. cond (a i && b i) (Ok f) (Err BadNumber)

pattern_read : (f : Digits) → AreDigitCounts f.whole f.decimals → pattern (shows f) ≡ Ok f
unfolding pattern shows
pattern_read f s =
    let zeros : list_all is_zero (replicate f.whole 48) ≡ true = zeros_pass f.whole is_zero refl in
    let behind : list_all is_zero (replicate f.decimals 48) ≡ true = zeros_pass f.decimals is_zero refl in
    let len : prefix_len is_zero (shows f) ≡ f.whole = prefix_len_append is_zero (replicate f.whole 48) (46 ∷ replicate f.decimals 48) zeros refl ∙ length-zeros f.whole in
    let rest : drop (prefix_len is_zero (shows f)) (shows f) ≡ 46 ∷ replicate f.decimals 48 = drop_run_append is_zero (replicate f.whole 48) (46 ∷ replicate f.decimals 48) zeros refl in
    (λ i. pattern_from (len i) (rest i))
    ∙ ((λ i. cond (behind i) (digit_counts f.whole (length-zeros f.decimals i)) (Err BadNumber)) ∙ sizes_read f s)

pub pattern_numbers : (f : Digits) → list_all is_number_char (shows f) ≡ true
unfolding shows
pattern_numbers f = list_all_append is_number_char (replicate f.whole 48) (46 ∷ replicate f.decimals 48) (zeros_pass f.whole is_number_char refl) (zeros_pass f.decimals is_number_char refl)

format_read : (unit : Units) (zeros : Option Zeros) (f : Digits) → AreDigitCounts f.whole f.decimals → unit_format unit zeros (44 ∷ shows f) ≡ Ok (UnitLine unit zeros (Some f))
unfolding unit_format
format_read unit zeros f s =
    (λ i. cond (pattern_numbers f i) (pattern (shows f) >>= λ p. Ok (UnitLine unit zeros (Some p))) (Err BadLine))
    ∙ (λ i. pattern_read f s i >>= λ p. Ok (UnitLine unit zeros (Some p)))

-- a pattern begins with a zero
bare_from : (unit : Units) (i d : ℕ) → 1 ≤ i → unit_line unit (44 ∷ (replicate i 48 ++ 46 ∷ replicate d 48)) ≡ unit_format unit None (44 ∷ (replicate i 48 ++ 46 ∷ replicate d 48))
unfolding unit_line
bare_from unit zero d h = absurd (omega arith)
bare_from unit (suc i) d h = refl

bare_read : (unit : Units) (f : Digits) → AreDigitCounts f.whole f.decimals → unit_line unit (44 ∷ shows f) ≡ unit_format unit None (44 ∷ shows f)
unfolding shows
bare_read unit f s = bare_from unit f.whole f.decimals s.0

unit_text_read : (unit : Units) (zeros : Option Zeros) (format : Option Digits) → can_give_zeros zeros ≡ true → IsInRange (UnitLine unit zeros format) → unit_line unit (zeros_text zeros ++ pattern_text format) ≡ Ok (UnitLine unit zeros format)
unfolding unit_line unit_format shows
unit_text_read unit (Some Leading) None h s = refl
unit_text_read unit (Some Leading) (Some f) h s = format_read unit (Some Leading) f s
unit_text_read unit (Some Trailing) None h s = refl
unit_text_read unit (Some Trailing) (Some f) h s = format_read unit (Some Trailing) f s
unit_text_read unit (Some Full) format h s = absurd cc
unit_text_read unit None None h s = refl
unit_text_read unit None (Some f) h s = bare_read unit f s ∙ format_read unit None f s

unit_spelled : (s : Settings) (unit : Units) (zeros : Option Zeros) (format : Option Digits) → can_give_zeros zeros ≡ true → IsInRange (UnitLine unit zeros format) → read_in_part part.Header s (canonical (UnitLine unit zeros format)) ≡ Ok (Some (UnitLine unit zeros format))
unfolding read_in_part line_in header_ends
unit_spelled s Inch zeros format h t = ap one_command (unit_text_read Inch zeros format h t)
unit_spelled s Millimetre zeros format h t = ap one_command (unit_text_read Millimetre zeros format h t)

in_range : (unit : Units) (kept : Option Zeros) (format : Option Digits) → IfSome format (λ f. AreDigitCounts f.whole f.decimals) → IsInRange (UnitLine unit kept format)
in_range unit kept None h = tt
in_range unit kept (Some f) h = h

words_are : AllByRecursion (λ form. form.0 ≡ unit_word form.1) unit_words
words_are = (refl, (refl, tt))

named_are : AllByRecursion (λ form. (form.0 ≡ zeros_text form.1) × (can_give_zeros form.1 ≡ true)) zeros_words
named_are = ((refl, refl), ((refl, refl), ((refl, refl), tt)))

unit_read : (s : Settings) (line : List ℕ) (unit : Units) (kept : Option Zeros) (format : Option Digits) → IsUnitLine line unit kept format → read_in_part part.Header s line ≡ Ok (Some (UnitLine unit kept format))
unit_read s line unit kept format h =
    let IsWord : List ℕ × Units → Type 0 = λ form. form.0 ≡ unit_word form.1 in
    let IsNamed : List ℕ × Option Zeros → Type 0 = λ form. (form.0 ≡ zeros_text form.1) × (can_give_zeros form.1 ≡ true) in
    let w = All-contains IsWord unit_words (h.0, unit) (All-from_recursion IsWord unit_words words_are) h.3 in
    let z = All-contains IsNamed zeros_words (h.1, kept) (All-from_recursion IsNamed zeros_words named_are) h.4 in
    let whole : line ≡ canonical (UnitLine unit kept format) = h.2 ∙ append_assoc h.0 h.1 (pattern_text format) ∙ (λ i. w i ++ (z.0 i ++ pattern_text format)) in
    ap (read_in_part part.Header s) whole ∙ unit_spelled s unit kept format z.1 (in_range unit kept format h.5)

-- ---- tools

number_read : (least n : ℕ) (digits : List ℕ) → IsNumber digits n → least ≤ n → tool_number least digits ≡ Ok n
unfolding tool_number
number_read least n digits h low =
    let v = value digits in
    let a : leb least v ≡ true = ap (leb least) (sym h.1) ∙ le-leb least n low in
    let b : leb v 999 ≡ true = ap (λ k. leb k 999) (sym h.1) ∙ le-leb n 999 h.2 in
    (λ i. cond (h.0 i && (a i && b i)) (Ok v) (Err BadNumber)) ∙ ap (λ k. Ok k) (sym h.1)

all_digits : (digits : List ℕ) → is_digits digits ≡ true → list_all is_digit digits ≡ true
all_digits digits h = (both_true (not (eqb (length digits) 0)) (list_all is_digit digits) h).1

pick_read : (s : Settings) (line : List ℕ) (n : ℕ) → IsPickLine line n → read_in_part part.Body s line ≡ Ok (Some (Pick n))
unfolding read_in_part line_in pick_line pick_fields
pick_read s line n h =
    let digits = h.0 in
    let fields = h.1 in
    let letters : are_fields is_skipped_letter fields ≡ true = and_true (begins_with is_skipped_letter fields) (list_all is_skipped_byte fields) (written_begins fields h.4) (written_bytes fields h.4) in
    let d = all_digits digits h.3.0 in
    let ends = last_fields_end is_digit fields letter_no_digit h.4 in
    let read : pick_line (digits ++ fields) ≡ Ok (Pick n) =
    (λ i. pick_fields (take_while_append is_digit digits fields d ends i) (drop_run_append is_digit digits fields d ends i))
    ∙ (λ i. cond (letters i) (number_read 0 n digits h.3 (omega arith) i >>= λ k. Ok (Pick k)) (Err BadLine)) in
    ap (read_in_part part.Body s) (h.2 ∙ append_assoc (codes "T") digits fields) ∙ ap one_command read

skipped_is_field : (b : ℕ) → is_skipped_byte b ≡ true → is_field_byte b ≡ true
skipped_is_field b h = by (is_diameter_letter b) (is_skipped_letter b) (is_number_char b) h
  where
    by : (c t n : Bool) → (t || n) ≡ true → ((c || t) || n) ≡ true
    by true t n h = refl
    by false t n h = h

number_is_skipped : (b : ℕ) → is_number_char b ≡ true → is_skipped_byte b ≡ true
number_is_skipped b h = or_right (is_skipped_letter b) (is_number_char b) h

skipped_no_diameter : (b : ℕ) → is_skipped_byte b ≡ true → is_diameter_letter b ≡ false
skipped_no_diameter b h = grind (arith, nat_tests)

no_diameters : (xs : List ℕ) → list_all is_skipped_byte xs ≡ true → count_by is_diameter_letter xs ≡ 0
no_diameters [] h = refl
no_diameters (x ∷ xs) h =
    let b = both_true (is_skipped_byte x) (list_all is_skipped_byte xs) h in
    omega (arith, count_more x xs false (skipped_no_diameter x b.0), no_diameters xs b.1)

one_diameter : (before after : List ℕ) → list_all is_skipped_byte before ≡ true → list_all is_skipped_byte after ≡ true → count_by is_diameter_letter (before ++ 67 ∷ after) ≡ 1
one_diameter before after h k =
    omega (arith, sum_by-append (λ b. cond (is_diameter_letter b) 1 0) before (67 ∷ after), no_diameters before h, count_more 67 after true refl, no_diameters after k)

after_diameter : (before after : List ℕ) → list_all is_skipped_byte before ≡ true → after_first is_diameter_letter (before ++ 67 ∷ after) ≡ after
after_diameter [] after h = after_here is_diameter_letter 67 after refl
after_diameter (x ∷ xs) after h =
    let b = both_true (is_skipped_byte x) (list_all is_skipped_byte xs) h in
    after_more is_diameter_letter x (xs ++ 67 ∷ after) (skipped_no_diameter x b.0) ∙ after_diameter xs after b.1

tool_begins : (before after : List ℕ) → begins_with is_skipped_letter before ≡ true → begins_with is_tool_letter (before ++ 67 ∷ after) ≡ true
tool_begins [] after h = refl
tool_begins (x ∷ xs) after h = or_right (is_diameter_letter x) (is_skipped_letter x) h

tool_read : (s : Settings) (line : List ℕ) (n : ℕ) (diameter : ℤ) → IsToolLine line n diameter → read_in_part part.Header s line ≡ Ok (Some (Tool n diameter))
unfolding read_in_part line_in header_ends tool_line tool_fields diameter_of
tool_read s line n diameter h =
    let digits = h.0 in
    let before = h.1 in
    let run = h.2 in
    let after = h.3 in
    let fields = before ++ 67 ∷ (run ++ after) in
    let b = written_bytes before h.7 in
    let numbers = decimal_numbers run diameter h.10 in
    let behind : list_all is_skipped_byte (run ++ after) ≡ true = list_all_append is_skipped_byte run after (list_all_weaker is_number_char is_skipped_byte number_is_skipped run numbers) (written_bytes after h.8) in
    let d = all_digits digits h.5.0 in
    let ends : prefix_len is_digit fields ≡ 0 = fields_end is_digit before (67 ∷ (run ++ after)) letter_no_digit h.7 refl in
    let run_ends = last_fields_end is_number_char after letter_no_number h.8 in
    let field_bytes : list_all is_field_byte fields ≡ true =
    list_all_append is_field_byte before (67 ∷ (run ++ after)) (list_all_weaker is_skipped_byte is_field_byte skipped_is_field before b) (list_all_weaker is_skipped_byte is_field_byte skipped_is_field (run ++ after) behind) in
    let letters : are_fields is_tool_letter fields ≡ true = and_true (begins_with is_tool_letter fields) (list_all is_field_byte fields) (tool_begins before (run ++ after) (written_begins before h.7)) field_bytes in
    let one : eqb (count_by is_diameter_letter fields) 1 ≡ true = eq-eqb _ _ (one_diameter before (run ++ after) b behind) in
    let alone : diameter_run fields ≡ run = ap (take_while is_number_char) (after_diameter before (run ++ after) b) ∙ take_while_append is_number_char run after numbers run_ends in
    let is_diameter : diameter_of (diameter_run fields) ≡ Ok diameter = ap diameter_of alone ∙ (λ i. cond (h.9 i) (h.10 i) (Err BadNumber)) in
    let read : tool_line (digits ++ fields) ≡ Ok (Tool n diameter) =
    (λ i. tool_fields (take_while_append is_digit digits fields d ends i) (drop_run_append is_digit digits fields d ends i))
    ∙ ((λ i. cond (letters i && one i) (both (tool_number 1 digits) (diameter_of (diameter_run fields)) >>= λ t. Ok (Tool t.0 t.1)) (Err BadLine))
    ∙ (λ i. both (number_read 1 n digits h.5 h.6 i) (is_diameter i) >>= λ t. Ok (Tool t.0 t.1))) in
    ap (read_in_part part.Header s) (h.4 ∙ nested (codes "T") digits before (codes "C") run after) ∙ ap one_command read

-- ---- points

-- how a field is read in front of these bytes
record IsReadField (s : Settings) (letter : ℕ) (line rest : List ℕ) (v : Option ℤ) : Type 0 where
  run : Option (List ℕ)
  cut : field letter line ≡ (run, rest)
  reads : coordinate s run ≡ Ok v
  named : is_some run ≡ is_some v

field_read : (s : Settings) (letter : ℕ) (text rest : List ℕ) (v : Option ℤ) → IsCoordinate s (letter ∷ []) text v → eqb letter letter ≡ true → prefix_len is_number_char rest ≡ 0 → field letter rest ≡ (None, rest) → IsReadField s letter (text ++ rest) rest v
unfolding coordinate
field_read s letter text rest None h same ends none = record { run = None; cut = ap (λ (t : List ℕ). field letter (t ++ rest)) h ∙ none; reads = refl; named = refl }
field_read s letter text rest (Some v) h same ends none =
    let run = h.0 in
    let numbers = coordinate_numbers s run v h.2 in
    record {
      run = Some run;
      cut =
          ap (λ (t : List ℕ). field letter (t ++ rest)) h.1
          ∙ (ap (λ t. cond t (Some (take_while is_number_char (run ++ rest)), drop (prefix_len is_number_char (run ++ rest)) (run ++ rest)) (None, letter ∷ (run ++ rest))) same
          ∙ (λ i. (Some (take_while_append is_number_char run rest numbers ends i), drop_run_append is_number_char run rest numbers ends i)));
      reads = ap (λ r. r >>= λ x. Ok (Some x)) h.2;
      named = refl;
    }

-- what follows the X of a point begins with Y, or is what follows the point
y_ends : (s : Settings) (text rest : List ℕ) (v : Option ℤ) → IsCoordinate s (codes "Y") text v → prefix_len is_number_char rest ≡ 0 → prefix_len is_number_char (text ++ rest) ≡ 0
y_ends s text rest None h k = ap (λ (t : List ℕ). prefix_len is_number_char (t ++ rest)) h ∙ k
y_ends s text rest (Some v) h k = ap (λ (t : List ℕ). prefix_len is_number_char (t ++ rest)) h.1

y_no_x : (s : Settings) (text rest : List ℕ) (v : Option ℤ) → IsCoordinate s (codes "Y") text v → field 88 rest ≡ (None, rest) → field 88 (text ++ rest) ≡ (None, text ++ rest)
y_no_x s text rest None h k = subst (λ (t : List ℕ). field 88 (t ++ rest) ≡ (None, t ++ rest)) (sym h) k
y_no_x s text rest (Some v) h k = subst (λ (t : List ℕ). field 88 (t ++ rest) ≡ (None, t ++ rest)) (sym h.1) refl

-- how a point is read in front of these bytes
record IsReadPoint (s : Settings) (line rest : List ℕ) (p : Coordinates) : Type 0 where
  runs : Runs
  cut : runs_of line ≡ (runs, rest)
  reads : coordinates s runs ≡ Ok p
  named : has_run runs ≡ true

point_read : (s : Settings) (text rest : List ℕ) (p : Coordinates) → IsPointText s text p → prefix_len is_number_char rest ≡ 0 → field 88 rest ≡ (None, rest) → field 89 rest ≡ (None, rest) → IsReadPoint s (text ++ rest) rest p
unfolding coordinates
point_read s text rest p h ends no_x no_y =
    let x = field_read s 88 h.0 (h.1 ++ rest) p.x h.3 refl (y_ends s h.1 rest p.y h.4 ends) (y_no_x s h.1 rest p.y h.4 no_x) in
    let y = field_read s 89 h.1 rest p.y h.4 refl ends no_y in
    let first : field 88 (text ++ rest) ≡ (x.run, h.1 ++ rest) = ap (field 88) (ap (λ (t : List ℕ). t ++ rest) h.2 ∙ append_assoc h.0 h.1 rest) ∙ x.cut in
    record {
      runs = record { x = x.run; y = y.run };
      cut = (λ i. (record { x = (first i).0; y = (field 89 (first i).1).0 }, (field 89 (first i).1).1)) ∙ (λ i. (record { x = x.run; y = (y.cut i).0 }, (y.cut i).1));
      reads = λ i. both (x.reads i) (y.reads i) >>= λ q. Ok (record { x = q.0; y = q.1 });
      named = (λ i. x.named i || y.named i) ∙ h.5;
    }

-- a point that is the whole text
point_alone : (s : Settings) (text : List ℕ) (p : Coordinates) → IsPointText s text p → IsReadPoint s text [] p
point_alone s text p h = subst (λ (t : List ℕ). IsReadPoint s t [] p) (append-nil text) (point_read s text [] p h refl refl refl)

pub point_answered : (s : Settings) (text : List ℕ) (p : Coordinates) → IsPointText s text p → point_line s text ≡ Some (Ok p)
unfolding point_line
point_answered s text p h =
    let r = point_alone s text p h in
    (λ i. cond (has_run (r.cut i).0 && eqb (length (r.cut i).1) 0) (Some (coordinates s (r.cut i).0)) None)
    ∙ ((λ i. cond (r.named i && true) (Some (coordinates s r.runs)) None) ∙ (λ i. Some (r.reads i)))

-- a line of the body that begins with a point drills
point_head : (s : Settings) (x y rest : List ℕ) (v w : Option ℤ) → IsCoordinate s (codes "X") x v → IsCoordinate s (codes "Y") y w → (is_some v || is_some w) ≡ true
    → read_in_part part.Body s ((x ++ y) ++ rest) ≡ one_command (hole_line s ((x ++ y) ++ rest))
unfolding read_in_part line_in
point_head s x y rest (Some v) w h k named = subst (λ (t : List ℕ). read_in_part part.Body s ((t ++ y) ++ rest) ≡ one_command (hole_line s ((t ++ y) ++ rest))) (sym h.1) refl
point_head s x y rest None (Some w) h k named =
    subst (λ (t : List ℕ). read_in_part part.Body s ((t ++ y) ++ rest) ≡ one_command (hole_line s ((t ++ y) ++ rest))) (sym h)
    (subst (λ (t : List ℕ). read_in_part part.Body s (t ++ rest) ≡ one_command (hole_line s (t ++ rest))) (sym k.1) refl)
point_head s x y rest None None h k named = absurd cc

drills : (s : Settings) (text rest : List ℕ) (p : Coordinates) → IsPointText s text p → read_in_part part.Body s (text ++ rest) ≡ one_command (hole_line s (text ++ rest))
drills s text rest p h = subst (λ (t : List ℕ). read_in_part part.Body s (t ++ rest) ≡ one_command (hole_line s (t ++ rest))) (sym h.2) (point_head s h.0 h.1 rest p.x p.y h.3 h.4 h.5)

hit_read : (s : Settings) (line : List ℕ) (p : Coordinates) → IsPointText s line p → read_in_part part.Body s line ≡ Ok (Some (Hit p))
unfolding hole_line hole_from
hit_read s line p h =
    let r = point_alone s line p h in
    let read : hole_line s line ≡ Ok (Hit p) = (λ i. hole_from s (r.cut i).0 (r.cut i).1) ∙ (λ i. r.reads i >>= λ q. Ok (Hit q)) in
    subst (λ (t : List ℕ). read_in_part part.Body s t ≡ one_command (hole_line s t)) (append-nil line) (drills s line [] p h) ∙ ap one_command read

some_bytes : (n : ℕ) → eqb (suc n) 0 ≡ false
some_bytes n = grind (arith, nat_tests)

-- what follows the first point begins with `G85`, so it is a slot
slot_after_point : (s : Settings) (runs : Runs) (q : List ℕ) → hole_from s runs (codes "G85" ++ q) ≡ slot_line s runs q
unfolding hole_from
slot_after_point s runs q = ap (λ t. cond t (coordinates s runs >>= λ p. Ok (Hit p)) (slot_line s runs q)) (some_bytes (suc (suc (length q))))

slot_read : (s : Settings) (line : List ℕ) (p q : Coordinates) → IsSlotLine s line p q → read_in_part part.Body s line ≡ Ok (Some (Slot p q))
unfolding hole_line slot_line
slot_read s line p q h =
    let tail = codes "G85" ++ h.1 in
    let a = point_read s h.0 tail p h.3 refl refl refl in
    let b = point_alone s h.1 q h.4 in
    let whole : line ≡ h.0 ++ tail = h.2 ∙ append_assoc h.0 (codes "G85") h.1 in
    let read : hole_line s (h.0 ++ tail) ≡ Ok (Slot p q) =
    ((λ i. hole_from s (a.cut i).0 (a.cut i).1) ∙ slot_after_point s a.runs h.1)
    ∙ ((λ i. cond (has_run (b.cut i).0 && eqb (length (b.cut i).1) 0) (both (coordinates s a.runs) (coordinates s (b.cut i).0) >>= λ r. Ok (Slot r.0 r.1)) (Err BadLine))
    ∙ ((λ i. cond (b.named i && true) (both (coordinates s a.runs) (coordinates s b.runs) >>= λ r. Ok (Slot r.0 r.1)) (Err BadLine))
    ∙ (λ i. both (a.reads i) (b.reads i) >>= λ r. Ok (Slot r.0 r.1)))) in
    ap (read_in_part part.Body s) whole ∙ (drills s h.0 tail p h.3 ∙ ap one_command read)

-- ---- every line

pub written_is_answered : WrittenIsAnswered
written_is_answered s line None h = listed_read s line None h
written_is_answered s line (Some Start) h = listed_read s line (Some Start) h
written_is_answered s line (Some HeaderEnd) h = listed_read s line (Some HeaderEnd) h
written_is_answered s line (Some (UnitCode unit)) h = listed_read s line (Some (UnitCode unit)) h
written_is_answered s line (Some Finish) h = listed_read s line (Some Finish) h
written_is_answered s line (Some (Comment text)) h = means s line ∙ (ap (read_in_part s.part s) h.1 ∙ comment_read s.part s text h.0)
written_is_answered s line (Some (UnitLine unit kept format)) h = in_this_part s part.Header line (Some (UnitLine unit kept format)) h.0 (unit_read s line unit kept format h.1)
written_is_answered s line (Some (Tool n diameter)) h = in_this_part s part.Header line (Some (Tool n diameter)) h.0 (tool_read s line n diameter h.1)
written_is_answered s line (Some (Pick n)) h = in_this_part s part.Body line (Some (Pick n)) h.0 (pick_read s line n h.1)
written_is_answered s line (Some (Hit p)) h = in_this_part s part.Body line (Some (Hit p)) h.0 (hit_read s line p h.1)
written_is_answered s line (Some (Slot p q)) h = in_this_part s part.Body line (Some (Slot p q)) h.0 (slot_read s line p q h.1)

pub spells_at_most_one : SpellsAtMostOne
spells_at_most_one s line spelled other h k = let same : Ok spelled ≡ Ok other = sym (written_is_answered s line spelled h) ∙ written_is_answered s line other k in cc
