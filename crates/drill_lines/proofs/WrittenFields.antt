-- The lines of units, tools and points are written for the commands that they are read as.
use Rattle.drill_lines.proofs.Common.{◌≡◌, ℕ, ◌≤◌, Bool, true, false, cond, ◌||◌, ◌&&◌, eqb, leb, List, [], ◌∷◌, ◌++◌, length, drop, ℤ, Option, Some, None, is_some, Result, Ok, IfOk, refl, sym, ap, subst, ◌∙◌, arith, append_assoc, replicate, codes, take_while, count_by, list_all, list_any, prefix_len, before_first, after_first, option_map, leb-true, eqb-true, append-nil, list_all-append, Reason, BadLine, BadNumber, Zeros, Leading, Trailing, ◌>>=◌, both, RowOf, first_match_or, strip_prefix, is_digit, is_digits, is_number_char, value, parse_decimal, and_true, both_true, Coordinates, Settings, DrillCommand, UnitLine, Tool, Pick, Hit, Slot, Digits, AreDigitCounts, is_zero, is_digit_count, digit_counts, pattern_from, is_point, is_diameter_letter, is_tool_letter, is_skipped_letter, begins_with, are_fields, field, Runs, runs_of, has_run, unit_words, zeros_words, IsNumber, IsCoordinate, IsPointText, IsLine, has_coordinate}
use Rattle.std.specs.List.{Contains}
use Rattle.std.proofs.lemmas.List.Folds.{length-prefix_len}
use Rattle.grid_units.specs.declared.lengths.Unit.{Unit as Units}
use Rattle.grid_units.proofs.ResultLemmas.{bind_ok, both_ok}
use Rattle.drill_lines.specs.declared.command.Part.TheVariants as part
use Rattle.drill_lines.specs.Header.{pattern, unit_format, unit_line}
use Rattle.drill_lines.specs.Tools.{tool_number, diameter_of, tool_fields, tool_line, pick_fields, pick_line}
use Rattle.drill_lines.specs.HoleLines.{coordinate_of, coordinate, coordinates, point_line, slot_line, hole_from, hole_line}
use Rattle.drill_lines.proofs.CutLemmas.{nested, run_and_rest, run_passes, rest_fails, before_more, after_more, before_here, after_here, passed}
use Rattle.drill_lines.proofs.SkippedFields.{is_field_byte, is_skipped_byte, skipped_written, rest_written, count_more}
use Rattle.drill_lines.proofs.Rows.{RowHas, first_match_has, stripped_has, either_has, ok_if, ok_bind}

-- the line is written for the command that is read, if one is
abbrev pub SpellsOne : Settings → List ℕ → Result DrillCommand Reason → Type 0
SpellsOne s line r = IfOk r (λ c. IsLine s line (Some c))

-- ---- unit lines

zeros_are : (xs : List ℕ) → list_all is_zero xs ≡ true → xs ≡ replicate (length xs) 48
zeros_are [] h = refl
zeros_are (x ∷ xs) h = let b = both_true (is_zero x) (list_all is_zero xs) h in λ i. eqb-true x 48 b.0 i ∷ zeros_are xs b.1 i

counts_are : (i d : ℕ) (f : Digits) → digit_counts i d ≡ Ok f → AreDigitCounts i d × ((let g : Digits = record { whole = i; decimals = d } in g) ≡ f)
counts_are i d f h =
    let t = passed (is_digit_count i && is_digit_count d) (Ok (record { whole = i; decimals = d })) BadNumber f h in
    let b = both_true (is_digit_count i) (is_digit_count d) t.0 in
    let m = both_true (leb 1 i) (leb i 6) b.0 in
    let n = both_true (leb 1 d) (leb d 6) b.1 in
    ((leb-true 1 i m.0, leb-true i 6 m.1, leb-true 1 d n.0, leb-true d 6 n.1), cc)

pattern_from_is : (n : ℕ) (rest : List ℕ) (f : Digits) → pattern_from n rest ≡ Ok f → AreDigitCounts f.whole f.decimals × (replicate n 48 ++ rest ≡ replicate f.whole 48 ++ 46 ∷ replicate f.decimals 48)
pattern_from_is n [] f h = absurd cc
pattern_from_is n (b ∷ bs) f h =
    let t = passed (eqb b 46 && list_all is_zero bs) (digit_counts n (length bs)) BadNumber f h in
    let p = both_true (eqb b 46) (list_all is_zero bs) t.0 in
    let c = counts_are n (length bs) f t.1 in
    subst (λ (g : Digits). AreDigitCounts g.whole g.decimals × (replicate n 48 ++ b ∷ bs ≡ replicate g.whole 48 ++ 46 ∷ replicate g.decimals 48)) c.1 (c.0, λ i. replicate n 48 ++ eqb-true b 46 p.0 i ∷ zeros_are bs p.1 i)

pattern_is : (xs : List ℕ) (f : Digits) → pattern xs ≡ Ok f → AreDigitCounts f.whole f.decimals × (xs ≡ replicate f.whole 48 ++ 46 ∷ replicate f.decimals 48)
unfolding pattern
pattern_is xs f h =
    let n = prefix_len is_zero xs in
    let zeros : take_while is_zero xs ≡ replicate n 48 = zeros_are (take_while is_zero xs) (run_passes is_zero xs) ∙ ap (λ k. replicate k 48) (length-prefix_len is_zero xs) in
    let p = pattern_from_is n (drop n xs) f h in
    (p.0, sym (run_and_rest is_zero xs) ∙ (ap (λ (z : List ℕ). z ++ drop n xs) zeros ∙ p.1))

format_spelled : (s : Settings) (line word named : List ℕ) (unit : Units) (kept : Option Zeros) (rest : List ℕ) → s.part ≡ part.Header → Contains unit_words (word, unit) → Contains zeros_words (named, kept) → line ≡ word ++ named ++ rest → SpellsOne s line (unit_format unit kept rest)
unfolding unit_format
format_spelled s line word named unit kept [] e m z l = (e, (word, named, l, m, z, tt))
format_spelled s line word named unit kept (b ∷ bs) e m z l =
    ok_if (λ c. IsLine s line (Some c)) (eqb b 44 && list_all is_number_char bs) (pattern bs >>= λ p. Ok (UnitLine unit kept (Some p))) BadLine (λ t.
    ok_bind (λ c. IsLine s line (Some c)) (pattern bs) (λ p. Ok (UnitLine unit kept (Some p))) (λ f h.
    let p = pattern_is bs f h in
    let comma : b ≡ 44 = eqb-true b 44 (both_true (eqb b 44) (list_all is_number_char bs) t).0 in
    (e, (word, named, l ∙ (λ i. word ++ named ++ comma i ∷ p.1 i), m, z, p.0))))

pub unit_spelled : (s : Settings) (line word : List ℕ) (unit : Units) (rest : List ℕ) → s.part ≡ part.Header → Contains unit_words (word, unit) → line ≡ word ++ rest → SpellsOne s line (unit_line unit rest)
unfolding unit_line
unit_spelled s line word unit rest e m l =
    let with_zeros : (named : List ℕ) (kept : Option Zeros) → Contains zeros_words (named, kept) → RowHas (SpellsOne s line) (option_map (unit_format unit kept) (strip_prefix named rest)) =
    λ named kept z. stripped_has (SpellsOne s line) named (unit_format unit kept) rest (λ more k. format_spelled s line word named unit kept more e m z (l ∙ ap (λ (r : List ℕ). word ++ r) k ∙ sym (append_assoc word named more))) in
    first_match_has (SpellsOne s line) BadLine (option_map (unit_format unit (Some Leading)) (strip_prefix (codes ",LZ") rest) ∷ option_map (unit_format unit (Some Trailing)) (strip_prefix (codes ",TZ") rest) ∷ Some (unit_format unit None rest) ∷ []) tt (
      with_zeros (codes ",LZ") (Some Leading) (1, omega arith, refl),
      (with_zeros (codes ",TZ") (Some Trailing) (2, omega arith, refl), (format_spelled s line word [] unit None rest e m (0, omega arith, refl) (l ∙ sym (append_assoc word [] rest)), tt)),
    )

-- ---- tools

number_is : (least n : ℕ) (digits : List ℕ) → tool_number least digits ≡ Ok n → IsNumber digits n × (least ≤ n)
unfolding tool_number
number_is least n digits h =
    let v = value digits in
    let t = passed (is_digits digits && (leb least v && leb v 999)) (Ok v) BadNumber n h in
    let same : v ≡ n = let k : Ok v ≡ Ok n = t.1 in cc in
    let b = both_true (is_digits digits) (leb least v && leb v 999) t.0 in
    let c = both_true (leb least v) (leb v 999) b.1 in
    ((b.0, sym same, subst (λ k. k ≤ 999) same (leb-true v 999 c.1)), subst (λ k. least ≤ k) same (leb-true least v c.0))

pub pick_spelled : (s : Settings) (line rest : List ℕ) → s.part ≡ part.Body → line ≡ codes "T" ++ rest → SpellsOne s line (pick_line rest)
unfolding pick_line pick_fields
pick_spelled s line rest e l =
    let digits = take_while is_digit rest in
    let fields = drop (prefix_len is_digit rest) rest in
    ok_if (λ c. IsLine s line (Some c)) (are_fields is_skipped_letter fields) (tool_number 0 digits >>= λ n. Ok (Pick n)) BadLine (λ t.
    ok_bind (λ c. IsLine s line (Some c)) (tool_number 0 digits) (λ n. Ok (Pick n)) (λ n h.
    let b = both_true (begins_with is_skipped_letter fields) (list_all is_skipped_byte fields) t in
    (e, (digits, fields, l ∙ ap (λ (r : List ℕ). 84 ∷ r) (sym (run_and_rest is_digit rest)), (number_is 0 n digits h).0, skipped_written fields b.0 b.1))))

skipped_byte : (c s n : Bool) → c ≡ false → ((c || s) || n) ≡ true → (s || n) ≡ true
skipped_byte true s n e h = absurd cc
skipped_byte false s n e h = h

-- fields without a `C` hold letters that are not read alone
no_diameter : (xs : List ℕ) → list_all is_field_byte xs ≡ true → count_by is_diameter_letter xs ≡ 0 → list_all is_skipped_byte xs ≡ true
no_diameter [] h k = refl
no_diameter (x ∷ xs) h k = by (is_diameter_letter x) refl (λ m. no_diameter xs (both_true (is_field_byte x) (list_all is_field_byte xs) h).1 m)
  where
    by : (t : Bool) → is_diameter_letter x ≡ t → (count_by is_diameter_letter xs ≡ 0 → list_all is_skipped_byte xs ≡ true) → list_all is_skipped_byte (x ∷ xs) ≡ true
    by true e rest = absurd (omega (arith, k, count_more x xs true e))
    by false e rest =
        and_true (is_skipped_byte x) (list_all is_skipped_byte xs)
        (skipped_byte (is_diameter_letter x) (is_skipped_letter x) (is_number_char x) e (both_true (is_field_byte x) (list_all is_field_byte xs) h).0)
        (rest (omega (arith, k, count_more x xs false e)))

-- fields with one `C`, cut at it
record IsCutAtDiameter (fields : List ℕ) : Type 0 where
  whole : fields ≡ before_first is_diameter_letter fields ++ 67 ∷ after_first is_diameter_letter fields
  before : list_all is_skipped_byte (before_first is_diameter_letter fields) ≡ true
  after : list_all is_skipped_byte (after_first is_diameter_letter fields) ≡ true

one_diameter : (xs : List ℕ) → list_all is_field_byte xs ≡ true → count_by is_diameter_letter xs ≡ 1 → IsCutAtDiameter xs
one_diameter [] h k = absurd (omega (arith, k))
one_diameter (x ∷ xs) h k = by (is_diameter_letter x) refl (λ m. one_diameter xs (both_true (is_field_byte x) (list_all is_field_byte xs) h).1 m)
  where
    by : (t : Bool) → is_diameter_letter x ≡ t → (count_by is_diameter_letter xs ≡ 1 → IsCutAtDiameter xs) → IsCutAtDiameter (x ∷ xs)
    by true e rest =
        let here = before_here is_diameter_letter x xs e in
        let next = after_here is_diameter_letter x xs e in
        record {
          whole = λ i. sym here i ++ eqb-true x 67 e i ∷ sym next i;
          before = ap (list_all is_skipped_byte) here;
          after = ap (list_all is_skipped_byte) next ∙ no_diameter xs (both_true (is_field_byte x) (list_all is_field_byte xs) h).1 (omega (arith, k, count_more x xs true e));
        }
    by false e rest =
        let r = rest (omega (arith, k, count_more x xs false e)) in
        let here = before_more is_diameter_letter x xs e in
        let next = after_more is_diameter_letter x xs e in
        record {
          whole = ap (λ (l : List ℕ). x ∷ l) r.whole ∙ (λ i. sym here i ++ 67 ∷ sym next i);
          before =
              ap (list_all is_skipped_byte) here
              ∙ and_true (is_skipped_byte x) (list_all is_skipped_byte (before_first is_diameter_letter xs))
              (skipped_byte (is_diameter_letter x) (is_skipped_letter x) (is_number_char x) e (both_true (is_field_byte x) (list_all is_field_byte xs) h).0) r.before;
          after = ap (list_all is_skipped_byte) next ∙ r.after;
        }

-- what stands before the `C` begins as the fields do
before_begins : (xs : List ℕ) → begins_with is_tool_letter xs ≡ true → begins_with is_skipped_letter (before_first is_diameter_letter xs) ≡ true
before_begins [] h = refl
before_begins (x ∷ xs) h = by (is_diameter_letter x) refl
  where
    by : (t : Bool) → is_diameter_letter x ≡ t → begins_with is_skipped_letter (before_first is_diameter_letter (x ∷ xs)) ≡ true
    by true e = ap (begins_with is_skipped_letter) (before_here is_diameter_letter x xs e)
    by false e = ap (begins_with is_skipped_letter) (before_more is_diameter_letter x xs e) ∙ (ap (λ t. t || is_skipped_letter x) (sym e) ∙ h)

pub tool_spelled : (s : Settings) (line rest : List ℕ) → s.part ≡ part.Header → line ≡ codes "T" ++ rest → SpellsOne s line (tool_line rest)
unfolding tool_line tool_fields diameter_of
tool_spelled s line rest e l =
    let digits = take_while is_digit rest in
    let fields = drop (prefix_len is_digit rest) rest in
    let before = before_first is_diameter_letter fields in
    let after = after_first is_diameter_letter fields in
    let run = take_while is_number_char after in
    let more = drop (prefix_len is_number_char after) after in
    ok_if (λ c. IsLine s line (Some c)) (are_fields is_tool_letter fields && eqb (count_by is_diameter_letter fields) 1) (both (tool_number 1 digits) (diameter_of run) >>= λ t. Ok (Tool t.0 t.1)) BadLine (λ t.
    ok_bind (λ c. IsLine s line (Some c)) (both (tool_number 1 digits) (diameter_of run)) (λ t. Ok (Tool t.0 t.1)) (λ x h.
    let a = both_true (are_fields is_tool_letter fields) (eqb (count_by is_diameter_letter fields) 1) t in
    let b = both_true (begins_with is_tool_letter fields) (list_all is_field_byte fields) a.0 in
    let cut = one_diameter fields b.1 (eqb-true (count_by is_diameter_letter fields) 1 a.1) in
    let c = both_ok (tool_number 1 digits) (diameter_of run) x h in
    let n = number_is 1 x.0 digits c.0 in
    let d = passed (list_any is_point run) (parse_decimal run) BadNumber x.1 c.1 in
    let rest_skipped : list_all is_skipped_byte more ≡ true = (both_true (list_all is_skipped_byte run) (list_all is_skipped_byte more) (sym (list_all-append is_skipped_byte run more) ∙ (ap (list_all is_skipped_byte) (run_and_rest is_number_char after) ∙ cut.after))).1 in
    let whole : line ≡ 84 ∷ (digits ++ (before ++ (67 ∷ (run ++ more)))) =
    l ∙ (λ i. 84 ∷ sym (run_and_rest is_digit rest) i) ∙ (λ i. 84 ∷ (digits ++ cut.whole i)) ∙ (λ i. 84 ∷ (digits ++ (before ++ (67 ∷ sym (run_and_rest is_number_char after) i)))) in (
      e,
      (
        digits,
        before,
        run,
        more,
        whole ∙ sym (nested (codes "T") digits before (codes "C") run more),
        n.0,
        n.1,
        skipped_written before (before_begins fields b.0) cut.before,
        rest_written more (rest_fails is_number_char after) rest_skipped,
        d.0,
        d.1,
      ),
    )))

-- ---- points

coordinate_left_out : (s : Settings) (letter : ℕ) (v : Option ℤ) → coordinate s None ≡ Ok v → IsCoordinate s (letter ∷ []) [] v
unfolding coordinate
coordinate_left_out s letter None h = refl
coordinate_left_out s letter (Some v) h = absurd cc

coordinate_named : (s : Settings) (letter b : ℕ) (run : List ℕ) (v : Option ℤ) → b ≡ letter → coordinate s (Some run) ≡ Ok v → IsCoordinate s (letter ∷ []) (b ∷ run) v
unfolding coordinate
coordinate_named s letter b run None e h = let k = bind_ok (coordinate_of s run) (λ x. Ok (Some x)) None h in absurd (let m : Ok (Some k.0) ≡ Ok None = k.2 in cc)
coordinate_named s letter b run (Some v) e h =
    let k = bind_ok (coordinate_of s run) (λ x. Ok (Some x)) (Some v) h in
    let same : k.0 ≡ v = let m : Ok (Some k.0) ≡ Ok (Some v) = k.2 in cc in
    (run, ap (λ c. c ∷ run) e, k.1 ∙ ap (λ x. Ok x) same)

-- a field cut off: its text, and what follows it
record IsCutField (s : Settings) (letter : ℕ) (line : List ℕ) (cut : Option (List ℕ) × List ℕ) : Type 0 where
  text : List ℕ
  whole : line ≡ text ++ cut.1
  spells : (v : Option ℤ) → coordinate s cut.0 ≡ Ok v → IsCoordinate s (letter ∷ []) text v

cut_field : (s : Settings) (letter : ℕ) (line : List ℕ) → IsCutField s letter line (field letter line)
cut_field s letter [] = record { text = []; whole = refl; spells = coordinate_left_out s letter }
cut_field s letter (b ∷ bs) = by (eqb b letter) refl
  where
    by : (t : Bool) → eqb b letter ≡ t → IsCutField s letter (b ∷ bs) (cond t (Some (take_while is_number_char bs), drop (prefix_len is_number_char bs) bs) (None, b ∷ bs))
    by true e = record {
      text = b ∷ take_while is_number_char bs;
      whole = ap (λ (l : List ℕ). b ∷ l) (sym (run_and_rest is_number_char bs));
      spells = λ v h. coordinate_named s letter b (take_while is_number_char bs) v (eqb-true b letter e) h;
    }
    by false e = record { text = []; whole = refl; spells = coordinate_left_out s letter }

coordinates_are : (s : Settings) (runs : Runs) (p : Coordinates) → coordinates s runs ≡ Ok p → (coordinate s runs.x ≡ Ok p.x) × (coordinate s runs.y ≡ Ok p.y)
unfolding coordinates
coordinates_are s runs p e =
    let b = bind_ok (both (coordinate s runs.x) (coordinate s runs.y)) (λ q. Ok (record { x = q.0; y = q.1 })) p e in
    let c = both_ok (coordinate s runs.x) (coordinate s runs.y) b.0 b.1 in
    let same : (let q : Coordinates = record { x = b.0.0; y = b.0.1 } in q ≡ p) = cc in
    (c.0 ∙ ap (λ (q : Coordinates). Ok q.x) same, c.1 ∙ ap (λ (q : Coordinates). Ok q.y) same)

named_alike : (s : Settings) (run : Option (List ℕ)) (v : Option ℤ) → coordinate s run ≡ Ok v → is_some v ≡ is_some run
unfolding coordinate
named_alike s None v e = let same : None ≡ v = cc in ap is_some (sym same)
named_alike s (Some run) v e = let b = bind_ok (coordinate_of s run) (λ x. Ok (Some x)) v e in let same : Some b.0 ≡ v = cc in ap is_some (sym same)

point_named : (s : Settings) (runs : Runs) (p : Coordinates) → coordinates s runs ≡ Ok p → has_coordinate p ≡ has_run runs
point_named s runs p e = let c = coordinates_are s runs p e in λ i. named_alike s runs.x p.x c.0 i || named_alike s runs.y p.y c.1 i

-- a point cut off a line: its text, and what follows it
record IsCutPoint (s : Settings) (line : List ℕ) (p : Coordinates) : Type 0 where
  text : List ℕ
  whole : line ≡ text ++ (runs_of line).1
  spells : IsPointText s text p

cut_point : (s : Settings) (line : List ℕ) (p : Coordinates) → has_run (runs_of line).0 ≡ true → coordinates s (runs_of line).0 ≡ Ok p → IsCutPoint s line p
cut_point s line p h e =
    let x = cut_field s 88 line in
    let y = cut_field s 89 (field 88 line).1 in
    let c = coordinates_are s (runs_of line).0 p e in
    record {
      text = x.text ++ y.text;
      whole = x.whole ∙ ap (λ (l : List ℕ). x.text ++ l) y.whole ∙ sym (append_assoc x.text y.text (runs_of line).1);
      spells = (x.text, y.text, refl, x.spells p.x c.0, y.spells p.y c.1, point_named s (runs_of line).0 p e ∙ h);
    }

empty_is : (xs : List ℕ) → eqb (length xs) 0 ≡ true → xs ≡ []
empty_is [] h = refl
empty_is (x ∷ xs) h = absurd (omega (arith, eqb-true (length (x ∷ xs)) 0 h))

-- a point that is the whole line
whole_point : (s : Settings) (line : List ℕ) (p : Coordinates) → eqb (length (runs_of line).1) 0 ≡ true → has_run (runs_of line).0 ≡ true → coordinates s (runs_of line).0 ≡ Ok p → IsPointText s line p
whole_point s line p none h e =
    let c = cut_point s line p h e in
    subst (λ (l : List ℕ). IsPointText s l p) (sym (c.whole ∙ ap (λ (l : List ℕ). c.text ++ l) (empty_is (runs_of line).1 none) ∙ append-nil c.text)) c.spells

-- a point that is read is so written
pub point_written : (s : Settings) (line : List ℕ) (p : Coordinates) → point_line s line ≡ Some (Ok p) → IsPointText s line p
unfolding point_line
point_written s line p h = by (has_run (runs_of line).0 && eqb (length (runs_of line).1) 0) refl h
  where
    by : (t : Bool) → (has_run (runs_of line).0 && eqb (length (runs_of line).1) 0) ≡ t → cond t (Some (coordinates s (runs_of line).0)) None ≡ Some (Ok p) → IsPointText s line p
    by true e k = let b = both_true (has_run (runs_of line).0) (eqb (length (runs_of line).1) 0) e in let read : coordinates s (runs_of line).0 ≡ Ok p = cc in whole_point s line p b.1 b.0 read
    by false e k = absurd cc

slot_spelled : (s : Settings) (line rest : List ℕ) → s.part ≡ part.Body → has_run (runs_of line).0 ≡ true → (runs_of line).1 ≡ codes "G85" ++ rest → SpellsOne s line (slot_line s (runs_of line).0 rest)
unfolding slot_line
slot_spelled s line rest e h g =
    let from = (runs_of line).0 in
    let to = (runs_of rest).0 in
    ok_if (λ c. IsLine s line (Some c)) (has_run to && eqb (length (runs_of rest).1) 0) (both (coordinates s from) (coordinates s to) >>= λ r. Ok (Slot r.0 r.1)) BadLine (λ t.
    ok_bind (λ c. IsLine s line (Some c)) (both (coordinates s from) (coordinates s to)) (λ r. Ok (Slot r.0 r.1)) (λ r k.
    let c = both_ok (coordinates s from) (coordinates s to) r k in
    let n = both_true (has_run to) (eqb (length (runs_of rest).1) 0) t in
    let a = cut_point s line r.0 h c.0 in
    (e, (a.text, rest, a.whole ∙ ap (λ (l : List ℕ). a.text ++ l) g ∙ sym (append_assoc a.text (codes "G85") rest), a.spells, whole_point s rest r.1 n.1 n.0 c.1))))

pub hole_spelled : (s : Settings) (line : List ℕ) → s.part ≡ part.Body → has_run (runs_of line).0 ≡ true → SpellsOne s line (hole_line s line)
unfolding hole_line hole_from
hole_spelled s line e h =
    let from = (runs_of line).0 in
    let rest = (runs_of line).1 in
    let rows : List (RowOf DrillCommand) = option_map (slot_line s from) (strip_prefix (codes "G85") rest) ∷ [] in
    either_has (SpellsOne s line) (eqb (length rest) 0) (coordinates s from >>= λ p. Ok (Hit p)) (first_match_or BadLine rows)
    (λ t. ok_bind (λ c. IsLine s line (Some c)) (coordinates s from) (λ p. Ok (Hit p)) (λ p k. (e, whole_point s line p t h k)))
    (λ _. first_match_has (SpellsOne s line) BadLine rows tt (stripped_has (SpellsOne s line) (codes "G85") (slot_line s from) rest (λ more g. slot_spelled s line more e h g), tt))
