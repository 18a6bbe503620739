-- The commands that a drill text spells have numbers in the ranges of their types.
use Rattle.ringcheck_files.proofs.Common.{◌≡◌, ℕ, ◌-◌, ◌≤◌, Bool, true, false, cond, ◌&&◌, eqb, leb, List, [], ◌∷◌, ◌++◌, length, drop, ℤ, Option, Some, None, unwrap_or, Result, Ok, Err, refl, sym, ap, subst, ◌∙◌, arith, append-nil, append_assoc, codes, option_and_then, take_while, count_by, list_all, list_any, prefix_len, AllByRecursion, option_map, option_or, option_to_list, leb-true, Reason, OldFormat, BadLine, BadNumber, ◌>>=◌, both, DrillCommand, spelled_after, SpellsText, last_set, Zeros, Leading, Trailing, is_digit, is_number_char, parse_decimal, parse_zero_filled, bind_ok, both_ok, Digits, AreDigitCounts, IsDec, IsOptionalDec, IsPoint, IsInRange, both_true, AreTyped, typed_none, typed_more}
use Rattle.grid_units.specs.declared.lengths.Unit.{Unit as Units}
use Rattle.grid_units.specs.declared.lengths.Unit.TheVariants.{Inch, Millimetre}
use Rattle.grid_units.specs.Rows.{RowOf, first_match_or, strip_prefix, literal_row}
use Rattle.drill_lines.specs.declared.command.Coordinates.{Coordinates}
use Rattle.drill_lines.specs.declared.command.Part.{Part}
use Rattle.drill_lines.specs.declared.command.Part.TheVariants as part
use Rattle.drill_lines.specs.declared.command.Settings.{Settings}
use Rattle.drill_lines.specs.declared.command.DrillCommand.TheVariants.{Comment, Start, UnitLine, Tool, HeaderEnd, UnitCode, Pick, Hit, Slot, Finish}
use Rattle.drill_lines.specs.Lines.{without_end_blanks}
use Rattle.drill_lines.specs.Header.{is_zero, is_digit_count, digit_counts, pattern_from, pattern, unit_format, unit_line, is_format_digit, parse_format, file_format}
use Rattle.drill_lines.specs.Tools.{is_point, is_diameter_letter, is_tool_letter, is_skipped_letter, are_fields, tool_number, diameter_of, diameter_run, tool_fields, tool_line, pick_fields, pick_line}
use Rattle.drill_lines.specs.HoleLines.{default_format, format_in, zeros_in, coordinate_of, coordinate, Runs, runs_of, has_run, coordinates, slot_line, hole_from, hole_line}
use Rattle.drill_lines.specs.Meaning.{one_command, lines_before, common_lines, common_rows, header_ends, header_rows, body_prefixes, body_rows, begins_comment, line_in, meaning}
use Rattle.drill_lines.proofs.Rows.{RowHas, first_match_has, just_has, beginning_has, prefix_has}
use Rattle.drill_text.specs.Lookback.{header, format_set, settings_after}
use Rattle.drill_text.specs.Lookback as lookback
use Rattle.drill_text.proofs.SplitsLemmas.{AllR-append}
use Rattle.ringcheck_files.proofs.Ranges.{dec_small, zeros_small}

-- the command, if it is one, has numbers in their ranges
Typed : Result DrillCommand Reason → Type 0
Typed (Ok c) = IsInRange c
Typed (Err r) = Unit {0}

AllTyped : Result (Option DrillCommand) Reason → Type 0
AllTyped (Ok (Some c)) = IsInRange c
AllTyped (Ok None) = Unit {0}
AllTyped (Err r) = Unit {0}

all_cond : (t : Bool) (a b : Result (Option DrillCommand) Reason) → AllTyped a → AllTyped b → AllTyped (cond t a b)
all_cond true a b h k = h
all_cond false a b h k = k

one_cond : (t : Bool) (a b : Result DrillCommand Reason) → Typed a → Typed b → Typed (cond t a b)
one_cond true a b h k = h
one_cond false a b h k = k

all_one : (r : Result DrillCommand Reason) → Typed r → AllTyped (one_command r)
unfolding Typed AllTyped
all_one (Ok c) h = h
all_one (Err r) h = tt

one_bind : {A : Type 0} (r : Result A Reason) (f : A → Result DrillCommand Reason) → ((x : A) → r ≡ Ok x → Typed (f x)) → Typed (r >>= f)
unfolding Typed
one_bind (Ok x) f h = h x refl
one_bind (Err e) f h = tt

-- ---- formats

abbrev AreFormat : Digits → Type 0
AreFormat f = AreDigitCounts f.whole f.decimals

size_range : (n : ℕ) → is_digit_count n ≡ true → (1 ≤ n) × (n ≤ 6)
size_range n h = let b = both_true (leb 1 n) (leb n 6) h in (leb-true 1 n b.0, leb-true n 6 b.1)

sizes_are : (w d : ℕ) (f : Digits) → digit_counts w d ≡ Ok f → AreFormat f
sizes_are w d f e = by (is_digit_count w && is_digit_count d) refl e
  where
    by : (t : Bool) → (is_digit_count w && is_digit_count d) ≡ t → cond t (Ok (record { whole = w; decimals = d })) (Err BadNumber) ≡ Ok f → AreFormat f
    by true h k =
        let same : (let g : Digits = record { whole = w; decimals = d } in g ≡ f) = cc in
        let b = both_true (is_digit_count w) (is_digit_count d) h in
        let x = size_range w b.0 in
        let y = size_range d b.1 in
        subst (λ (g : Digits). AreDigitCounts g.whole g.decimals) same (x.0, x.1, y.0, y.1)
    by false h k = absurd cc

pattern_are : (w : ℕ) (rest : List ℕ) (f : Digits) → pattern_from w rest ≡ Ok f → AreFormat f
pattern_are w [] f e = absurd cc
pattern_are w (b ∷ bs) f e = by (eqb b 46 && list_all is_zero bs) e
  where
    by : (t : Bool) → cond t (digit_counts w (length bs)) (Err BadNumber) ≡ Ok f → AreFormat f
    by true k = sizes_are w (length bs) f k
    by false k = absurd cc

pattern_format : (run : List ℕ) (f : Digits) → pattern run ≡ Ok f → AreFormat f
unfolding pattern
pattern_format run f e = pattern_are (prefix_len is_zero run) (drop (prefix_len is_zero run) run) f e

-- ---- lines of the header

format_typed : (unit : Units) (zeros : Option Zeros) (rest : List ℕ) → Typed (unit_format unit zeros rest)
unfolding unit_format Typed
format_typed unit zeros [] = tt
format_typed unit zeros (b ∷ bs) = one_cond (eqb b 44 && list_all is_number_char bs) (pattern bs >>= λ f. Ok (UnitLine unit zeros (Some f))) (Err BadLine) (one_bind (pattern bs) (λ f. Ok (UnitLine unit zeros (Some f))) (λ f e. pattern_format bs f e)) tt

unit_typed : (unit : Units) (line : List ℕ) → Typed (unit_line unit line)
unfolding unit_line Typed
unit_typed unit line =
    let leading : List ℕ → Result DrillCommand Reason = unit_format unit (Some Leading) in
    let trailing : List ℕ → Result DrillCommand Reason = unit_format unit (Some Trailing) in
    first_match_has Typed BadLine (option_map leading (strip_prefix (codes ",LZ") line) ∷ option_map trailing (strip_prefix (codes ",TZ") line) ∷ Some (unit_format unit None line) ∷ []) tt
    (prefix_has Typed (codes ",LZ") leading line (format_typed unit (Some Leading)), (prefix_has Typed (codes ",TZ") trailing line (format_typed unit (Some Trailing)), (format_typed unit None line, tt)))

diameter_small : (run : List ℕ) (v : ℤ) → diameter_of run ≡ Ok v → IsDec v
unfolding diameter_of
diameter_small run v e = by (list_any is_point run) e
  where
    by : (t : Bool) → cond t (parse_decimal run) (Err BadNumber) ≡ Ok v → IsDec v
    by true k = dec_small run v k
    by false k = absurd cc

tool_both : (a : Result ℕ Reason) (b : Result ℤ Reason) → ((v : ℤ) → b ≡ Ok v → IsDec v) → Typed (both a b >>= λ t. Ok (Tool t.0 t.1))
unfolding Typed
tool_both (Ok n) (Ok v) h = h v refl
tool_both (Ok n) (Err e) h = tt
tool_both (Err e) (Ok v) h = tt
tool_both (Err d) (Err e) h = tt

fields_typed : (digits fields : List ℕ) → Typed (tool_fields digits fields)
unfolding tool_fields Typed
fields_typed digits fields =
    one_cond (are_fields is_tool_letter fields && eqb (count_by is_diameter_letter fields) 1) (both (tool_number 1 digits) (diameter_of (diameter_run fields)) >>= λ t. Ok (Tool t.0 t.1)) (Err BadLine)
    (tool_both (tool_number 1 digits) (diameter_of (diameter_run fields)) (diameter_small (diameter_run fields))) tt

tool_typed : (line : List ℕ) → Typed (tool_line line)
unfolding tool_line
tool_typed line = fields_typed (take_while is_digit line) (drop (prefix_len is_digit line) line)

-- ---- lines of the body

picks_typed : (digits fields : List ℕ) → Typed (pick_fields digits fields)
unfolding pick_fields Typed
picks_typed digits fields = one_cond (are_fields is_skipped_letter fields) (tool_number 0 digits >>= λ n. Ok (Pick n)) (Err BadLine) (one_bind (tool_number 0 digits) (λ n. Ok (Pick n)) (λ n e. tt)) tt

pick_typed : (line : List ℕ) → Typed (pick_line line)
unfolding pick_line
pick_typed line = picks_typed (take_while is_digit line) (drop (prefix_len is_digit line) line)

-- a format that the header gives is one
abbrev HasFormat : Settings → Type 0
HasFormat s = (f : Digits) → s.format ≡ Some f → AreFormat f

default_are : (unit : Option Units) → AreFormat (default_format unit)
default_are None = (omega arith, omega arith, omega arith, omega arith)
default_are (Some Inch) = (omega arith, omega arith, omega arith, omega arith)
default_are (Some Millimetre) = (omega arith, omega arith, omega arith, omega arith)

format_in_are : (s : Settings) → HasFormat s → AreFormat (format_in s)
format_in_are s h = by s.format refl
  where
    by : (f : Option Digits) → s.format ≡ f → AreFormat (unwrap_or f (default_format s.unit))
    by (Some f) e = h f e
    by None e = default_are s.unit

coordinate_small : (s : Settings) (run : List ℕ) (v : ℤ) → HasFormat s → coordinate_of s run ≡ Ok v → IsDec v
unfolding coordinate_of
coordinate_small s run v h e = by (list_any is_point run) e
  where
    by : (t : Bool) → cond t (parse_decimal run) (parse_zero_filled run (format_in s).whole (format_in s).decimals (zeros_in s)) ≡ Ok v → IsDec v
    by true k = dec_small run v k
    by false k = zeros_small run (format_in s).whole (format_in s).decimals (zeros_in s) v (format_in_are s h) k

coordinate_typed : (s : Settings) (run : Option (List ℕ)) (v : Option ℤ) → HasFormat s → coordinate s run ≡ Ok v → IsOptionalDec v
unfolding coordinate
coordinate_typed s None v h e = let same : None ≡ v = cc in subst IsOptionalDec same tt
coordinate_typed s (Some run) v h e =
    let b = bind_ok (coordinate_of s run) (λ x. Ok (Some x)) v e in
    let same : Some b.0 ≡ v = let f = b.2 in cc in
    subst IsOptionalDec same (coordinate_small s run b.0 h b.1)

point_typed : (s : Settings) (runs : Runs) (p : Coordinates) → HasFormat s → coordinates s runs ≡ Ok p → IsPoint p
unfolding coordinates
point_typed s runs p h e =
    let b = bind_ok (both (coordinate s runs.x) (coordinate s runs.y)) (λ q. Ok (record { x = q.0; y = q.1 })) p e in
    let c = both_ok (coordinate s runs.x) (coordinate s runs.y) b.0 b.1 in
    let same : (let q : Coordinates = record { x = b.0.0; y = b.0.1 } in q ≡ p) = let f = b.2 in cc in
    subst IsPoint same (coordinate_typed s runs.x b.0.0 h c.0, coordinate_typed s runs.y b.0.1 h c.1)

slot_typed : (s : Settings) (from : Runs) (line : List ℕ) → HasFormat s → Typed (slot_line s from line)
unfolding slot_line Typed
slot_typed s from line h = one_cond (has_run (runs_of line).0 && eqb (length (runs_of line).1) 0) (both (coordinates s from) (coordinates s (runs_of line).0) >>= λ r. Ok (Slot r.0 r.1)) (Err BadLine) (one_bind (both (coordinates s from) (coordinates s (runs_of line).0)) (λ r. Ok (Slot r.0 r.1)) (λ r e.
    let c = both_ok (coordinates s from) (coordinates s (runs_of line).0) r e in
    (point_typed s from r.0 h c.0, point_typed s (runs_of line).0 r.1 h c.1))) tt

drilled_typed : (s : Settings) (from : Runs) (rest : List ℕ) → HasFormat s → Typed (hole_from s from rest)
unfolding hole_from Typed
drilled_typed s from rest h =
    let rows : List (RowOf DrillCommand) = option_map (slot_line s from) (strip_prefix (codes "G85") rest) ∷ [] in
    one_cond (eqb (length rest) 0) (coordinates s from >>= λ p. Ok (Hit p)) (first_match_or BadLine rows)
    (one_bind (coordinates s from) (λ p. Ok (Hit p)) (λ p e. point_typed s from p h e))
    (first_match_has Typed BadLine rows tt (prefix_has Typed (codes "G85") (slot_line s from) rest (λ line. slot_typed s from line h), tt))

drill_typed : (s : Settings) (line : List ℕ) → HasFormat s → Typed (hole_line s line)
unfolding hole_line
drill_typed s line h = drilled_typed s (runs_of line).0 (runs_of line).1 h

-- ---- all lines

read_typed : (word : List ℕ) (read : List ℕ → Result DrillCommand Reason) (line : List ℕ) → ((rest : List ℕ) → Typed (read rest)) → RowHas AllTyped (option_map (λ rest. one_command (read rest)) (strip_prefix word line))
read_typed word read line h = prefix_has AllTyped word (λ rest. one_command (read rest)) line (λ rest. all_one (read rest) (h rest))

common_typed : (line : List ℕ) → AllByRecursion (RowHas AllTyped) (common_rows line)
unfolding AllTyped common_lines
common_typed line =
    (just_has AllTyped common_lines line (tt, (tt, (tt, (tt, (tt, (tt, (tt, (tt, (tt, (tt, tt)))))))))), (beginning_has AllTyped ((codes "G93", Err OldFormat) ∷ []) line (tt, tt), tt))

header_typed : (line : List ℕ) → AllTyped (first_match_or BadLine (header_rows line))
unfolding AllTyped header_ends
header_typed line =
    first_match_has AllTyped BadLine (header_rows line) tt
    (just_has AllTyped header_ends line (tt, (tt, tt)), (read_typed (codes "INCH") (unit_line Inch) line (unit_typed Inch), (read_typed (codes "METRIC") (unit_line Millimetre) line (unit_typed Millimetre), (read_typed (codes "T") tool_line line tool_typed, common_typed line))))

body_typed : (s : Settings) (line : List ℕ) → HasFormat s → AllTyped (first_match_or BadLine (body_rows s line))
unfolding AllTyped body_prefixes
body_typed s line h =
    let drilled : AllTyped (one_command (hole_line s line)) = all_one (hole_line s line) (drill_typed s line h) in
    first_match_has AllTyped BadLine (body_rows s line) tt (
      beginning_has AllTyped ((codes "X", one_command (hole_line s line)) ∷ (codes "Y", one_command (hole_line s line)) ∷ []) line (drilled, (drilled, tt)),
      (
        read_typed (codes "T") pick_line line pick_typed,
        (
          just_has AllTyped ((codes "M30", Ok (Some Finish)) ∷ []) line (tt, tt),
          (beginning_has AllTyped body_prefixes line (tt, (tt, (tt, (tt, (tt, (tt, (tt, (tt, (tt, (tt, (tt, tt))))))))))), common_typed line),
        ),
      ),
    )

part_typed : (p : Part) (s : Settings) (line : List ℕ) → HasFormat s → AllTyped (line_in p s line)
unfolding line_in AllTyped lines_before
part_typed part.Before s line h = first_match_has AllTyped OldFormat (literal_row lines_before line ∷ []) tt (just_has AllTyped lines_before line (tt, (tt, tt)), tt)
part_typed part.Header s line h = header_typed line
part_typed part.Body s line h = body_typed s line h
part_typed part.After s line h = tt

line_typed : (s : Settings) (line : List ℕ) → HasFormat s → AllTyped (meaning s line)
unfolding meaning AllTyped
line_typed s [] h = tt
line_typed s (b ∷ bs) h = all_cond (begins_comment s.part b) (Ok (Some (Comment bs))) (line_in s.part s (b ∷ bs)) tt (part_typed s.part s (b ∷ bs) h)

typed_is : (r : Result (Option DrillCommand) Reason) (c : DrillCommand) → AllTyped r → r ≡ Ok (Some c) → IsInRange c
unfolding AllTyped
typed_is (Ok (Some d)) c h e = let same : d ≡ c = cc in subst IsInRange same h
typed_is (Ok None) c h e = absurd cc
typed_is (Err r) c h e = absurd cc

-- ---- the format that a header gives

size_digit : (b : ℕ) → is_format_digit b ≡ true → (1 ≤ b - 48) × (b - 48 ≤ 6)
size_digit b h = let k = both_true (leb 49 b) (leb b 54) h in (omega (arith, leb-true 49 b k.0), omega (arith, leb-true b 54 k.1))

named_are : (text : List ℕ) (f : Digits) → parse_format text ≡ Some f → AreFormat f
named_are [] f e = absurd cc
named_are (i ∷ []) f e = absurd cc
named_are (i ∷ colon ∷ []) f e = absurd cc
named_are (i ∷ colon ∷ d ∷ x ∷ xs) f e = absurd cc
named_are (i ∷ colon ∷ d ∷ []) f e = by (is_format_digit i && (eqb colon 58 && is_format_digit d)) refl e
  where
    by : (t : Bool) → (is_format_digit i && (eqb colon 58 && is_format_digit d)) ≡ t → cond t (Some (record { whole = i - 48; decimals = d - 48 })) None ≡ Some f → AreFormat f
    by true h k =
        let same : (let g : Digits = record { whole = i - 48; decimals = d - 48 } in g ≡ f) = cc in
        let a = both_true (is_format_digit i) (eqb colon 58 && is_format_digit d) h in
        let b = both_true (eqb colon 58) (is_format_digit d) a.1 in
        let x = size_digit i a.0 in
        let y = size_digit d b.1 in
        subst (λ (g : Digits). AreDigitCounts g.whole g.decimals) same (x.0, x.1, y.0, y.1)
    by false h k = absurd cc

comment_are : (text : List ℕ) (f : Digits) → file_format text ≡ Some f → AreFormat f
unfolding file_format
comment_are text f e = by (strip_prefix (codes "FILE_FORMAT=") text) e
  where
    by : (rest : Option (List ℕ)) → option_and_then parse_format rest ≡ Some f → AreFormat f
    by (Some rest) k = named_are rest f k
    by None k = absurd cc

given_are : (c : DrillCommand) (f : Digits) → IsInRange c → format_set c ≡ Some f → AreFormat f
given_are (Comment text) f h e = comment_are text f e
given_are (UnitLine u z (Some g)) f h e = let same : g ≡ f = cc in subst (λ (k : Digits). AreDigitCounts k.whole k.decimals) same h
given_are (UnitLine u z None) f h e = absurd cc
given_are Start f h e = absurd cc
given_are (Tool n d) f h e = absurd cc
given_are HeaderEnd f h e = absurd cc
given_are (UnitCode u) f h e = absurd cc
given_are (Pick n) f h e = absurd cc
given_are (Hit p) f h e = absurd cc
given_are (Slot p q) f h e = absurd cc
given_are Finish f h e = absurd cc

last_are : (cs : List DrillCommand) (f : Digits) → AllByRecursion IsInRange cs → last_set format_set cs ≡ Some f → AreFormat f
last_are [] f h e = absurd cc
last_are (c ∷ cs) f h e = by (last_set format_set cs) refl (last_are cs f h.1) e
  where
    by : (r : Option Digits) → last_set format_set cs ≡ r → (last_set format_set cs ≡ Some f → AreFormat f) → option_or r (format_set c) ≡ Some f → AreFormat f
    by (Some g) k rest l = rest (k ∙ l)
    by None k rest l = given_are c f h.0 l

header_are : (cs : List DrillCommand) → AllByRecursion IsInRange cs → AllByRecursion IsInRange (header cs)
header_are [] h = tt
header_are (c ∷ cs) h = by (lookback.ends_header c) (header_are cs h.1)
  where
    by : (t : Bool) → AllByRecursion IsInRange (header cs) → AllByRecursion IsInRange (cond t [] (c ∷ header cs))
    by true rest = tt
    by false rest = (h.0, rest)

has_format : (before : List DrillCommand) → AllByRecursion IsInRange before → HasFormat (settings_after before)
has_format before h f e = last_are (header before) f (header_are before h) e

-- ---- the whole text

next_typed : (before : List DrillCommand) (command : Option DrillCommand) → AllByRecursion IsInRange before → ((c : DrillCommand) → command ≡ Some c → IsInRange c) → AllByRecursion IsInRange (before ++ option_to_list command)
next_typed before None h k = subst (AllByRecursion IsInRange) (sym (append-nil before)) h
next_typed before (Some c) h k = AllR-append IsInRange before (c ∷ []) h (k c refl, tt)

spelled_typed : (before new : List DrillCommand) (lines : List (List ℕ)) → AllByRecursion IsInRange before → spelled_after before lines ≡ Ok new → AllByRecursion IsInRange new
spelled_typed before new [] h e = let same : before ≡ new = cc in subst (AllByRecursion IsInRange) same h
spelled_typed before new (line ∷ lines) h e =
    let b = bind_ok (meaning (settings_after before) (without_end_blanks line)) (λ command. spelled_after (before ++ option_to_list command) lines) new e in
    spelled_typed (before ++ option_to_list b.0) new lines
    (next_typed before b.0 h (λ c k. typed_is (meaning (settings_after before) (without_end_blanks line)) c (line_typed (settings_after before) (without_end_blanks line) (has_format before h)) (b.1 ∙ ap (λ (o : Option DrillCommand). Ok o) k))) b.2

typed_after : (before cs : List DrillCommand) → AreTyped before → AllByRecursion IsInRange cs → AreTyped (before ++ cs)
typed_after before [] h k = subst AreTyped (sym (append-nil before)) h
typed_after before (c ∷ cs) h k = subst AreTyped (append_assoc before (c ∷ []) cs) (typed_after (before ++ c ∷ []) cs (typed_more before c h k.0) k.1)

-- the commands that a text spells have numbers in their ranges
pub text_typed : (text : List ℕ) (cs : List DrillCommand) → SpellsText text cs → AreTyped cs
text_typed text cs s = typed_after [] cs typed_none (spelled_typed [] cs (s.lines ++ s.rest ∷ []) tt s.spelling)
