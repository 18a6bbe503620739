-- A drill text has a fault of one of its own reasons.
use Rattle.drill_text.proofs.Common.{◌≡◌, ◌⊎◌, inl, inr, ℕ, ℤ, Bool, true, false, cond, ◌&&◌, eqb, leb, ltb, List, [], ◌∷◌, ◌++◌, length, drop, Option, None, Some, Result, Ok, Err, refl, ap, subst, ◌∙◌, codes, list_all, list_any, find, prefix_len, AllByRecursion, option_map, Fault, Reason, Inch, Millimetre, ◌>>=◌, both, is_digits, is_number_char, without_sign, is_decimal, fits_eight_decimals, fraction, whole, value, value_without_point, signed_value, to_units, parse_decimal, zeros_to_fill, zero_filled, parse_zero_filled, Part, Settings, DrillCommand, Comment, UnitLine, Finish, Tool, Pick, Hit, Slot, without_end_blanks, format_in, zeros_in, coordinate_of, coordinate, Runs, runs_of, coordinates, slot_line, hole_from, hole_line, one_command, lines_before, common_lines, common_rows, header_ends, header_rows, body_prefixes, body_rows, line_in, begins_comment, meaning, settings_after, state_after, path_at, holes_of, applies, first_broken, broken_rule, Reads}
use Rattle.grid_units.specs.declared.fault.Reason.TheVariants as reason
use Rattle.grid_units.specs.declared.lengths.Unit.{Unit as Units}
use Rattle.grid_units.specs.declared.zero_filling.Zeros.{Zeros}
use Rattle.grid_units.specs.declared.zero_filling.Zeros.TheVariants.{Leading, Trailing, Full}
use Rattle.grid_units.specs.Reasons.{reason_number}
use Rattle.grid_units.specs.Rows.{first_match_or, strip_prefix, literal_row}
use Rattle.drill_lines.specs.declared.command.Part.TheVariants as part
use Rattle.drill_lines.specs.Header.{is_zero, is_digit_count, digit_counts, pattern_from, pattern, unit_format, unit_line}
use Rattle.drill_lines.specs.Tools.{is_point, tool_number, diameter_of, tool_fields, tool_line, pick_fields, pick_line}
use Rattle.drill_lines.proofs.Rows.{RowHas, first_match_has, just_has, beginning_has, prefix_has}
use Rattle.drill_text.specs.Rules.{rules}
use Rattle.drill_text.specs.Faults.{is_drill_reason, IsRefused, HasRefusedLine, IsFirstFault}
use Rattle.drill_text.proofs.FirstFaults.{err_first}

-- an answer that is refused by such a reason alone
DrillReasons : {A : Type 0} → Result A Reason → Type 0
DrillReasons (Ok x) = Unit {0}
DrillReasons (Err r) = is_drill_reason r ≡ true

reasons_cond : {A : Type 0} (t : Bool) (x y : Result A Reason) → DrillReasons x → DrillReasons y → DrillReasons (cond t x y)
reasons_cond true x y h k = h
reasons_cond false x y h k = k

reasons_bind : {A B : Type 0} (r : Result A Reason) (f : A → Result B Reason) → DrillReasons r → ((x : A) → DrillReasons (f x)) → DrillReasons (r >>= f)
unfolding DrillReasons
reasons_bind (Ok x) f h k = k x
reasons_bind (Err e) f h k = h

reasons_both : {A B : Type 0} (a : Result A Reason) (b : Result B Reason) → DrillReasons a → DrillReasons b → DrillReasons (both a b)
unfolding DrillReasons
reasons_both (Ok x) (Ok y) h k = tt
reasons_both (Ok x) (Err b) h k = k
reasons_both (Err a) (Ok y) h k = h
reasons_both (Err a) (Err b) h k = by (leb (reason_number a) (reason_number b))
  where
    by : (t : Bool) → is_drill_reason (cond t a b) ≡ true
    by true = h
    by false = k

-- ---- numbers

dec_reasons : (text : List ℕ) → DrillReasons (parse_decimal text)
unfolding DrillReasons parse_decimal
dec_reasons text =
    let read : Result ℤ Reason = Ok (signed_value text (to_units (value_without_point text) (length (fraction text)))) in
    let near : Result ℤ Reason = cond (ltb 999999 (value (whole text))) (Err reason.TooFar) read in
    let coarse : Result ℤ Reason = cond (fits_eight_decimals (fraction text)) near (Err reason.TooFine) in
    reasons_cond (is_decimal text) coarse (Err reason.BadNumber) (reasons_cond (fits_eight_decimals (fraction text)) near (Err reason.TooFine) (reasons_cond (ltb 999999 (value (whole text))) (Err reason.TooFar) read refl tt) refl) refl

missing_reasons : (zeros : Zeros) (places n : ℕ) → DrillReasons (zeros_to_fill zeros places n)
unfolding DrillReasons
missing_reasons Leading places n = reasons_cond (leb n places) (Ok _) (Err reason.TooManyDigits) tt refl
missing_reasons Trailing places n = reasons_cond (leb n places) (Ok 0) (Err reason.TooManyDigits) tt refl
missing_reasons Full places n = reasons_cond (eqb n places) (Ok 0) (Err reason.NoZeros) tt refl

zeros_reasons : (text : List ℕ) (i d : ℕ) (zeros : Zeros) → DrillReasons (parse_zero_filled text i d zeros)
unfolding DrillReasons parse_zero_filled
zeros_reasons text i d zeros =
    reasons_cond (is_digits (without_sign text)) _ (Err reason.BadNumber) (reasons_bind (zeros_to_fill zeros _ (length (without_sign text))) (λ k. Ok (signed_value text (to_units (zero_filled (without_sign text) k) d))) (missing_reasons zeros _ (length (without_sign text))) (λ k. tt)) refl

-- ---- tools

number_reasons : (least : ℕ) (digits : List ℕ) → DrillReasons (tool_number least digits)
unfolding DrillReasons tool_number
number_reasons least digits = reasons_cond (is_digits digits && (leb least (value digits) && leb (value digits) 999)) (Ok (value digits)) (Err reason.BadNumber) tt refl

diameter_reasons : (run : List ℕ) → DrillReasons (diameter_of run)
unfolding DrillReasons diameter_of
diameter_reasons run = reasons_cond (list_any is_point run) (parse_decimal run) (Err reason.BadNumber) (dec_reasons run) refl

tool_reasons : (line : List ℕ) → DrillReasons (tool_line line)
unfolding DrillReasons tool_line tool_fields
tool_reasons line = reasons_cond _ _ (Err reason.BadLine) (reasons_bind (both (tool_number 1 _) (diameter_of _)) (λ t. Ok (Tool t.0 t.1)) (reasons_both (tool_number 1 _) (diameter_of _) (number_reasons 1 _) (diameter_reasons _)) (λ t. tt)) refl

pick_reasons : (line : List ℕ) → DrillReasons (pick_line line)
unfolding DrillReasons pick_line pick_fields
pick_reasons line = reasons_cond _ _ (Err reason.BadLine) (reasons_bind (tool_number 0 _) (λ n. Ok (Pick n)) (number_reasons 0 _) (λ n. tt)) refl

-- ---- points

coordinate_reasons : (s : Settings) (run : Option (List ℕ)) → DrillReasons (coordinate s run)
unfolding DrillReasons coordinate coordinate_of
coordinate_reasons s None = tt
coordinate_reasons s (Some run) =
    reasons_bind (coordinate_of s run) (λ v. Ok (Some v)) (reasons_cond (list_any is_point run) (parse_decimal run) (parse_zero_filled run (format_in s).whole (format_in s).decimals (zeros_in s)) (dec_reasons run) (zeros_reasons run (format_in s).whole (format_in s).decimals (zeros_in s))) (λ v. tt)

coordinates_reasons : (s : Settings) (runs : Runs) → DrillReasons (coordinates s runs)
unfolding DrillReasons coordinates
coordinates_reasons s runs = reasons_bind (both (coordinate s runs.x) (coordinate s runs.y)) (λ p. Ok (record { x = p.0; y = p.1 })) (reasons_both (coordinate s runs.x) (coordinate s runs.y) (coordinate_reasons s runs.x) (coordinate_reasons s runs.y)) (λ p. tt)

slot_reasons : (s : Settings) (from : Runs) (line : List ℕ) → DrillReasons (slot_line s from line)
unfolding DrillReasons slot_line
slot_reasons s from line =
    reasons_cond _ _ (Err reason.BadLine) (reasons_bind (both (coordinates s from) (coordinates s (runs_of line).0)) (λ p. Ok (Slot p.0 p.1)) (reasons_both (coordinates s from) (coordinates s (runs_of line).0) (coordinates_reasons s from) (coordinates_reasons s (runs_of line).0)) (λ p. tt)) refl

drill_reasons : (s : Settings) (line : List ℕ) → DrillReasons (hole_line s line)
unfolding DrillReasons hole_line hole_from
drill_reasons s line =
    let from = (runs_of line).0 in
    let rest = (runs_of line).1 in
    reasons_cond (eqb (length rest) 0) _ _ (reasons_bind (coordinates s from) (λ p. Ok (Hit p)) (coordinates_reasons s from) (λ p. tt))
    (first_match_has DrillReasons reason.BadLine (option_map (slot_line s from) (strip_prefix (codes "G85") rest) ∷ []) refl (prefix_has DrillReasons (codes "G85") (slot_line s from) rest (slot_reasons s from), tt))

-- ---- the header

pattern_reasons : (run : List ℕ) → DrillReasons (pattern run)
unfolding DrillReasons pattern
pattern_reasons run = by (prefix_len is_zero run) (drop (prefix_len is_zero run) run)
  where
    by : (n : ℕ) (bytes : List ℕ) → DrillReasons (pattern_from n bytes)
    by n [] = refl
    by n (b ∷ bs) = reasons_cond (eqb b 46 && list_all is_zero bs) (digit_counts n (length bs)) (Err reason.BadNumber) (reasons_cond (is_digit_count n && is_digit_count (length bs)) (Ok (record { whole = n; decimals = length bs })) (Err reason.BadNumber) tt refl) refl

format_reasons : (u : Units) (z : Option Zeros) (line : List ℕ) → DrillReasons (unit_format u z line)
unfolding DrillReasons unit_format
format_reasons u z [] = tt
format_reasons u z (b ∷ bs) = reasons_cond (eqb b 44 && list_all is_number_char bs) _ (Err reason.BadLine) (reasons_bind (pattern bs) (λ p. Ok (UnitLine u z (Some p))) (pattern_reasons bs) (λ p. tt)) refl

unit_reasons : (u : Units) (line : List ℕ) → DrillReasons (unit_line u line)
unfolding DrillReasons unit_line
unit_reasons u line =
    let leading : List ℕ → Result DrillCommand Reason = unit_format u (Some Leading) in
    let trailing : List ℕ → Result DrillCommand Reason = unit_format u (Some Trailing) in
    first_match_has DrillReasons reason.BadLine (option_map leading (strip_prefix (codes ",LZ") line) ∷ option_map trailing (strip_prefix (codes ",TZ") line) ∷ Some (unit_format u None line) ∷ []) refl
    (prefix_has DrillReasons (codes ",LZ") leading line (format_reasons u (Some Leading)), (prefix_has DrillReasons (codes ",TZ") trailing line (format_reasons u (Some Trailing)), (format_reasons u None line, tt)))

-- ---- a line

one_reasons : (r : Result DrillCommand Reason) → DrillReasons r → DrillReasons (one_command r)
unfolding DrillReasons
one_reasons r h = reasons_bind r (λ command. Ok (Some command)) h (λ command. tt)

read_reasons : (word : List ℕ) (read : List ℕ → Result DrillCommand Reason) (line : List ℕ) → ((rest : List ℕ) → DrillReasons (read rest)) → RowHas DrillReasons (option_map (λ rest. one_command (read rest)) (strip_prefix word line))
read_reasons word read line h = prefix_has DrillReasons word (λ rest. one_command (read rest)) line (λ rest. one_reasons (read rest) (h rest))

common_reasons : (line : List ℕ) → AllByRecursion (RowHas DrillReasons) (common_rows line)
unfolding DrillReasons common_lines
common_reasons line =
    (just_has DrillReasons common_lines line (tt, (tt, (tt, (tt, (tt, (tt, (tt, (refl, (refl, (refl, tt)))))))))), (beginning_has DrillReasons ((codes "G93", Err reason.OldFormat) ∷ []) line (refl, tt), tt))

header_reasons : (line : List ℕ) → DrillReasons (first_match_or reason.BadLine (header_rows line))
unfolding DrillReasons header_ends
header_reasons line =
    first_match_has DrillReasons reason.BadLine (header_rows line) refl
    (just_has DrillReasons header_ends line (tt, (tt, tt)), (read_reasons (codes "INCH") (unit_line Inch) line (unit_reasons Inch), (read_reasons (codes "METRIC") (unit_line Millimetre) line (unit_reasons Millimetre), (read_reasons (codes "T") tool_line line tool_reasons, common_reasons line))))

body_reasons : (s : Settings) (line : List ℕ) → DrillReasons (first_match_or reason.BadLine (body_rows s line))
unfolding DrillReasons body_prefixes
body_reasons s line =
    let drill_path : DrillReasons (one_command (hole_line s line)) = one_reasons (hole_line s line) (drill_reasons s line) in
    first_match_has DrillReasons reason.BadLine (body_rows s line) refl (
      beginning_has DrillReasons ((codes "X", one_command (hole_line s line)) ∷ (codes "Y", one_command (hole_line s line)) ∷ []) line (drill_path, (drill_path, tt)),
      (
        read_reasons (codes "T") pick_line line pick_reasons,
        (
          just_has DrillReasons ((codes "M30", Ok (Some Finish)) ∷ []) line (tt, tt),
          (beginning_has DrillReasons body_prefixes line (refl, (refl, (refl, (refl, (refl, (refl, (refl, (refl, (refl, (refl, (refl, tt))))))))))), common_reasons line),
        ),
      ),
    )

part_reasons : (p : Part) (s : Settings) (line : List ℕ) → DrillReasons (line_in p s line)
unfolding DrillReasons line_in lines_before
part_reasons part.Before s line = first_match_has DrillReasons reason.OldFormat (literal_row lines_before line ∷ []) refl (just_has DrillReasons lines_before line (tt, (tt, tt)), tt)
part_reasons part.Header s line = header_reasons line
part_reasons part.Body s line = body_reasons s line
part_reasons part.After s line = refl

line_reasons : (s : Settings) (line : List ℕ) → DrillReasons (meaning s line)
unfolding DrillReasons meaning
line_reasons s [] = tt
line_reasons s (b ∷ bs) = reasons_cond (begins_comment s.part b) (Ok (Some (Comment bs))) (line_in s.part s (b ∷ bs)) tt (part_reasons s.part s (b ∷ bs))

reasons_is : {A : Type 0} (x : Result A Reason) (r : Reason) → DrillReasons x → x ≡ Err r → is_drill_reason r ≡ true
unfolding DrillReasons
reasons_is (Ok x) r h e = absurd cc
reasons_is (Err q) r h e = let same : q ≡ r = cc in subst (λ (y : Reason). is_drill_reason y ≡ true) same h

-- ---- a rule

-- each of a list has this
AllOf : (Reason → Type 0) → List Reason → Type 0
AllOf P [] = Unit {0}
AllOf P (x ∷ xs) = P x × AllOf P xs

-- what a search finds stands in the list
found : (p : Reason → Bool) (P : Reason → Type 0) (xs : List Reason) (r : Reason) → AllOf P xs → find p xs ≡ Some r → P r
unfolding AllOf
found p P [] r h e = absurd cc
found p P (x ∷ xs) r h e = by (p x) (found p P xs r h.1) e
  where
    by : (t : Bool) → (find p xs ≡ Some r → P r) → cond t (Some x) (find p xs) ≡ Some r → P r
    by true rest k = let same : x ≡ r = cc in subst P same h.0
    by false rest k = rest k

rule_reasons : (before : List DrillCommand) (c : DrillCommand) (r : Reason) → broken_rule before c ≡ Some r → is_drill_reason r ≡ true
unfolding first_broken AllOf
rule_reasons before c r e =
    found (applies (state_after before) (length (holes_of before)) (path_at before c) c) (λ (q : Reason). is_drill_reason q ≡ true) rules r (refl, (refl, (refl, (refl, (refl, (refl, (refl, (refl, (refl, tt))))))))) e

-- ---- a text

refused_reasons : (before : List DrillCommand) (line : List ℕ) (r : Reason) → IsRefused before line r → is_drill_reason r ≡ true
refused_reasons before line r (inl h) = ap is_drill_reason h.1
refused_reasons before line r (inr h) = by h.1
  where
    by : ((meaning (settings_after before) (without_end_blanks line) ≡ Err r) ⊎ ((c : DrillCommand) × (meaning (settings_after before) (without_end_blanks line) ≡ Ok (Some c)) × (broken_rule before c ≡ Some r))) → is_drill_reason r ≡ true
    by (inl k) = reasons_is (meaning (settings_after before) (without_end_blanks line)) r (line_reasons (settings_after before) (without_end_blanks line)) k
    by (inr k) = rule_reasons before k.0 r k.2

line_reason : (lines : List (List ℕ)) (f : Fault) → HasRefusedLine lines f → is_drill_reason f.reason ≡ true
line_reason lines f h = refused_reasons h.commands h.line f.reason h.refused

by_reason : (f g : Fault) → f ≡ g → is_drill_reason g.reason ≡ true → is_drill_reason f.reason ≡ true
by_reason f g e h = ap (λ (x : Fault). is_drill_reason x.reason) e ∙ h

first_fault_reasons : (text : List ℕ) (f : Fault) → IsFirstFault text f → is_drill_reason f.reason ≡ true
first_fault_reasons text f (lines, rest, splits, inl (le, inl h)) = line_reason (lines ++ rest ∷ []) f h
first_fault_reasons text f (lines, rest, splits, inl (le, inr h)) = by_reason f _ h.3 refl
first_fault_reasons text f (lines, rest, splits, inr (lt, inl h)) = line_reason lines f h
first_fault_reasons text f (lines, rest, splits, inr (lt, inr (cs, s, inl h))) = by_reason f _ h.1 refl
first_fault_reasons text f (lines, rest, splits, inr (lt, inr (cs, s, inr h))) = by_reason f _ h.1 refl

pub reads_reasons : (text : List ℕ) (f : Fault) → Reads text (Err f) → is_drill_reason f.reason ≡ true
reads_reasons text f h = first_fault_reasons text f (err_first text f h)
