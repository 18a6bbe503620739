-- A text has a fault exactly where it is its first one.
use Rattle.drill_text.proofs.Common.{◌≡◌, ◌⊎◌, inl, inr, ℕ, suc, ◌<◌, ◌≤◌, Bool, true, false, cond, eqb, ltb, List, [], ◌∷◌, ◌++◌, length, take, Option, None, Some, Result, Ok, Err, refl, sym, ap, ◌∙◌, append_assoc, list_any, option_to_list, append-nil, le-ltb, lt-ltb, ltb-true, ltb-false, eqb-true, eqb-false, Fault, Reason, TooLong, Truncated, ◌>>=◌, fault, with_place, bind_cong, bind_ok, bind_err, Strict, DrillCommand, without_end_blanks, meaning, bytes_of, Splits, settings_after, broken_rule, Kind, Reads, ReadsBy, add_unless, commands_by, commands_at_end, is_finish, place_after, plain, read_by, shown_by, spelled_in, step_in, spelled_after, AreWithinLimit, text_limit, line_limit, IsLegal, checked_by, broken_rule_in}
use Rattle.drill_text.specs.Faults.{SpellLegally, IsRefused, HasRefusedLine, HasFaultWithin, HasFaultBeyond, IsFirstFault, HasAnswer}
use Rattle.drill_text.proofs.ProfileLemmas.{commands_by-append, commands_by-push, show_by_err, show_by_long, show_by_ok, shown_by_err, shown_by_ok, too_long}
use Rattle.drill_text.proofs.SpellsTextLemmas.{all_kept, all_spelled, last_short, reads_drill_text, strict_rest}

at_err : {A : Type 0} (place byte : ℕ) (r : Result A Reason) (f : Fault) → with_place place byte r ≡ Err f → (r ≡ Err f.reason) × (f.place ≡ place) × (f.byte ≡ byte)
at_err place byte (Ok y) f e = absurd cc
at_err place byte (Err r) f e = let same : fault place byte r ≡ f = cc in (ap (λ (g : Fault). Err g.reason) same, sym (ap (λ (g : Fault). g.place) same), sym (ap (λ (g : Fault). g.byte) same))

-- ---- one line

judged_err : (before : List DrillCommand) (command : Option DrillCommand) (r : Reason) → checked_by (broken_rule_in Strict) before command ≡ Err r → (c : DrillCommand) × (command ≡ Some c) × (broken_rule before c ≡ Some r)
judged_err before None r e = absurd cc
judged_err before (Some c) r e = by (broken_rule before c) refl e
  where
    by : (o : Option Reason) → broken_rule before c ≡ o → add_unless o before c ≡ Err r → (d : DrillCommand) × (Some c ≡ Some d) × (broken_rule before d ≡ Some r)
    by None is k = absurd cc
    by (Some b) is k = let same : b ≡ r = cc in (c, refl, is ∙ ap (λ (x : Reason). Some x) same)

step_err : (earlier : List (List ℕ)) (before : List DrillCommand) (line : List ℕ) (r : Reason) → step_in (plain Strict) earlier before line ≡ Err r → IsRefused before line r
unfolding step_in
step_err earlier before line r e = by (ltb line_limit (length line)) refl e
  where
    by : (t : Bool) → ltb line_limit (length line) ≡ t → cond t (Err TooLong) (meaning (settings_after before) (without_end_blanks line) >>= checked_by (broken_rule_in Strict) before) ≡ Err r → IsRefused before line r
    by true long k = let same : TooLong ≡ r = cc in inl (ltb-true _ _ long, sym same)
    by false short k =
        elim (bind_err (meaning (settings_after before) (without_end_blanks line)) (checked_by (broken_rule_in Strict) before) r k) [
          | inl h ↦ inr (ltb-false _ _ short, inl h)
          | inr h ↦ (let j = judged_err before h.0 r h.2 in inr (ltb-false _ _ short, inr (j.0, h.1 ∙ ap (λ (o : Option DrillCommand). Ok o) j.1, j.2)))
        ]

refused_err : (earlier : List (List ℕ)) (before : List DrillCommand) (line : List ℕ) (r : Reason) → IsRefused before line r → step_in (plain Strict) earlier before line ≡ Err r
unfolding step_in
refused_err earlier before line r (inl h) = ap (λ t. cond t (Err TooLong) (meaning (settings_after before) (without_end_blanks line) >>= checked_by (broken_rule_in Strict) before)) (lt-ltb _ _ h.0) ∙ ap (λ (x : Reason). Err x) (sym h.1)
refused_err earlier before line r (inr h) =
    ap (λ t. cond t (Err TooLong) (meaning (settings_after before) (without_end_blanks line) >>= checked_by (broken_rule_in Strict) before)) (le-ltb _ _ h.0)
    ∙ elim h.1 [
      | inl k ↦ ap (λ x. x >>= checked_by (broken_rule_in Strict) before) k
      | inr k ↦ (ap (λ x. x >>= checked_by (broken_rule_in Strict) before) k.1 ∙ ap (λ o. add_unless o before k.0) k.2)
    ]

-- ---- lines

abbrev strict_from : List (List ℕ) → List (List ℕ) → List DrillCommand → Result (List DrillCommand) Fault
strict_from = commands_by (plain Strict)

abbrev strict_line : List (List ℕ) → List ℕ → List DrillCommand → Result (List DrillCommand) Fault
strict_line = spelled_in (plain Strict)

abbrev strictly_shown : List (List ℕ) → List ℕ → Result (List DrillCommand) Fault
strictly_shown = shown_by (plain Strict)

-- the first of some lines that is refused, after earlier ones and their commands
record Refused (earlier lines : List (List ℕ)) (start : List DrillCommand) (f : Fault) : Type 0 where
  before : List (List ℕ)
  line : List ℕ
  after : List (List ℕ)
  whole : lines ≡ before ++ line ∷ after
  commands : List DrillCommand
  short : AreWithinLimit before
  spelling : spelled_after start before ≡ Ok commands
  legal : IsLegal broken_rule start → IsLegal broken_rule commands
  refused : IsRefused commands line f.reason
  place_is : f.place ≡ suc (length (earlier ++ before))
  byte_is : f.byte ≡ length (bytes_of (earlier ++ before))

next_refused : (earlier : List (List ℕ)) (line : List ℕ) (lines : List (List ℕ)) (start next : List DrillCommand) (f : Fault) → strict_line earlier line start ≡ Ok next → Refused (earlier ++ line ∷ []) lines next f → Refused earlier (line ∷ lines) start f
next_refused earlier line lines start next f e r =
    let one_command = all_kept earlier (line ∷ []) start next (ap (λ x. x >>= strict_from (earlier ++ line ∷ []) []) e) in
    let same : (earlier ++ line ∷ []) ++ r.before ≡ earlier ++ line ∷ r.before = append_assoc earlier (line ∷ []) r.before in
    record {
      before = line ∷ r.before;
      line = r.line;
      after = r.after;
      whole = ap (λ (x : List (List ℕ)). line ∷ x) r.whole;
      commands = r.commands;
      short = (one_command.0.0, r.short);
      spelling = first_spelled start line r.before next one_command.1 ∙ r.spelling;
      legal = λ legal. r.legal (one_command.2 legal);
      refused = r.refused;
      place_is = r.place_is ∙ ap (λ (x : List (List ℕ)). suc (length x)) same;
      byte_is = r.byte_is ∙ ap (λ (x : List (List ℕ)). length (bytes_of x)) same;
    }
  where
    first_spelled : (start : List DrillCommand) (line : List ℕ) (lines : List (List ℕ)) (next : List DrillCommand) → spelled_after start (line ∷ []) ≡ Ok next → spelled_after start (line ∷ lines) ≡ spelled_after next lines
    first_spelled start line lines next e =
        let b = bind_ok (meaning (settings_after start) (without_end_blanks line)) (λ command. spelled_after (start ++ option_to_list command) []) next e in
        let same : start ++ option_to_list b.0 ≡ next = let k = b.2 in cc in
        ap (λ x. x >>= λ command. spelled_after (start ++ option_to_list command) lines) b.1 ∙ ap (λ (x : List DrillCommand). spelled_after x lines) same

faulty : (earlier lines : List (List ℕ)) (start : List DrillCommand) (f : Fault) → strict_from earlier lines start ≡ Err f → Refused earlier lines start f
faulty earlier [] start f e = absurd cc
faulty earlier (line ∷ lines) start f e =
    elim (bind_err (strict_line earlier line start) (strict_from (earlier ++ line ∷ []) lines) f e) [
      | inl h ↦ (let k = at_err (suc (length earlier)) (length (bytes_of earlier)) (step_in (plain Strict) earlier start line) f h in
          let none : earlier ≡ earlier ++ [] = sym (append-nil earlier) in
          record {
            before = [];
            line = line;
            after = lines;
            whole = refl;
            commands = start;
            short = tt;
            spelling = refl;
            legal = λ legal. legal;
            refused = step_err earlier start line f.reason k.0;
            place_is = k.1 ∙ ap (λ (x : List (List ℕ)). suc (length x)) none;
            byte_is = k.2 ∙ ap (λ (x : List (List ℕ)). length (bytes_of x)) none;
          })
      | inr h ↦ next_refused earlier line lines start h.0 f h.1 (faulty (earlier ++ line ∷ []) lines h.0 f h.2)
    ]

-- lines before these keep the fault
lines_refused : (before : List (List ℕ)) (line : List ℕ) (after : List (List ℕ)) (cs : List DrillCommand) (r : Reason) → strict_from [] before [] ≡ Ok cs → step_in (plain Strict) before cs line ≡ Err r
    → strict_from [] (before ++ line ∷ after) [] ≡ Err (fault (suc (length before)) (length (bytes_of before)) r)
lines_refused before line after cs r e h =
    commands_by-append (plain Strict) [] before (line ∷ after) []
    ∙ (ap (λ x. x >>= strict_from before (line ∷ after)) e ∙ ap (λ x. with_place (suc (length before)) (length (bytes_of before)) x >>= strict_from (before ++ line ∷ []) after) h)

pub has_refused : (lines : List (List ℕ)) (f : Fault) → strict_from [] lines [] ≡ Err f → HasRefusedLine lines f
has_refused lines f e =
    let r = faulty [] lines [] f e in
    record {
      before = r.before;
      line = r.line;
      after = r.after;
      whole = r.whole;
      commands = r.commands;
      spells = record { short = r.short; spelling = r.spelling; legal = r.legal refl };
      refused = r.refused;
      place = r.place_is;
      byte = r.byte_is;
    }

pub refused_has : (lines : List (List ℕ)) (f : Fault) → HasRefusedLine lines f → strict_from [] lines [] ≡ Err f
refused_has lines f h =
    let s = h.spells in
    ap (λ (x : List (List ℕ)). strict_from [] x []) h.whole
    ∙ (lines_refused h.before h.line h.after h.commands f.reason (all_spelled [] h.before [] h.commands s.short s.spelling s.legal) (refused_err h.before h.commands h.line f.reason h.refused)
    ∙ (λ i. Err (fault (sym h.place i) (sym h.byte i) f.reason)))

pub legal_lines : (lines : List (List ℕ)) (cs : List DrillCommand) → strict_from [] lines [] ≡ Ok cs → SpellLegally lines cs
legal_lines lines cs e = let k = all_kept [] lines [] cs e in record { short = k.0; spelling = k.1; legal = k.2 refl }

pub lines_legal : (lines : List (List ℕ)) (cs : List DrillCommand) → SpellLegally lines cs → strict_from [] lines [] ≡ Ok cs
lines_legal lines cs s = all_spelled [] lines [] cs s.short s.spelling s.legal

-- ---- texts

last_place : ℕ → List (List ℕ) → List ℕ → List DrillCommand → Result (List DrillCommand) Fault
last_place len lines rest cs = strict_line lines rest cs >>= commands_at_end len lines rest

-- what a text is read as, its rest as a line
strictly_read : (len : ℕ) (lines : List (List ℕ)) (rest : List ℕ) → read_by (plain Strict) len lines rest ≡ (strictly_shown lines rest >>= λ commands. cond (ltb text_limit len) (Err (fault (suc (length lines)) text_limit TooLong)) (last_place len lines rest commands))
unfolding last_place
strictly_read len lines rest = bind_cong (strictly_shown lines rest) _ _ (λ commands. ap (λ r. cond (ltb text_limit len) (Err (fault (suc (length lines)) text_limit TooLong)) (r >>= commands_at_end len lines rest)) (strict_rest lines rest commands))

-- the same of a text within the limit, or above it
read_within : (len : ℕ) (lines : List (List ℕ)) (rest : List ℕ) → len ≤ text_limit → read_by (plain Strict) len lines rest ≡ (strictly_shown lines rest >>= last_place len lines rest)
read_within len lines rest le = strictly_read len lines rest ∙ ap (λ t. strictly_shown lines rest >>= λ commands. cond t (Err (fault (suc (length lines)) text_limit TooLong)) (last_place len lines rest commands)) (le-ltb text_limit len le)

read_beyond : (len : ℕ) (lines : List (List ℕ)) (rest : List ℕ) → text_limit < len → read_by (plain Strict) len lines rest ≡ (strictly_shown lines rest >>= λ commands. Err (fault (suc (length lines)) text_limit TooLong))
read_beyond len lines rest lt = strictly_read len lines rest ∙ ap (λ t. strictly_shown lines rest >>= λ commands. cond t (Err (fault (suc (length lines)) text_limit TooLong)) (last_place len lines rest commands)) (lt-ltb text_limit len lt)

-- the lines and the rest as a line
all_lines : (lines : List (List ℕ)) (rest : List ℕ) (cs : List DrillCommand) → strict_from [] lines [] ≡ Ok cs → strict_from [] (lines ++ rest ∷ []) [] ≡ strict_line lines rest cs
all_lines lines rest cs e = commands_by-push (plain Strict) [] lines rest [] ∙ ap (λ x. x >>= strict_line lines rest) e

prefix_err : (lines : List (List ℕ)) (rest : List ℕ) (f : Fault) → strict_from [] lines [] ≡ Err f → strict_from [] (lines ++ rest ∷ []) [] ≡ Err f
prefix_err lines rest f e = commands_by-push (plain Strict) [] lines rest [] ∙ ap (λ x. x >>= strict_line lines rest) e

ended_err : (len : ℕ) (lines : List (List ℕ)) (rest : List ℕ) (cs : List DrillCommand) (f : Fault) → commands_at_end len lines rest cs ≡ Err f → (list_any is_finish cs ≡ false) × (f ≡ fault (place_after lines rest) len Truncated)
ended_err len lines rest cs f e = by (list_any is_finish cs) refl e
  where
    by : (t : Bool) → list_any is_finish cs ≡ t → cond t (Ok cs) (Err (fault (place_after lines rest) len Truncated)) ≡ Err f → (list_any is_finish cs ≡ false) × (f ≡ fault (place_after lines rest) len Truncated)
    by true is k = absurd cc
    by false is k = let same : fault (place_after lines rest) len Truncated ≡ f = cc in (is, sym same)

-- what a text within the limit reads as
within_err : (text : List ℕ) (lines : List (List ℕ)) (rest : List ℕ) (f : Fault) → length text ≤ text_limit → read_by (plain Strict) (length text) lines rest ≡ Err f → HasFaultWithin text lines rest f
unfolding last_place
within_err text lines rest f le e =
    elim (bind_err (strictly_shown lines rest) (last_place (length text) lines rest) f (sym (read_within (length text) lines rest le) ∙ e)) [
      | inl h ↦ elim (shown_by_err (plain Strict) lines rest f h) [
        | inl k ↦ inl (has_refused (lines ++ rest ∷ []) f (prefix_err lines rest f k))
        | inr k ↦ inl (has_refused (lines ++ rest ∷ []) f (all_lines lines rest k.0 k.1 ∙ (too_long (plain Strict) lines rest k.0 k.2 ∙ ap (λ (g : Fault). Err g) k.3)))
      ]
      | inr h ↦ (let first = (shown_by_ok (plain Strict) lines rest h.0 h.1).0 in
          elim (bind_err (strict_line lines rest h.0) (commands_at_end (length text) lines rest) f h.2) [
            | inl k ↦ inl (has_refused (lines ++ rest ∷ []) f (all_lines lines rest h.0 first ∙ k))
            | inr k ↦ (let done = ended_err (length text) lines rest k.0 f k.2 in inr (k.0, legal_lines (lines ++ rest ∷ []) k.0 (all_lines lines rest h.0 first ∙ k.1), done.0, done.1))
          ])
    ]

-- what a text above the limit reads as
beyond_err : (text : List ℕ) (lines : List (List ℕ)) (rest : List ℕ) (f : Fault) → text_limit < length text → read_by (plain Strict) (length text) lines rest ≡ Err f → HasFaultBeyond lines rest f
beyond_err text lines rest f lt e =
    elim (bind_err (strictly_shown lines rest) (λ commands. Err (fault (suc (length lines)) text_limit TooLong)) f (sym (read_beyond (length text) lines rest lt) ∙ e)) [
      | inl h ↦ elim (shown_by_err (plain Strict) lines rest f h) [
        | inl k ↦ inl (has_refused lines f k)
        | inr k ↦ inr (k.0, legal_lines lines k.0 k.1, inl (k.2, sym k.3))
      ]
      | inr h ↦ (let first = shown_by_ok (plain Strict) lines rest h.0 h.1 in
          let same : fault (suc (length lines)) text_limit TooLong ≡ f = let k = h.2 in cc in
          inr (h.0, legal_lines lines h.0 first.0, inr (first.1, sym same)))
    ]

pub err_first : (text : List ℕ) (f : Fault) → Reads text (Err f) → IsFirstFault text f
err_first text f r = by (ltb text_limit (length text)) refl
  where
    by : (t : Bool) → ltb text_limit (length text) ≡ t → IsFirstFault text f
    by true h = let lt = ltb-true _ _ h in (r.lines, r.rest, r.splits, inr (lt, beyond_err text r.lines r.rest f lt (sym r.answer_is)))
    by false h = let le = ltb-false _ _ h in (r.lines, r.rest, r.splits, inl (le, within_err text r.lines r.rest f le (sym r.answer_is)))

-- ---- and back

refused_within : (text : List ℕ) (lines : List (List ℕ)) (rest : List ℕ) (f : Fault) → length text ≤ text_limit → strict_from [] (lines ++ rest ∷ []) [] ≡ Err f → read_by (plain Strict) (length text) lines rest ≡ Err f
unfolding last_place
refused_within text lines rest f le e =
    read_within (length text) lines rest le
    ∙ elim (bind_err (strict_from [] lines []) (strict_line lines rest) f (sym (commands_by-push (plain Strict) [] lines rest []) ∙ e)) [
      | inl h ↦ ap (λ x. x >>= last_place (length text) lines rest) (show_by_err (plain Strict) lines rest f h)
      | inr h ↦ by_rest h.0 h.1 h.2 (ltb line_limit (length rest)) refl
    ]
  where
    by_rest : (cs : List DrillCommand) → strict_from [] lines [] ≡ Ok cs → strict_line lines rest cs ≡ Err f → (t : Bool) → ltb line_limit (length rest) ≡ t → (strictly_shown lines rest >>= last_place (length text) lines rest) ≡ Err f
    by_rest cs first last true long =
        let lt = ltb-true _ _ long in
        ap (λ x. x >>= last_place (length text) lines rest) (show_by_long (plain Strict) lines rest cs first lt) ∙ (sym (too_long (plain Strict) lines rest cs lt) ∙ last)
    by_rest cs first last false short =
        ap (λ x. x >>= last_place (length text) lines rest) (show_by_ok (plain Strict) lines rest cs first (ltb-false _ _ short)) ∙ ap (λ x. x >>= commands_at_end (length text) lines rest) last

truncated_within : (text : List ℕ) (lines : List (List ℕ)) (rest : List ℕ) (cs : List DrillCommand) → length text ≤ text_limit → SpellLegally (lines ++ rest ∷ []) cs → list_any is_finish cs ≡ false
    → read_by (plain Strict) (length text) lines rest ≡ Err (fault (place_after lines rest) (length text) Truncated)
unfolding last_place
truncated_within text lines rest cs le s none =
    let b = bind_ok (strict_from [] lines []) (strict_line lines rest) cs (sym (commands_by-push (plain Strict) [] lines rest []) ∙ lines_legal (lines ++ rest ∷ []) cs s) in
    read_within (length text) lines rest le
    ∙ (ap (λ x. x >>= last_place (length text) lines rest) (show_by_ok (plain Strict) lines rest b.0 b.1 (last_short lines rest s.short))
    ∙ (ap (λ x. x >>= commands_at_end (length text) lines rest) b.2 ∙ ap (λ t. cond t (Ok cs) (Err (fault (place_after lines rest) (length text) Truncated))) none))

beyond_is : (text : List ℕ) (lines : List (List ℕ)) (rest : List ℕ) (r : Result (List DrillCommand) Fault) → text_limit < length text → strictly_shown lines rest ≡ r → read_by (plain Strict) (length text) lines rest ≡ (r >>= λ commands. Err (fault (suc (length lines)) text_limit TooLong))
beyond_is text lines rest r lt e = read_beyond (length text) lines rest lt ∙ ap (λ x. x >>= λ commands. Err (fault (suc (length lines)) text_limit TooLong)) e

within_reads : (text : List ℕ) (lines : List (List ℕ)) (rest : List ℕ) (f : Fault) → length text ≤ text_limit → HasFaultWithin text lines rest f → read_by (plain Strict) (length text) lines rest ≡ Err f
within_reads text lines rest f le (inl h) = refused_within text lines rest f le (refused_has (lines ++ rest ∷ []) f h)
within_reads text lines rest f le (inr h) = truncated_within text lines rest h.0 le h.1 h.2 ∙ ap (λ (g : Fault). Err g) (sym h.3)

beyond_reads : (text : List ℕ) (lines : List (List ℕ)) (rest : List ℕ) (f : Fault) → text_limit < length text → HasFaultBeyond lines rest f → read_by (plain Strict) (length text) lines rest ≡ Err f
beyond_reads text lines rest f lt (inl h) = beyond_is text lines rest (Err f) lt (show_by_err (plain Strict) lines rest f (refused_has lines f h))
beyond_reads text lines rest f lt (inr h) = by h.2
  where
    by : (((line_limit < length rest) × (f ≡ fault (suc (length lines)) (length (bytes_of lines)) TooLong)) ⊎ ((length rest ≤ line_limit) × (f ≡ fault (suc (length lines)) text_limit TooLong))) → read_by (plain Strict) (length text) lines rest ≡ Err f
    by (inl k) = beyond_is text lines rest (Err (fault (suc (length lines)) (length (bytes_of lines)) TooLong)) lt (show_by_long (plain Strict) lines rest h.0 (lines_legal lines h.0 h.1) k.0) ∙ ap (λ (g : Fault). Err g) (sym k.1)
    by (inr k) = beyond_is text lines rest (Ok h.0) lt (show_by_ok (plain Strict) lines rest h.0 (lines_legal lines h.0 h.1) k.0) ∙ ap (λ (g : Fault). Err g) (sym k.1)

pub first_err : (text : List ℕ) (f : Fault) → IsFirstFault text f → Reads text (Err f)
first_err text f (lines, rest, splits, inl h) = record { lines = lines; rest = rest; splits = splits; answer_is = sym (within_reads text lines rest f h.0 h.1) }
first_err text f (lines, rest, splits, inr h) = record { lines = lines; rest = rest; splits = splits; answer_is = sym (beyond_reads text lines rest f h.0 h.1) }

-- ---- each text

-- a text is cut into lines
pub record Cut (text : List ℕ) : Type 0 where
  pub lines : List (List ℕ)
  pub rest : List ℕ
  pub splits : Splits text lines rest

longer : (b : ℕ) (bs : List ℕ) → (b ≡ 10 → ⊥) → Cut bs → Cut (b ∷ bs)
longer b bs differs c = by c.lines c.rest c.splits
  where
    by : (lines : List (List ℕ)) (rest : List ℕ) → Splits bs lines rest → Cut (b ∷ bs)
    by [] rest s = record { lines = []; rest = b ∷ rest; splits = record { whole = ap (λ (x : List ℕ). b ∷ x) s.whole; each = tt; partial = (differs, s.partial) } }
    by (line ∷ lines) rest s = record { lines = (b ∷ line) ∷ lines; rest = rest; splits = record { whole = ap (λ (x : List ℕ). b ∷ x) s.whole; each = ((differs, s.each.0), s.each.1); partial = s.partial } }

pub cut : (text : List ℕ) → Cut text
cut [] = record { lines = []; rest = []; splits = record { whole = refl; each = tt; partial = tt } }
cut (b ∷ bs) = by (eqb b 10) refl (cut bs)
  where
    by : (t : Bool) → eqb b 10 ≡ t → Cut bs → Cut (b ∷ bs)
    by true is c = record { lines = [] ∷ c.lines; rest = c.rest; splits = record { whole = (λ i. eqb-true b 10 is i ∷ c.splits.whole i); each = (tt, c.splits.each); partial = c.splits.partial } }
    by false is c = longer b bs (eqb-false b 10 is) c

-- in each profile each text has an answer
pub each_read_in : (kind : Kind) (text : List ℕ) → (answer : Result (List DrillCommand) Fault) × ReadsBy kind text answer
each_read_in kind text =
    let c = cut (take text_limit text) in
    (read_by kind (length text) c.lines c.rest, record { lines = c.lines; rest = c.rest; splits = c.splits; answer_is = refl })

pub has_answer : (text : List ℕ) → HasAnswer text
has_answer text = let r = each_read_in (plain Strict) text in by r.0 r.1
  where
    by : (answer : Result (List DrillCommand) Fault) → Reads text answer → HasAnswer text
    by (Ok cs) h = inl (cs, reads_drill_text text cs h)
    by (Err f) h = inr (f, err_first text f h)
