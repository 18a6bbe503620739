-- A text of the wide profile, by its grammar, is read as its commands. By the grammar of each profile a text has one list of commands.
use Rattle.drill_text.proofs.Common.{◌≡◌, ◌⊎◌, inl, inr, ℕ, suc, Bool, true, false, cond, List, [], ◌∷◌, ◌++◌, length, map, Option, None, Some, unwrap_or, Result, Ok, Err, refl, sym, ap, subst, ◌∙◌, arith, append_assoc, option_to_list, append-nil, BadLine, Reason, Routed, ◌>>=◌, fault, with_place, IsLegal, and_false, bind_ok, CoordinateFormat, Coordinates, Machine, Part, Settings, DrillCommand, Slot, Strict, Wide, without_end_blanks, meaning, starts, lowers, cuts, last_line, is_routing, machine_after, part_row, says_nothing, unless_routing, other_line, wide_meaning, IsAlone, IsRoute, IsFree, written_is_answered, bytes_of, settings_after, broken_rule_in, commands_by, said_first, spelled_in, by_role, with_rest, AreWithinLimit, spelled_after, AreEntries, IsText, lines_of, IsTextOfAtMostOne, WrittenIsRead, ◌≤◌, ◌&&◌, option_map, line_limit, Fault, Repeat, ends_in_hit, further_hits, checked_repeat, repeat_after}
use Rattle.drill_lines.specs.declared.command.Part.TheVariants as part
use Rattle.drill_lines.proofs.RouteLemmas.{alone_read, early_end_read, empty_stands, meaning_by, old_read, route_read}
use Rattle.drill_lines.specs.Repeats.{repeat_row}
use Rattle.drill_lines.proofs.RepeatLemmas.{drilling_on, none_empty, none_repeated, repeat_answered, repeat_more}
use Rattle.drill_text.proofs.FirstFaults.{cut}
use Rattle.drill_text.proofs.GrammarLemmas.{end_found, lines_in, same_lines, text_spells}
use Rattle.drill_text.proofs.SpellsTextLemmas.{keeps_judged, legal_start, last_short}
use Rattle.drill_text.proofs.SpelledLemmas.{trimmed_more}
use Rattle.drill_text.proofs.ProfileLemmas.{commands_by-push, ended_so, spelled_alone, spelled_in_is, spelled_repeat}
use Rattle.drill_text.proofs.RepeatLemmas.{keeps_all}

-- ---- one line

-- what a line spells: the further hits of a repeat, or at most one command
line_spelled : List (List ℕ) → List DrillCommand → List ℕ → Option (Result Repeat Reason) → Result (List DrillCommand) Reason
line_spelled e before line row = unwrap_or (option_map (λ read. read >>= λ repeat. Ok (further_hits before repeat)) row) (wide_meaning (map without_end_blanks e) (settings_after before) (without_end_blanks line) >>= λ c. Ok (option_to_list c))

-- after earlier lines these commands and those that the lines spell, each by what stands before it
wide_spelled : List (List ℕ) → List DrillCommand → List (List ℕ) → Result (List DrillCommand) Reason
wide_spelled e before [] = Ok before
wide_spelled e before (line ∷ lines) = line_spelled e before line (repeat_after Wide e before line) >>= λ cs. wide_spelled (e ++ line ∷ []) (before ++ cs) lines

line_spells : (e : List (List ℕ)) (before : List DrillCommand) (line : List ℕ) (lines : List (List ℕ)) (c : Option DrillCommand) → wide_meaning (map without_end_blanks e) (settings_after before) (without_end_blanks line) ≡ Ok c
    → wide_spelled e before (line ∷ lines) ≡ wide_spelled (e ++ line ∷ []) (before ++ option_to_list c) lines
unfolding wide_spelled line_spelled
line_spells e before line lines c spells =
    let none : repeat_after Wide e before line ≡ None = none_repeated Wide (ends_in_hit before) (map without_end_blanks e) (settings_after before) (without_end_blanks line) c spells in
    ap (λ row. line_spelled e before line row >>= λ cs. wide_spelled (e ++ line ∷ []) (before ++ cs) lines) none
    ∙ ap (λ r. (r >>= λ o. Ok (option_to_list o)) >>= λ cs. wide_spelled (e ++ line ∷ []) (before ++ cs) lines) spells

repeat_spells : (e : List (List ℕ)) (before : List DrillCommand) (line : List ℕ) (lines : List (List ℕ)) (repeat : Repeat) → repeat_after Wide e before line ≡ Some (Ok repeat)
    → wide_spelled e before (line ∷ lines) ≡ wide_spelled (e ++ line ∷ []) (before ++ further_hits before repeat) lines
unfolding wide_spelled line_spelled
repeat_spells e before line lines repeat row = ap (λ o. line_spelled e before line o >>= λ cs. wide_spelled (e ++ line ∷ []) (before ++ cs) lines) row

none_spelled : (e : List (List ℕ)) (before : List DrillCommand) (line : List ℕ) (lines : List (List ℕ)) → wide_meaning (map without_end_blanks e) (settings_after before) (without_end_blanks line) ≡ Ok None → wide_spelled e before (line ∷ lines) ≡ wide_spelled (e ++ line ∷ []) before lines
none_spelled e before line lines spells = line_spells e before line lines None spells ∙ ap (λ (cs : List DrillCommand). wide_spelled (e ++ line ∷ []) cs lines) (append-nil before)

alone_spells : (s : Settings) (e : List (List ℕ)) (line : List ℕ) (c : Option DrillCommand) → IsFree e → IsAlone s (machine_after e) line c → (wide_meaning e s line ≡ Ok c) × IsFree (e ++ line ∷ [])
alone_spells s e line c free (stands, inl h) = alone_read s e line c free stands (written_is_answered s line c h.0) h.1
alone_spells s e line c free (stands, inr (inl h)) = let k = early_end_read s e line free stands h.0 h.1 in (k.0 ∙ ap (λ (x : Option DrillCommand). Ok x) (sym h.2), k.1)
alone_spells s e line c free (stands, inr (inr h)) = let k = old_read s e line free stands h.0 in (k.0 ∙ ap (λ (x : Option DrillCommand). Ok x) (sym h.1), k.1)

-- ---- entries

four_more : (e : List (List ℕ)) (a b c d : List ℕ) → (((e ++ a ∷ []) ++ b ∷ []) ++ c ∷ []) ++ d ∷ [] ≡ e ++ (a ∷ b ∷ c ∷ d ∷ [])
four_more e a b c d = simp append_assoc refl

-- the four lines of a route spell a slot
route_spelled : (e : List (List ℕ)) (before : List DrillCommand) (a b c d : List ℕ) (from to : Coordinates) (rest : List (List ℕ)) → IsFree (map without_end_blanks e) → IsRoute (settings_after before) (machine_after (map without_end_blanks e)) (without_end_blanks a) (without_end_blanks b) (without_end_blanks c) (without_end_blanks d) from to
    → (wide_spelled e before (a ∷ b ∷ c ∷ d ∷ rest) ≡ wide_spelled (e ++ (a ∷ b ∷ c ∷ d ∷ [])) (before ++ Slot from to ∷ []) rest) × IsFree (map without_end_blanks (e ++ (a ∷ b ∷ c ∷ d ∷ [])))
route_spelled e before a b c d from to rest free is =
    let s = settings_after before in
    let e1 : List (List ℕ) = e ++ a ∷ [] in
    let e2 : List (List ℕ) = e1 ++ b ∷ [] in
    let e3 : List (List ℕ) = e2 ++ c ∷ [] in
    let r = route_read s (map without_end_blanks e) (without_end_blanks a) (without_end_blanks b) (without_end_blanks c) (without_end_blanks d) from to free is in
    let m1 : map without_end_blanks e1 ≡ map without_end_blanks e ++ without_end_blanks a ∷ [] = trimmed_more e a in
    let m2 : map without_end_blanks e2 ≡ (map without_end_blanks e ++ without_end_blanks a ∷ []) ++ without_end_blanks b ∷ [] = trimmed_more e1 b ∙ ap (λ (l : List (List ℕ)). l ++ without_end_blanks b ∷ []) m1 in
    let m3 : map without_end_blanks e3 ≡ ((map without_end_blanks e ++ without_end_blanks a ∷ []) ++ without_end_blanks b ∷ []) ++ without_end_blanks c ∷ [] = trimmed_more e2 c ∙ ap (λ (l : List (List ℕ)). l ++ without_end_blanks c ∷ []) m2 in
    let m4 : map without_end_blanks (e3 ++ d ∷ []) ≡ (((map without_end_blanks e ++ without_end_blanks a ∷ []) ++ without_end_blanks b ∷ []) ++ without_end_blanks c ∷ []) ++ without_end_blanks d ∷ [] = trimmed_more e3 d ∙ ap (λ (l : List (List ℕ)). l ++ without_end_blanks d ∷ []) m3 in
    let whole = four_more e a b c d in (
      none_spelled e before a (b ∷ c ∷ d ∷ rest) r.one
          ∙ (none_spelled e1 before b (c ∷ d ∷ rest) (ap (λ (l : List (List ℕ)). wide_meaning l s (without_end_blanks b)) m1 ∙ r.two)
          ∙ (none_spelled e2 before c (d ∷ rest) (ap (λ (l : List (List ℕ)). wide_meaning l s (without_end_blanks c)) m2 ∙ r.three)
          ∙ (line_spells e3 before d rest (Some (Slot from to)) (ap (λ (l : List (List ℕ)). wide_meaning l s (without_end_blanks d)) m3 ∙ r.four)
          ∙ ap (λ (l : List (List ℕ)). wide_spelled l (before ++ Slot from to ∷ []) rest) whole))),
      subst (λ (l : List (List ℕ)). IsFree (map without_end_blanks l)) whole (subst IsFree (sym m4) r.free),
    )

entries_spell : (e : List (List ℕ)) (before : List DrillCommand) (entries : List (List (List ℕ))) (cs : List DrillCommand) → IsFree (map without_end_blanks e) → AreEntries Wide e before entries cs → wide_spelled e before (lines_in entries) ≡ Ok cs
unfolding wide_spelled
entries_spell e before [] cs free h = ap (λ (x : List DrillCommand). Ok x) (sym h)
entries_spell e before ((line ∷ []) ∷ entries) cs free (spelled, inl (one, is, same), rest) =
    let k = alone_spells (settings_after before) (map without_end_blanks e) (without_end_blanks line) one free is in
    line_spells e before line (lines_in entries) one k.0
    ∙ (ap (λ (x : List DrillCommand). wide_spelled (e ++ line ∷ []) (before ++ x) (lines_in entries)) (sym same) ∙ entries_spell (e ++ line ∷ []) (before ++ spelled) entries cs (subst IsFree (sym (trimmed_more e line)) k.1) rest)
entries_spell e before ((line ∷ []) ∷ entries) cs free (spelled, inr (repeat, hit, drilling, is_line, same), rest) =
    let s = settings_after before in
    let trimmed = without_end_blanks line in
    let row : repeat_after Wide e before line ≡ Some (Ok repeat) = (λ i. cond (hit i && drilling i) (repeat_row s.part s trimmed) None) ∙ repeat_answered s trimmed repeat is_line in
    let more = repeat_more (map without_end_blanks e) trimmed (is_line.1 ++ is_line.2) (drilling_on (map without_end_blanks e) drilling) is_line.3 in
    repeat_spells e before line (lines_in entries) repeat row
    ∙ (ap (λ (x : List DrillCommand). wide_spelled (e ++ line ∷ []) (before ++ x) (lines_in entries)) (sym same) ∙ entries_spell (e ++ line ∷ []) (before ++ spelled) entries cs (subst IsFree (sym (trimmed_more e line)) more.free) rest)
entries_spell e before ((a ∷ b ∷ c ∷ d ∷ []) ∷ entries) cs free (spelled, inl (Some (Slot from to), is, same), rest) =
    let k = route_spelled e before a b c d from to (lines_in entries) free is in
    k.0 ∙ (ap (λ (x : List DrillCommand). wide_spelled (e ++ (a ∷ b ∷ c ∷ d ∷ [])) (before ++ x) (lines_in entries)) (sym same) ∙ entries_spell (e ++ (a ∷ b ∷ c ∷ d ∷ [])) (before ++ spelled) entries cs k.1 rest)
entries_spell e before (entry ∷ entries) cs free (spelled, inl (one, is, same), rest) = absurd is
entries_spell e before (entry ∷ entries) cs free (spelled, inr never, rest) = absurd never

-- ---- what is spelled is read

-- what lines spell begins with the commands before them
spelled_begins : (e : List (List ℕ)) (before : List DrillCommand) (lines : List (List ℕ)) (cs : List DrillCommand) → wide_spelled e before lines ≡ Ok cs → (more : List DrillCommand) × (cs ≡ before ++ more)
unfolding wide_spelled
spelled_begins e before [] cs h = let same : before ≡ cs = cc in ([], sym same ∙ sym (append-nil before))
spelled_begins e before (line ∷ lines) cs h =
    let b = bind_ok (line_spelled e before line (repeat_after Wide e before line)) (λ c. wide_spelled (e ++ line ∷ []) (before ++ c) lines) cs h in
    let k = spelled_begins (e ++ line ∷ []) (before ++ b.0) lines cs b.2 in
    (b.0 ++ k.0, k.1 ∙ append_assoc before b.0 k.0)

-- a line is read as what it spells
line_read : (format : Option CoordinateFormat) (e : List (List ℕ)) (before : List DrillCommand) (line : List ℕ) (cs : List DrillCommand) → length line ≤ line_limit → line_spelled e before line (repeat_after Wide e before line) ≡ Ok cs → IsLegal (broken_rule_in Wide) (before ++ cs)
    → spelled_in (by_role Wide format) e line before ≡ Ok (before ++ cs)
unfolding line_spelled
line_read format e before line cs short h legal = by (repeat_after Wide e before line) refl h
  where
    place : Result (List DrillCommand) Reason → Result (List DrillCommand) Fault
    place = with_place (suc (length e)) (length (bytes_of e))

    by : (row : Option (Result Repeat Reason)) → repeat_after Wide e before line ≡ row → line_spelled e before line row ≡ Ok cs → spelled_in (by_role Wide format) e line before ≡ Ok (before ++ cs)
    by None none k =
        let b = bind_ok (wide_meaning (map without_end_blanks e) (settings_after before) (without_end_blanks line)) (λ c. Ok (option_to_list c)) cs k in
        let same : option_to_list b.0 ≡ cs = let o : Ok (option_to_list b.0) ≡ Ok cs = b.2 in cc in
        let all : IsLegal (broken_rule_in Wide) (before ++ option_to_list b.0) = subst (λ (x : List DrillCommand). IsLegal (broken_rule_in Wide) (before ++ x)) (sym same) legal in
        spelled_alone (by_role Wide format) e line before b.0 short b.1 ∙ (ap place (keeps_judged Wide before b.0 all) ∙ ap (λ (x : List DrillCommand). Ok (before ++ x)) same)
    by (Some read) some k =
        let b = bind_ok read (λ repeat. Ok (further_hits before repeat)) cs k in
        let same : further_hits before b.0 ≡ cs = let o : Ok (further_hits before b.0) ≡ Ok cs = b.2 in cc in
        let all : IsLegal (broken_rule_in Wide) (before ++ further_hits before b.0) = subst (λ (x : List DrillCommand). IsLegal (broken_rule_in Wide) (before ++ x)) (sym same) legal in
        spelled_repeat (by_role Wide format) e line before read short some
        ∙ (ap place (ap (checked_repeat (broken_rule_in Wide) before) b.1 ∙ keeps_all Wide before (further_hits before b.0) all) ∙ ap (λ (x : List DrillCommand). Ok (before ++ x)) same)

spelled_read : (format : Option CoordinateFormat) (e : List (List ℕ)) (before : List DrillCommand) (lines : List (List ℕ)) (cs : List DrillCommand) → AreWithinLimit lines → wide_spelled e before lines ≡ Ok cs → IsLegal (broken_rule_in Wide) cs → commands_by (by_role Wide format) e lines before ≡ Ok cs
unfolding wide_spelled
spelled_read format e before [] cs short h legal = let same : before ≡ cs = cc in ap (λ (x : List DrillCommand). Ok x) same
spelled_read format e before (line ∷ lines) cs short h legal =
    let b = bind_ok (line_spelled e before line (repeat_after Wide e before line)) (λ c. wide_spelled (e ++ line ∷ []) (before ++ c) lines) cs h in
    let now : List DrillCommand = before ++ b.0 in
    let more = spelled_begins (e ++ line ∷ []) now lines cs b.2 in
    let kept = line_read format e before line b.0 short.0 b.1 (legal_start (broken_rule_in Wide) now more.0 (subst (IsLegal (broken_rule_in Wide)) more.1 legal)) in
    ap (λ r. r >>= commands_by (by_role Wide format) (e ++ line ∷ []) lines) kept ∙ spelled_read format (e ++ line ∷ []) now lines cs short.1 b.2 legal

-- ---- the rest after the last LF

-- an empty line spells nothing, or is refused within a route
empty_spells : (e : List (List ℕ)) (s : Settings) → (wide_meaning e s [] ≡ Ok None) ⊎ (wide_meaning e s [] ≡ Err Routed)
unfolding meaning
empty_spells e s = by (starts (last_line e)) (lowers (last_line e)) (cuts (last_line e)) refl refl refl
  where
    no_row : (p : Part) → cond (says_nothing p []) (Some (Ok None)) (part_row p s []) ≡ None
    no_row part.Before = refl
    no_row part.Header = refl
    no_row part.Body = refl
    no_row part.After = refl

    other : (now : Machine) → other_line now s [] ≡ Ok None
    other now =
        let spelled : Result (Option DrillCommand) Reason = Ok None >>= unless_routing now in
        ap (λ t. unwrap_or (cond t (cond (says_nothing s.part []) (Some (Ok None)) (part_row s.part s [])) (Some (Err BadLine))) spelled) (empty_stands now)
        ∙ (ap (λ (row : Option (Result (Option DrillCommand) Reason)). unwrap_or row spelled) (no_row s.part) ∙ ap (λ t. cond t (Err Routed) (Ok None)) (and_false (is_routing now)))

    by : (t u v : Bool) → starts (last_line e) ≡ t → lowers (last_line e) ≡ u → cuts (last_line e) ≡ v → (wide_meaning e s [] ≡ Ok None) ⊎ (wide_meaning e s [] ≡ Err Routed)
    by true u v a b c = inr (meaning_by s e [] true u v a b c)
    by false true v a b c = inr (meaning_by s e [] false true v a b c)
    by false false true a b c = inr (meaning_by s e [] false false true a b c)
    by false false false a b c = inl (meaning_by s e [] false false false a b c ∙ other (machine_after e))

rest_read : (format : Option CoordinateFormat) (lines : List (List ℕ)) (rest : List ℕ) (before cs : List DrillCommand) → spelled_in (by_role Wide format) lines rest before ≡ Ok cs → with_rest (by_role Wide format) lines rest before ≡ Ok cs
rest_read format lines (b ∷ bs) before cs e = e
rest_read format lines [] before cs e = elim (empty_spells (map without_end_blanks lines) (settings_after before)) [
  | inl h ↦ sym (spelled_alone (by_role Wide format) lines [] before None (omega arith) h) ∙ e
  | inr h ↦ absurd (never (sym (spelled_in_is (by_role Wide format) lines [] before (Err Routed) (omega arith) (none_empty (ends_in_hit before) (map without_end_blanks lines) (settings_after before)) h) ∙ e))
]
  where
    never : Err (fault (suc (length lines)) (length (bytes_of lines)) Routed) ≡ Ok cs → ⊥
    never k = absurd cc

-- ---- texts

pub written_is_read : WrittenIsRead
written_is_read format text cs within t legal =
    let c = cut text in
    let lines = c.lines in
    let rest = c.rest in
    let same : lines_in t.entries ≡ lines ++ rest ∷ [] = t.lines ∙ same_lines text lines rest c.splits in
    let short : AreWithinLimit (lines ++ rest ∷ []) = subst AreWithinLimit (same_lines text lines rest c.splits) within.1 in
    let all = spelled_read format [] (said_first format) (lines ++ rest ∷ []) cs short (subst (λ (l : List (List ℕ)). wide_spelled [] (said_first format) l ≡ Ok cs) same (entries_spell [] (said_first format) t.entries cs (refl, refl, refl) t.spells)) legal in
    let b = bind_ok (commands_by (by_role Wide format) [] lines (said_first format)) (spelled_in (by_role Wide format) lines rest) cs (sym (commands_by-push (by_role Wide format) [] lines rest (said_first format)) ∙ all) in
    ended_so (by_role Wide format) text cs (record {
      lines = lines;
      rest = rest;
      first = b.0;
      splits = c.splits;
      shown = b.1;
      short = last_short lines rest short;
      within = within.0;
      last = rest_read format lines rest b.0 cs b.2;
      ends = end_found cs t.ends;
    })

-- ---- one list of commands

one_answer : {E A : Type 0} (r : Result A E) (x y : A) → r ≡ Ok x → r ≡ Ok y → x ≡ y
one_answer (Ok z) x y e f = let first : z ≡ x = cc in let second : z ≡ y = cc in sym first ∙ second
one_answer (Err z) x y e f = absurd cc

wide_text_spells : (format : Option CoordinateFormat) (text : List ℕ) (cs : List DrillCommand) → IsText Wide format text cs → wide_spelled [] (said_first format) (lines_of text) ≡ Ok cs
wide_text_spells format text cs t = subst (λ (l : List (List ℕ)). wide_spelled [] (said_first format) l ≡ Ok cs) t.lines (entries_spell [] (said_first format) t.entries cs (refl, refl, refl) t.spells)

pub is_text_of_at_most_one : IsTextOfAtMostOne
is_text_of_at_most_one Strict format text cs other t u = one_answer (spelled_after (said_first format) (lines_of text)) cs other (text_spells format text cs t) (text_spells format text other u)
is_text_of_at_most_one Wide format text cs other t u = one_answer (wide_spelled [] (said_first format) (lines_of text)) cs other (wide_text_spells format text cs t) (wide_text_spells format text other u)
