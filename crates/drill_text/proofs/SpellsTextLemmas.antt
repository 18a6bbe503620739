-- A text is read where its lines spell a legal list of commands.
use Rattle.drill_text.proofs.Common.{◌≡◌, ℕ, suc, ◌≤◌, Bool, true, false, cond, ltb, List, [], ◌∷◌, ◌++◌, length, Option, None, Some, Result, Ok, Err, refl, sym, ap, subst, ◌∙◌, append_assoc, filter_map, cons_option, option_to_list, option_map, ltb-false, Fail, Reason, Profile, TooLong, Strict, ◌>>=◌, with_place, Answers, violations, violation_at, with_prefixes_from, IsLegal, line_limit, bind_ok, violations-more, violations-append, DrillCommand, without_end_blanks, meaning, bytes_of, settings_after, broken_rule, broken_rule_in, Reads, ReadsAsIn, add_unless, commands_by, plain, spelled_in, step_in, with_rest, spelled_after, AreWithinLimit, IsDrillText, ReadsAs, append-nil, checked_by}
use Rattle.grid_units.specs.declared.fault.Fail.TheVariants as fails
use Rattle.grid_units.proofs.ListLemmas.{append_nil_left, append_nil_right}
use Rattle.drill_text.proofs.ProfileLemmas.{at_ok, commands_by-push, ended_so, ending, spelled_in_is}

-- ---- one line

-- what a kept line says: it is short, it spells, and it breaks no rule
record KeptCommands (before : List DrillCommand) (line : List ℕ) (new : List DrillCommand) : Type 0 where
  command : Option DrillCommand
  short : length line ≤ line_limit
  parses : meaning (settings_after before) (without_end_blanks line) ≡ Ok command
  new_is : before ++ option_to_list command ≡ new
  keeps : IsLegal broken_rule before → IsLegal broken_rule new

pub judged_ok : (profile : Profile) (before : List DrillCommand) (command : Option DrillCommand) (new : List DrillCommand) → checked_by (broken_rule_in profile) before command ≡ Ok new
    → (before ++ option_to_list command ≡ new) × (IsLegal (broken_rule_in profile) before → IsLegal (broken_rule_in profile) new)
judged_ok profile before None new e = let same : before ≡ new = cc in (append-nil before ∙ same, λ legal. subst (IsLegal (broken_rule_in profile)) same legal)
judged_ok profile before (Some c) new e = by (broken_rule_in profile before c) refl e
  where
    by : (o : Option Reason) → broken_rule_in profile before c ≡ o → add_unless o before c ≡ Ok new → (before ++ c ∷ [] ≡ new) × (IsLegal (broken_rule_in profile) before → IsLegal (broken_rule_in profile) new)
    by None none k = let same : before ++ c ∷ [] ≡ new = cc in (same, λ legal. subst (IsLegal (broken_rule_in profile)) same (violations-more (broken_rule_in profile) before c legal none))
    by (Some r) some k = absurd cc

kept : (earlier : List (List ℕ)) (before : List DrillCommand) (line : List ℕ) (new : List DrillCommand) → step_in (plain Strict) earlier before line ≡ Ok new → KeptCommands before line new
unfolding step_in
kept earlier before line new e = by (ltb line_limit (length line)) refl e
  where
    by : (t : Bool) → ltb line_limit (length line) ≡ t → cond t (Err TooLong) (meaning (settings_after before) (without_end_blanks line) >>= checked_by (broken_rule_in Strict) before) ≡ Ok new → KeptCommands before line new
    by true long k = absurd cc
    by false short k =
        let b = bind_ok (meaning (settings_after before) (without_end_blanks line)) (checked_by (broken_rule_in Strict) before) new k in
        let j = judged_ok Strict before b.0 new b.2 in
        record { command = b.0; short = ltb-false _ _ short; parses = b.1; new_is = j.0; keeps = j.1 }

-- ---- all lines

pub all_kept : (earlier lines : List (List ℕ)) (before new : List DrillCommand) → commands_by (plain Strict) earlier lines before ≡ Ok new
    → AreWithinLimit lines × (spelled_after before lines ≡ Ok new) × (IsLegal broken_rule before → IsLegal broken_rule new)
all_kept earlier [] before new e = let same : before ≡ new = cc in (tt, ap (λ (x : List DrillCommand). Ok x) same, λ legal. subst (IsLegal broken_rule) same legal)
all_kept earlier (line ∷ lines) before new e =
    let next : List (List ℕ) = earlier ++ line ∷ [] in
    let b = bind_ok (spelled_in (plain Strict) earlier line before) (commands_by (plain Strict) next lines) new e in
    let k = kept earlier before line b.0 (at_ok (suc (length earlier)) (length (bytes_of earlier)) (step_in (plain Strict) earlier before line) b.0 b.1) in
    let rest = all_kept next lines b.0 new b.2 in (
      (k.short, rest.0),
      ap (λ r. r >>= λ command. spelled_after (before ++ option_to_list command) lines) k.parses ∙ (ap (λ (x : List DrillCommand). spelled_after x lines) k.new_is ∙ rest.1),
      λ legal. rest.2 (k.keeps legal),
    )

-- the first part of a legal list is legal
pub legal_start : (rule : List DrillCommand → DrillCommand → Option Reason) (cs ds : List DrillCommand) → IsLegal rule (cs ++ ds) → IsLegal rule cs
legal_start rule cs ds legal = append_nil_left (violations rule cs) (filter_map (violation_at rule) (with_prefixes_from cs ds)) (sym (violations-append rule cs ds) ∙ legal)

-- what lines spell begins with the commands before them
pub spelled_more : (before : List DrillCommand) (lines : List (List ℕ)) (new : List DrillCommand) → spelled_after before lines ≡ Ok new → (more : List DrillCommand) × (new ≡ before ++ more)
spelled_more before [] new e = let same : before ≡ new = cc in ([], sym same ∙ sym (append-nil before))
spelled_more before (line ∷ lines) new e =
    let b = bind_ok (meaning (settings_after before) (without_end_blanks line)) (λ command. spelled_after (before ++ option_to_list command) lines) new e in
    let rest = spelled_more (before ++ option_to_list b.0) lines new b.2 in
    (option_to_list b.0 ++ rest.0, rest.1 ∙ append_assoc before (option_to_list b.0) rest.0)

-- where an element is followed by a legal rest, and the list is legal, it breaks no rule
pub legal_parts : (n : ℕ) (o : Option Reason) (rest : List (ℕ × Reason)) → cons_option (option_map (λ (r : Reason). (n, r)) o) rest ≡ [] → (o ≡ None) × (rest ≡ [])
legal_parts n None rest e = (refl, e)
legal_parts n (Some r) rest e = absurd cc

-- the last of a legal list breaks no rule
pub last_keeps : (rule : List DrillCommand → DrillCommand → Option Reason) (before : List DrillCommand) (c : DrillCommand) → IsLegal rule (before ++ c ∷ []) → rule before c ≡ None
last_keeps rule before c legal =
    (legal_parts (length before) (rule before c) [] (append_nil_right (violations rule before) (filter_map (violation_at rule) (with_prefixes_from before (c ∷ []))) (sym (violations-append rule before (c ∷ [])) ∙ legal))).0

-- a command that is judged is kept, if the list with it is legal
pub keeps_judged : (profile : Profile) (before : List DrillCommand) (command : Option DrillCommand) → IsLegal (broken_rule_in profile) (before ++ option_to_list command) → checked_by (broken_rule_in profile) before command ≡ Ok (before ++ option_to_list command)
keeps_judged profile before None legal = ap (λ (x : List DrillCommand). Ok x) (sym (append-nil before))
keeps_judged profile before (Some c) legal = ap (λ o. add_unless o before c) (last_keeps (broken_rule_in profile) before c legal)

keeps_line : (earlier : List (List ℕ)) (before : List DrillCommand) (line : List ℕ) (command : Option DrillCommand) → length line ≤ line_limit → meaning (settings_after before) (without_end_blanks line) ≡ Ok command → IsLegal broken_rule (before ++ option_to_list command)
    → spelled_in (plain Strict) earlier line before ≡ Ok (before ++ option_to_list command)
keeps_line earlier before line command short parses legal =
    spelled_in_is (plain Strict) earlier line before (Ok command) short refl parses ∙ ap (with_place (suc (length earlier)) (length (bytes_of earlier))) (keeps_judged Strict before command legal)

pub all_spelled : (earlier lines : List (List ℕ)) (before new : List DrillCommand) → AreWithinLimit lines → spelled_after before lines ≡ Ok new → IsLegal broken_rule new → commands_by (plain Strict) earlier lines before ≡ Ok new
all_spelled earlier [] before new short e legal = let same : before ≡ new = cc in ap (λ (x : List DrillCommand). Ok x) same
all_spelled earlier (line ∷ lines) before new short e legal =
    let next : List (List ℕ) = earlier ++ line ∷ [] in
    let b = bind_ok (meaning (settings_after before) (without_end_blanks line)) (λ command. spelled_after (before ++ option_to_list command) lines) new e in
    let more = spelled_more (before ++ option_to_list b.0) lines new b.2 in
    let now = keeps_line earlier before line b.0 short.0 b.1 (legal_start broken_rule (before ++ option_to_list b.0) more.0 (subst (IsLegal broken_rule) more.1 legal)) in
    ap (λ r. r >>= commands_by (plain Strict) next lines) now ∙ all_spelled next lines (before ++ option_to_list b.0) new short.1 b.2 legal

-- ---- texts

-- the rest is a line, even without a byte: an empty line spells nothing
pub strict_rest : (lines : List (List ℕ)) (rest : List ℕ) (cs : List DrillCommand) → with_rest (plain Strict) lines rest cs ≡ spelled_in (plain Strict) lines rest cs
unfolding step_in meaning
strict_rest lines [] cs = refl
strict_rest lines (b ∷ bs) cs = refl

pub reads_drill_text : (text : List ℕ) (cs : List DrillCommand) → Reads text (Ok cs) → IsDrillText text cs
reads_drill_text text cs r =
    let e = ending (plain Strict) text cs r in
    let all = commands_by-push (plain Strict) [] e.lines e.rest [] ∙ (ap (λ x. x >>= spelled_in (plain Strict) e.lines e.rest) e.shown ∙ (sym (strict_rest e.lines e.rest e.first) ∙ e.last)) in
    let k = all_kept [] (e.lines ++ e.rest ∷ []) [] cs all in
    record {
      spells = record {
        lines = e.lines;
        rest = e.rest;
        splits = e.splits;
        within = e.within;
        short = k.0;
        spelling = k.1;
        ends = e.ends;
      };
      legal = k.2 refl;
    }

pub last_short : (lines : List (List ℕ)) (rest : List ℕ) → AreWithinLimit (lines ++ rest ∷ []) → length rest ≤ line_limit
last_short [] rest h = h.0
last_short (line ∷ lines) rest h = last_short lines rest h.1

pub drill_text_reads : (text : List ℕ) (cs : List DrillCommand) → IsDrillText text cs → Reads text (Ok cs)
drill_text_reads text cs d =
    let s = d.spells in
    let all = all_spelled [] (s.lines ++ s.rest ∷ []) [] cs s.short s.spelling d.legal in
    let b = bind_ok (commands_by (plain Strict) [] s.lines []) (spelled_in (plain Strict) s.lines s.rest) cs (sym (commands_by-push (plain Strict) [] s.lines s.rest []) ∙ all) in
    ended_so (plain Strict) text cs (record {
      lines = s.lines;
      rest = s.rest;
      first = b.0;
      splits = s.splits;
      shown = b.1;
      short = last_short s.lines s.rest s.short;
      within = s.within;
      last = strict_rest s.lines s.rest b.0 ∙ b.2;
      ends = s.ends;
    })

pub strict_answers : {T V : Type 0} (view : T → V) (see : List DrillCommand → V) (text : List ℕ) (result : Result T Fail) → Answers view (ReadsAsIn Strict see text) result → Answers view (ReadsAs see text) result
strict_answers view see text (Ok x) h = (h.0, reads_drill_text text h.0 h.1, h.2)
strict_answers view see text (Err fails.Memory) h = tt
strict_answers view see text (Err (fails.Refused f)) h = h
