-- A file of each kind is read as one of the same commands whose role is believed, but for the rule that the kind has beside the others.
use Rattle.drill_text.proofs.Common.{◌≡◌, ℕ, suc, Bool, true, false, cond, ltb, ◌||◌, List, [], ◌∷◌, ◌++◌, length, map, Option, None, Some, Ok, Err, refl, sym, ap, subst, ◌∙◌, append_assoc, cons_option, filter_map, list_any, option_map, option_or, option_to_list, append-nil, line_limit, IsLegal, violation_at, with_prefixes_from, ◌>>=◌, with_place, Profile, Reason, PlatingConflict, TooLong, violations-more, bind_ok, without_end_blanks, meaning_in, DrillCommand, bytes_of, settings_after, calls_plated, contradiction_rule, own_rule, rule_in, PlatingKind, Kind, ReadsBy, add_unless, checked_by, commands_by, said_first, spelled_in, by_role, step_in, with_rest, broken_rule_in, Result, unwrap_or, Repeat, checked_all, checked_repeat, further_hits, repeat_after}
use Rattle.drill_text.specs.MixedLaws.{KindsReadTheSame, UncontradictedIsLegal}
use Rattle.drill_text.proofs.PlatingLemmas.{rules_are}
use Rattle.drill_text.proofs.ProfileLemmas.{at_ok, ending, guarded, read_alike}
use Rattle.drill_text.proofs.RepeatLemmas.{all_ok}
use Rattle.drill_text.proofs.SaidFirst.{said_is_own}
use Rattle.drill_text.proofs.SpellsTextLemmas.{judged_ok, last_keeps, legal_parts, legal_start}

-- ---- one command

-- what a command leaves, where it breaks no rule of its kind of file
judged_same : (profile : Profile) (plating : PlatingKind) (before : List DrillCommand) (command : Option DrillCommand) (new : List DrillCommand) → checked_by (rule_in profile plating) before command ≡ Ok new
    → (checked_by (broken_rule_in profile) before command ≡ Ok new) × (IsLegal (own_rule plating) before → IsLegal (own_rule plating) new)
judged_same profile plating before None new e = let same : before ≡ new = cc in (e, λ legal. subst (IsLegal (own_rule plating)) same legal)
judged_same profile plating before (Some c) new e = by (broken_rule_in profile before c) (own_rule plating before c) refl refl (sym (ap (λ o. add_unless o before c) (rules_are profile plating before c)) ∙ e)
  where
    by : (o p : Option Reason) → broken_rule_in profile before c ≡ o → own_rule plating before c ≡ p → add_unless (option_or o p) before c ≡ Ok new → (add_unless (broken_rule_in profile before c) before c ≡ Ok new) × (IsLegal (own_rule plating) before → IsLegal (own_rule plating) new)
    by None None is own k =
        let same : before ++ c ∷ [] ≡ new = cc in
        (ap (λ o. add_unless o before c) is ∙ k, λ legal. subst (IsLegal (own_rule plating)) same (violations-more (own_rule plating) before c legal own))
    by None (Some r) is own k = absurd cc
    by (Some r) p is own k = absurd cc

-- a command of a file whose role is believed leaves the same in another kind, if it breaks no rule of that
judged_back : (profile : Profile) (plating : PlatingKind) (before : List DrillCommand) (command : Option DrillCommand) (new : List DrillCommand) → checked_by (broken_rule_in profile) before command ≡ Ok new → IsLegal (own_rule plating) new → checked_by (rule_in profile plating) before command ≡ Ok new
judged_back profile plating before None new e legal = e
judged_back profile plating before (Some c) new e legal = by (broken_rule_in profile before c) refl e
  where
    by : (o : Option Reason) → broken_rule_in profile before c ≡ o → add_unless o before c ≡ Ok new → add_unless (rule_in profile plating before c) before c ≡ Ok new
    by None is k =
        let same : before ++ c ∷ [] ≡ new = cc in
        let own : own_rule plating before c ≡ None = last_keeps (own_rule plating) before c (subst (IsLegal (own_rule plating)) (sym same) legal) in
        ap (λ o. add_unless o before c) (rules_are profile plating before c ∙ (λ i. option_or (is i) (own i))) ∙ k
    by (Some r) is k = absurd cc

-- what further commands leave
all_same : (profile : Profile) (plating : PlatingKind) (before cs new : List DrillCommand) → checked_all (rule_in profile plating) before cs ≡ Ok new
    → (checked_all (broken_rule_in profile) before cs ≡ Ok new) × (IsLegal (own_rule plating) before → IsLegal (own_rule plating) new)
all_same profile plating before [] new e = let same : before ≡ new = cc in (e, λ legal. subst (IsLegal (own_rule plating)) same legal)
all_same profile plating before (c ∷ cs) new e =
    let b = bind_ok (checked_by (rule_in profile plating) before (Some c)) (λ taken. checked_all (rule_in profile plating) taken cs) new e in
    let first = judged_same profile plating before (Some c) b.0 b.1 in
    let rest = all_same profile plating b.0 cs new b.2 in
    (ap (λ r. r >>= λ taken. checked_all (broken_rule_in profile) taken cs) first.0 ∙ rest.0, λ legal. rest.1 (first.1 legal))

all_back : (profile : Profile) (plating : PlatingKind) (before cs new : List DrillCommand) → checked_all (broken_rule_in profile) before cs ≡ Ok new → IsLegal (own_rule plating) new → checked_all (rule_in profile plating) before cs ≡ Ok new
all_back profile plating before [] new e legal = e
all_back profile plating before (c ∷ cs) new e legal =
    let own = own_rule plating in
    let b = bind_ok (checked_by (broken_rule_in profile) before (Some c)) (λ taken. checked_all (broken_rule_in profile) taken cs) new e in
    let now : IsLegal own b.0 = legal_start own b.0 cs (subst (IsLegal own) (sym (all_ok profile b.0 cs new b.2).0) legal) in
    ap (λ r. r >>= λ taken. checked_all (rule_in profile plating) taken cs) (judged_back profile plating before (Some c) b.0 b.1 now) ∙ all_back profile plating b.0 cs new b.2 legal

-- what a line is judged as, by how it repeats a hit and by what it spells else
judged_line : (List DrillCommand → DrillCommand → Option Reason) → List DrillCommand → Option (Result Repeat Reason) → Result (Option DrillCommand) Reason → Result (List DrillCommand) Reason
judged_line rule before row spelt = unwrap_or (option_map (checked_repeat rule before) row) (spelt >>= checked_by rule before)

line_judged_same : (profile : Profile) (plating : PlatingKind) (before : List DrillCommand) (row : Option (Result Repeat Reason)) (spelt : Result (Option DrillCommand) Reason) (new : List DrillCommand) → judged_line (rule_in profile plating) before row spelt ≡ Ok new
    → (judged_line (broken_rule_in profile) before row spelt ≡ Ok new) × (IsLegal (own_rule plating) before → IsLegal (own_rule plating) new)
unfolding judged_line
line_judged_same profile plating before None spelt new e =
    let b = bind_ok spelt (checked_by (rule_in profile plating) before) new e in
    let j = judged_same profile plating before b.0 new b.2 in
    (ap (λ m. m >>= checked_by (broken_rule_in profile) before) b.1 ∙ j.0, j.1)
line_judged_same profile plating before (Some read) spelt new e =
    let b = bind_ok read (λ repeat. checked_all (rule_in profile plating) before (further_hits before repeat)) new e in
    let j = all_same profile plating before (further_hits before b.0) new b.2 in
    (ap (checked_repeat (broken_rule_in profile) before) b.1 ∙ j.0, j.1)

line_judged_back : (profile : Profile) (plating : PlatingKind) (before : List DrillCommand) (row : Option (Result Repeat Reason)) (spelt : Result (Option DrillCommand) Reason) (new : List DrillCommand) → judged_line (broken_rule_in profile) before row spelt ≡ Ok new
    → IsLegal (own_rule plating) new → judged_line (rule_in profile plating) before row spelt ≡ Ok new
unfolding judged_line
line_judged_back profile plating before None spelt new e legal =
    let b = bind_ok spelt (checked_by (broken_rule_in profile) before) new e in
    ap (λ m. m >>= checked_by (rule_in profile plating) before) b.1 ∙ judged_back profile plating before b.0 new b.2 legal
line_judged_back profile plating before (Some read) spelt new e legal =
    let b = bind_ok read (λ repeat. checked_all (broken_rule_in profile) before (further_hits before repeat)) new e in
    ap (checked_repeat (rule_in profile plating) before) b.1 ∙ all_back profile plating before (further_hits before b.0) new b.2 legal

line_judged_more : (profile : Profile) (before : List DrillCommand) (row : Option (Result Repeat Reason)) (spelt : Result (Option DrillCommand) Reason) (new : List DrillCommand) → judged_line (broken_rule_in profile) before row spelt ≡ Ok new → (more : List DrillCommand) × (before ++ more ≡ new)
unfolding judged_line
line_judged_more profile before None spelt new e = let b = bind_ok spelt (checked_by (broken_rule_in profile) before) new e in (option_to_list b.0, (judged_ok profile before b.0 new b.2).0)
line_judged_more profile before (Some read) spelt new e =
    let b = bind_ok read (λ repeat. checked_all (broken_rule_in profile) before (further_hits before repeat)) new e in
    (further_hits before b.0, (all_ok profile before (further_hits before b.0) new b.2).0)

module _ (kind : Kind) where
  abbrev own : List DrillCommand → DrillCommand → Option Reason
  own = own_rule kind.plating

  abbrev bare : Kind
  bare = by_role kind.profile kind.format

  -- ---- one line

  step_same : (earlier : List (List ℕ)) (line : List ℕ) (before new : List DrillCommand) → step_in kind earlier before line ≡ Ok new → (step_in bare earlier before line ≡ Ok new) × (IsLegal own before → IsLegal own new)
  unfolding step_in judged_line
  step_same earlier line before new e =
      let row = repeat_after kind.profile earlier before line in
      let spelt = meaning_in kind.profile (map without_end_blanks earlier) (settings_after before) (without_end_blanks line) in
      let g = guarded (ltb line_limit (length line)) TooLong (judged_line (rule_in kind.profile kind.plating) before row spelt) new e in
      let j = line_judged_same kind.profile kind.plating before row spelt new g.1 in
      (ap (λ t. cond t (Err TooLong) (judged_line (broken_rule_in kind.profile) before row spelt)) g.0 ∙ j.0, j.1)

  step_back : (earlier : List (List ℕ)) (line : List ℕ) (before new : List DrillCommand) → step_in bare earlier before line ≡ Ok new → IsLegal own new → step_in kind earlier before line ≡ Ok new
  unfolding step_in judged_line
  step_back earlier line before new e legal =
      let row = repeat_after kind.profile earlier before line in
      let spelt = meaning_in kind.profile (map without_end_blanks earlier) (settings_after before) (without_end_blanks line) in
      let g = guarded (ltb line_limit (length line)) TooLong (judged_line (broken_rule_in kind.profile) before row spelt) new e in
      ap (λ t. cond t (Err TooLong) (judged_line (rule_in kind.profile kind.plating) before row spelt)) g.0 ∙ line_judged_back kind.profile kind.plating before row spelt new g.1 legal

  -- what a line leaves begins with what stood before it
  step_more : (earlier : List (List ℕ)) (line : List ℕ) (before new : List DrillCommand) → step_in bare earlier before line ≡ Ok new → (more : List DrillCommand) × (before ++ more ≡ new)
  unfolding step_in judged_line
  step_more earlier line before new e =
      let row = repeat_after kind.profile earlier before line in
      let spelt = meaning_in kind.profile (map without_end_blanks earlier) (settings_after before) (without_end_blanks line) in
      let g = guarded (ltb line_limit (length line)) TooLong (judged_line (broken_rule_in kind.profile) before row spelt) new e in
      line_judged_more kind.profile before row spelt new g.1

  line_same : (earlier : List (List ℕ)) (line : List ℕ) (before new : List DrillCommand) → spelled_in kind earlier line before ≡ Ok new → (spelled_in bare earlier line before ≡ Ok new) × (IsLegal own before → IsLegal own new)
  line_same earlier line before new e =
      let k = step_same earlier line before new (at_ok (suc (length earlier)) (length (bytes_of earlier)) (step_in kind earlier before line) new e) in
      (ap (with_place (suc (length earlier)) (length (bytes_of earlier))) k.0, k.1)

  line_back : (earlier : List (List ℕ)) (line : List ℕ) (before new : List DrillCommand) → spelled_in bare earlier line before ≡ Ok new → IsLegal own new → spelled_in kind earlier line before ≡ Ok new
  line_back earlier line before new e legal =
      ap (with_place (suc (length earlier)) (length (bytes_of earlier))) (step_back earlier line before new (at_ok (suc (length earlier)) (length (bytes_of earlier)) (step_in bare earlier before line) new e) legal)

  -- ---- lines

  lines_same : (earlier lines : List (List ℕ)) (before new : List DrillCommand) → commands_by kind earlier lines before ≡ Ok new → (commands_by bare earlier lines before ≡ Ok new) × (IsLegal own before → IsLegal own new)
  lines_same earlier [] before new e = let same : before ≡ new = cc in (e, λ legal. subst (IsLegal own) same legal)
  lines_same earlier (line ∷ lines) before new e =
      let next : List (List ℕ) = earlier ++ line ∷ [] in
      let b = bind_ok (spelled_in kind earlier line before) (commands_by kind next lines) new e in
      let first = line_same earlier line before b.0 b.1 in
      let rest = lines_same next lines b.0 new b.2 in
      (ap (λ r. r >>= commands_by bare next lines) first.0 ∙ rest.0, λ legal. rest.1 (first.1 legal))

  lines_more : (earlier lines : List (List ℕ)) (before new : List DrillCommand) → commands_by bare earlier lines before ≡ Ok new → (more : List DrillCommand) × (before ++ more ≡ new)
  lines_more earlier [] before new e = let same : before ≡ new = cc in ([], append-nil before ∙ same)
  lines_more earlier (line ∷ lines) before new e =
      let next : List (List ℕ) = earlier ++ line ∷ [] in
      let b = bind_ok (spelled_in bare earlier line before) (commands_by bare next lines) new e in
      let first = step_more earlier line before b.0 (at_ok (suc (length earlier)) (length (bytes_of earlier)) (step_in bare earlier before line) b.0 b.1) in
      let rest = lines_more next lines b.0 new b.2 in
      (first.0 ++ rest.0, sym (append_assoc before first.0 rest.0) ∙ (ap (λ (l : List DrillCommand). l ++ rest.0) first.1 ∙ rest.1))

  lines_back : (earlier lines : List (List ℕ)) (before new : List DrillCommand) → commands_by bare earlier lines before ≡ Ok new → IsLegal own new → commands_by kind earlier lines before ≡ Ok new
  lines_back earlier [] before new e legal = e
  lines_back earlier (line ∷ lines) before new e legal =
      let next : List (List ℕ) = earlier ++ line ∷ [] in
      let b = bind_ok (spelled_in bare earlier line before) (commands_by bare next lines) new e in
      let more = lines_more next lines b.0 new b.2 in
      let now : IsLegal own b.0 = legal_start own b.0 more.0 (subst (IsLegal own) (sym more.1) legal) in
      ap (λ r. r >>= commands_by kind next lines) (line_back earlier line before b.0 b.1 now) ∙ lines_back next lines b.0 new b.2 legal

  rest_same : (lines : List (List ℕ)) (rest : List ℕ) (before new : List DrillCommand) → with_rest kind lines rest before ≡ Ok new → (with_rest bare lines rest before ≡ Ok new) × (IsLegal own before → IsLegal own new)
  rest_same lines [] before new e = let same : before ≡ new = cc in (e, λ legal. subst (IsLegal own) same legal)
  rest_same lines (b ∷ bs) before new e = line_same lines (b ∷ bs) before new e

  rest_more : (lines : List (List ℕ)) (rest : List ℕ) (before new : List DrillCommand) → with_rest bare lines rest before ≡ Ok new → (more : List DrillCommand) × (before ++ more ≡ new)
  rest_more lines [] before new e = let same : before ≡ new = cc in ([], append-nil before ∙ same)
  rest_more lines (b ∷ bs) before new e = step_more lines (b ∷ bs) before new (at_ok (suc (length lines)) (length (bytes_of lines)) (step_in bare lines before (b ∷ bs)) new e)

  rest_back : (lines : List (List ℕ)) (rest : List ℕ) (before new : List DrillCommand) → with_rest bare lines rest before ≡ Ok new → IsLegal own new → with_rest kind lines rest before ≡ Ok new
  rest_back lines [] before new e legal = e
  rest_back lines (b ∷ bs) before new e legal = line_back lines (b ∷ bs) before new e legal

-- ---- texts

kind_is_read : (kind : Kind) (text : List ℕ) (cs : List DrillCommand) → ReadsBy kind text (Ok cs) → ReadsBy (by_role kind.profile kind.format) text (Ok cs) × IsLegal (own_rule kind.plating) cs
kind_is_read kind text cs r =
    let e = ending kind text cs r in
    let all = lines_same kind [] e.lines (said_first kind.format) e.first e.shown in
    let last = rest_same kind e.lines e.rest e.first cs e.last in
    (read_alike kind (by_role kind.profile kind.format) text cs e all.0 last.0, last.1 (all.1 (said_is_own kind.plating kind.format)))

read_is_kind : (kind : Kind) (text : List ℕ) (cs : List DrillCommand) → ReadsBy (by_role kind.profile kind.format) text (Ok cs) × IsLegal (own_rule kind.plating) cs → ReadsBy kind text (Ok cs)
read_is_kind kind text cs (r, legal) =
    let rule = own_rule kind.plating in
    let e = ending (by_role kind.profile kind.format) text cs r in
    let more = rest_more kind e.lines e.rest e.first cs e.last in
    let now : IsLegal rule e.first = legal_start rule e.first more.0 (subst (IsLegal rule) (sym more.1) legal) in
    read_alike (by_role kind.profile kind.format) kind text cs e (lines_back kind [] e.lines (said_first kind.format) e.first e.shown now) (rest_back kind e.lines e.rest e.first cs e.last legal)

pub kinds_read_the_same : KindsReadTheSame
kinds_read_the_same kind text cs = (kind_is_read kind text cs, read_is_kind kind text cs)

-- ---- unplated files

-- the rule is kept by commands, whatever stands before them
AreUncalled : List DrillCommand → List DrillCommand → Type 0
AreUncalled before cs = filter_map (violation_at contradiction_rule) (with_prefixes_from before cs) ≡ []

uncalled : (before cs : List DrillCommand) → AreUncalled before cs → list_any calls_plated cs ≡ false
unfolding AreUncalled
uncalled before [] e = refl
uncalled before (c ∷ cs) e =
    let parts = legal_parts (length before) (contradiction_rule before c) (filter_map (violation_at contradiction_rule) (with_prefixes_from (before ++ c ∷ []) cs)) e in
    by (calls_plated c) parts.0 (uncalled (before ++ c ∷ []) cs parts.1)
  where
    by : (t : Bool) → cond t (Some PlatingConflict) None ≡ None → list_any calls_plated cs ≡ false → (t || list_any calls_plated cs) ≡ false
    by true e rest = absurd cc
    by false e rest = rest

legally : (before cs : List DrillCommand) → list_any calls_plated cs ≡ false → AreUncalled before cs
unfolding AreUncalled
legally before [] e = refl
legally before (c ∷ cs) e = by (calls_plated c) e (legally (before ++ c ∷ []) cs)
  where
    by : (t : Bool) → (t || list_any calls_plated cs) ≡ false → (list_any calls_plated cs ≡ false → AreUncalled (before ++ c ∷ []) cs)
        → cons_option (option_map (λ (r : Reason). (length before, r)) (cond t (Some PlatingConflict) None)) (filter_map (violation_at contradiction_rule) (with_prefixes_from (before ++ c ∷ []) cs)) ≡ []
    by true e rest = absurd cc
    by false e rest = rest e

pub uncontradicted_is_legal : UncontradictedIsLegal
unfolding AreUncalled
uncontradicted_is_legal commands = (uncalled [] commands, legally [] commands)
