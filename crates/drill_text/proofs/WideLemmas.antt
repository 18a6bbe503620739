-- A text that is read in the strict profile is read alike in the wide one.
use Rattle.drill_text.proofs.Common.{◌≡◌, ℕ, suc, Bool, true, false, cond, ltb, List, [], ◌∷◌, ◌++◌, length, map, Option, None, Some, Ok, Err, refl, sym, ap, subst, ◌∙◌, append_assoc, append-nil, Reason, TooLong, ◌>>=◌, with_place, bind_ok, line_limit, DrillCommand, Strict, Wide, without_end_blanks, meaning, machine_after, wide_meaning, IsFree, bytes_of, settings_after, state_after, broken_rule, defines_alike, Reads, ReadsIn, add_unless, commands_by, plain, spelled_in, step_in, with_rest, checked_by, broken_rule_in, unwrap_or, option_map, ends_in_hit, checked_repeat, repeat_after}
use Rattle.drill_lines.specs.declared.route.Machine.TheVariants as machine
use Rattle.drill_lines.proofs.RepeatLemmas.{none_repeated}
use Rattle.drill_lines.proofs.RouteLemmas.{strict_line}
use Rattle.drill_text.proofs.SpelledLemmas.{trimmed_more}
use Rattle.drill_text.proofs.ProfileLemmas.{at_ok, ending, guarded, read_alike}

-- no line of a route is due after these lines, and the machine drills
record IsDrilling (earlier : List (List ℕ)) : Type 0 where
  free : IsFree (map without_end_blanks earlier)
  drills : machine_after (map without_end_blanks earlier) ≡ machine.Drilling

-- a command that breaks no rule in the strict profile breaks none in the wide one
judged_alike : (before : List DrillCommand) (command : Option DrillCommand) (cs : List DrillCommand) → checked_by (broken_rule_in Strict) before command ≡ Ok cs → checked_by (broken_rule_in Wide) before command ≡ Ok cs
judged_alike before None cs e = e
judged_alike before (Some c) cs e = by (broken_rule before c) (defines_alike (state_after before) c) e
  where
    by : (o : Option Reason) (t : Bool) → add_unless o before c ≡ Ok cs → add_unless (cond t None o) before c ≡ Ok cs
    by None true k = k
    by None false k = k
    by (Some r) t k = absurd cc

step_alike : (earlier : List (List ℕ)) (line : List ℕ) (before cs : List DrillCommand) → IsDrilling earlier → step_in (plain Strict) earlier before line ≡ Ok cs → (step_in (plain Wide) earlier before line ≡ Ok cs) × IsDrilling (earlier ++ line ∷ [])
unfolding step_in
step_alike earlier line before cs h e =
    let s = settings_after before in
    let g = guarded (ltb line_limit (length line)) TooLong (meaning s (without_end_blanks line) >>= checked_by (broken_rule_in Strict) before) cs e in
    let b = bind_ok (meaning s (without_end_blanks line)) (checked_by (broken_rule_in Strict) before) cs g.1 in
    let k = strict_line s (map without_end_blanks earlier) (without_end_blanks line) b.0 h.free h.drills b.1 in
    let same : map without_end_blanks earlier ++ without_end_blanks line ∷ [] ≡ map without_end_blanks (earlier ++ line ∷ []) = sym (trimmed_more earlier line) in (
      ap (λ t. cond t (Err TooLong) (unwrap_or (option_map (checked_repeat (broken_rule_in Wide) before) (repeat_after Wide earlier before line)) (wide_meaning (map without_end_blanks earlier) s (without_end_blanks line) >>= checked_by (broken_rule_in Wide) before))) g.0
          ∙ ((λ i. unwrap_or (option_map (checked_repeat (broken_rule_in Wide) before) (none_repeated Wide (ends_in_hit before) (map without_end_blanks earlier) s (without_end_blanks line) b.0 k.0 i)) (k.0 i >>= checked_by (broken_rule_in Wide) before)) ∙ judged_alike before b.0 cs b.2),
      record { free = subst IsFree same k.1.0; drills = ap machine_after (sym same) ∙ k.1.1 },
    )

line_alike : (earlier : List (List ℕ)) (line : List ℕ) (before cs : List DrillCommand) → IsDrilling earlier → spelled_in (plain Strict) earlier line before ≡ Ok cs → (spelled_in (plain Wide) earlier line before ≡ Ok cs) × IsDrilling (earlier ++ line ∷ [])
line_alike earlier line before cs h e =
    let k = step_alike earlier line before cs h (at_ok (suc (length earlier)) (length (bytes_of earlier)) (step_in (plain Strict) earlier before line) cs e) in
    (ap (with_place (suc (length earlier)) (length (bytes_of earlier))) k.0, k.1)

lines_alike : (earlier lines : List (List ℕ)) (before cs : List DrillCommand) → IsDrilling earlier → commands_by (plain Strict) earlier lines before ≡ Ok cs → (commands_by (plain Wide) earlier lines before ≡ Ok cs) × IsDrilling (earlier ++ lines)
lines_alike earlier [] before cs h e = (e, subst IsDrilling (sym (append-nil earlier)) h)
lines_alike earlier (line ∷ lines) before cs h e =
    let next : List (List ℕ) = earlier ++ line ∷ [] in
    let b = bind_ok (spelled_in (plain Strict) earlier line before) (commands_by (plain Strict) next lines) cs e in
    let first = line_alike earlier line before b.0 h b.1 in
    let rest = lines_alike next lines b.0 cs first.1 b.2 in
    (ap (λ r. r >>= commands_by (plain Wide) next lines) first.0 ∙ rest.0, subst IsDrilling (append_assoc earlier (line ∷ []) lines) rest.1)

rest_alike : (lines : List (List ℕ)) (rest : List ℕ) (before cs : List DrillCommand) → IsDrilling lines → with_rest (plain Strict) lines rest before ≡ Ok cs → with_rest (plain Wide) lines rest before ≡ Ok cs
rest_alike lines [] before cs h e = e
rest_alike lines (b ∷ bs) before cs h e = (line_alike lines (b ∷ bs) before cs h e).0

pub wide_reads : (text : List ℕ) (cs : List DrillCommand) → Reads text (Ok cs) → ReadsIn Wide text (Ok cs)
wide_reads text cs reads =
    let e = ending (plain Strict) text cs reads in
    let all = lines_alike [] e.lines [] e.first (record { free = (refl, refl, refl); drills = refl }) e.shown in
    read_alike (plain Strict) (plain Wide) text cs e all.0 (rest_alike e.lines e.rest e.first cs all.1 e.last)
