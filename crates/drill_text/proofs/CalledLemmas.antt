-- What the holes of a mixed file are called, and what is listed of them.
use Rattle.drill_text.proofs.Common.{and_false_right, or_is_false, ◌≡◌, ℕ, suc, Bool, true, false, cond, ◌&&◌, List, [], ◌∷◌, ◌++◌, length, Option, None, Some, is_some, unwrap_or, refl, sym, ap, ◌∙◌, filter, filter_map, flat_map, list_any, AllZip, option_and_then, last_set, violation_at, with_prefixes_from, NoPlating, Redefined, DrillCommand, holes_at, ends_header, tool_set, IsCalled, is_plated, is_unsaid, lacks_plating, plated_at, plating_after, plating_of_tool, plating_rule, plating_set, redefines_plating, said_after, drills}
use Rattle.drill_lines.specs.declared.command.DrillCommand.TheVariants as command
use Rattle.drill_lines.specs.declared.plating.Plating.{Plating}
use Rattle.drill_lines.specs.declared.plating.Plating.TheVariants.{Plated, Unplated, Unsaid}
use Rattle.drill_text.specs.MixedLaws.{CalledIsListed, ListedIsCalled, OneForEach}
use Rattle.drill_text.proofs.SpellsTextLemmas.{legal_parts}

-- ---- one hole

-- a rule that is kept is not broken
kept : (s t : Bool) → cond s (Some Redefined) (cond t (Some NoPlating) None) ≡ None → t ≡ false
kept true t e = absurd cc
kept false true e = absurd cc
kept false false e = refl

called_tool : (before : List DrillCommand) (o : Option ℕ) (q : Option Plating) → last_set tool_set before ≡ o → option_and_then (plating_of_tool before) o ≡ q → is_unsaid (unwrap_or q Unsaid) ≡ false → IsCalled before (is_plated (unwrap_or q Unsaid))
called_tool before None None is e h = absurd cc
called_tool before None (Some q) is e h = absurd cc
called_tool before (Some tool) None is e h = absurd cc
called_tool before (Some tool) (Some Plated) is e h = record { tool = tool; tool_picked = is; called = e }
called_tool before (Some tool) (Some Unplated) is e h = record { tool = tool; tool_picked = is; called = e }
called_tool before (Some tool) (Some Unsaid) is e h = absurd cc

called_now : (before : List DrillCommand) (c : DrillCommand) → drills c ≡ true → plating_rule before c ≡ None → IsCalled before (is_plated (plating_after before))
called_now before c drilled legal =
    let said = or_is_false (drills c && is_unsaid (plating_after before)) (is_some (plating_set c) && list_any ends_header before) (kept (redefines_plating (said_after before) (plating_of_tool before) c) (lacks_plating before c) legal) in
    called_tool before (last_set tool_set before) (option_and_then (plating_of_tool before) (last_set tool_set before)) refl refl (and_false_right (drills c) (is_unsaid (plating_after before)) drilled said.0)

listed_now : (before : List DrillCommand) (plated : Bool) → IsCalled before plated → plated ≡ is_plated (plating_after before)
listed_now before true h = sym (ap (λ o. is_plated (unwrap_or (option_and_then (plating_of_tool before) o) Unsaid)) h.tool_picked ∙ ap (λ o. is_plated (unwrap_or o Unsaid)) h.called)
listed_now before false h = sym (ap (λ o. is_plated (unwrap_or (option_and_then (plating_of_tool before) o) Unsaid)) h.tool_picked ∙ ap (λ o. is_plated (unwrap_or o Unsaid)) h.called)

-- ---- all holes

-- what the holes of the commands that are left are called
AreCalledAfter : List DrillCommand → List DrillCommand → List Bool → Type 0
AreCalledAfter before cs plated = AllZip (λ (p : List DrillCommand × DrillCommand) (called : Bool). IsCalled p.0 called) (filter (λ (p : List DrillCommand × DrillCommand). drills p.1) (with_prefixes_from before cs)) plated

plated_from : List DrillCommand → List DrillCommand → List Bool
plated_from before cs = flat_map (λ (p : List DrillCommand × DrillCommand). plated_at p.0 p.1) (with_prefixes_from before cs)

called_from : (before cs : List DrillCommand) → filter_map (violation_at plating_rule) (with_prefixes_from before cs) ≡ [] → AreCalledAfter before cs (plated_from before cs)
unfolding AreCalledAfter plated_from
called_from before [] legal = tt
called_from before (c ∷ cs) legal =
    let parts = legal_parts (length before) (plating_rule before c) (filter_map (violation_at plating_rule) (with_prefixes_from (before ++ c ∷ []) cs)) legal in
    by c parts.0 (called_from (before ++ c ∷ []) cs parts.1)
  where
    by : (d : DrillCommand) → plating_rule before d ≡ None → AreCalledAfter (before ++ d ∷ []) cs (plated_from (before ++ d ∷ []) cs) → AreCalledAfter before (d ∷ cs) (plated_from before (d ∷ cs))
    by (command.Hit p) legal rest = (called_now before (command.Hit p) refl legal, rest)
    by (command.Slot p q) legal rest = (called_now before (command.Slot p q) refl legal, rest)
    by d legal rest = rest

pub listed_is_called : ListedIsCalled
unfolding AreCalledAfter plated_from
listed_is_called commands legal = called_from [] commands legal

listed_from : (before cs : List DrillCommand) (plated : List Bool) → AreCalledAfter before cs plated → plated ≡ plated_from before cs
unfolding AreCalledAfter plated_from
listed_from before [] [] h = refl
listed_from before [] (x ∷ xs) h = absurd h
listed_from before (command.Hit p ∷ cs) [] h = absurd h
listed_from before (command.Hit p ∷ cs) (x ∷ xs) h = λ i. listed_now before x h.0 i ∷ listed_from (before ++ command.Hit p ∷ []) cs xs h.1 i
listed_from before (command.Slot p q ∷ cs) [] h = absurd h
listed_from before (command.Slot p q ∷ cs) (x ∷ xs) h = λ i. listed_now before x h.0 i ∷ listed_from (before ++ command.Slot p q ∷ []) cs xs h.1 i
listed_from before (c ∷ cs) plated h = listed_from (before ++ c ∷ []) cs plated h

pub called_is_listed : CalledIsListed
unfolding AreCalledAfter plated_from
called_is_listed commands plated h = listed_from [] commands plated h

-- ---- as many as holes

counted_from : (before cs : List DrillCommand) → length (flat_map (λ (p : List DrillCommand × DrillCommand). plated_at p.0 p.1) (with_prefixes_from before cs)) ≡ length (flat_map (λ (p : List DrillCommand × DrillCommand). holes_at p.0 p.1) (with_prefixes_from before cs))
counted_from before [] = refl
counted_from before (command.Hit p ∷ cs) = ap suc (counted_from (before ++ command.Hit p ∷ []) cs)
counted_from before (command.Slot p q ∷ cs) = ap suc (counted_from (before ++ command.Slot p q ∷ []) cs)
counted_from before (c ∷ cs) = counted_from (before ++ c ∷ []) cs

pub one_for_each : OneForEach
one_for_each commands = counted_from [] commands
