-- What one more command changes of what the comments say of tools and holes.
use Rattle.drill_text.proofs.Common.{◌≡◌, ℕ, Bool, true, false, cond, ◌||◌, ◌&&◌, List, [], ◌∷◌, ◌++◌, Option, None, Some, is_some, unwrap_or, nat_eq, refl, sym, ap, ◌∙◌, option_and_then, option_map, option_or, list_any, get, last_set, with_prefixes, flat_positions-more, last_or-more, last_set-more, list_any-more, option_or_none, with_prefixes-append, NoPlating, PlatingConflict, Redefined, Profile, DrillCommand, DrillState, PlatingKind, StateView, Kind, ends_header, kept_platings, calls_plated, calls_unplated, is_unsaid, own_rule, plated_at, plating_after, plating_of_tool, plating_set, redefines_plating, rule_in, said_after, tool_made, broken_rule_in, drills, AreWordsAfter, IsStateAfter, heard, hole_rule, mark_of, own_broken, own_in, picked_plating, plates_otherwise, plating_in}
use Rattle.drill_lines.specs.declared.plating.Plating.{Plating}
use Rattle.drill_lines.specs.declared.plating.Plating.TheVariants as plating
use Rattle.drill_text.specs.declared.platings.PlatingKind.TheVariants as kinds
use Rattle.drill_text.specs.declared.platings.PlatingWords.{PlatingWords}

-- a member of what was looked up
pub mapped_then : {A B : Type 0} (f : A → B) (g : ℕ → Option A) (o : Option ℕ) → option_map f (option_and_then g o) ≡ option_and_then (λ number. option_map f (g number)) o
mapped_then f g None = refl
mapped_then f g (Some number) = refl

-- two ways of looking a tool up that agree
same_tool : (o : Option ℕ) (f g : ℕ → Option Plating) → ((number : ℕ) → f number ≡ g number) → option_and_then f o ≡ option_and_then g o
same_tool None f g same = refl
same_tool (Some number) f g same = same number

-- what is held of the picked tool is what the next hole is
pub picked_is : (state : DrillState) (kind : Kind) (before : List DrillCommand) → IsStateAfter state kind before → picked_plating state ≡ plating_after before
picked_is state kind before h =
    ap (λ o. unwrap_or (option_map plating_in o) plating.Unsaid) state.picked_is
    ∙ (ap (λ o. unwrap_or o plating.Unsaid) (mapped_then plating_in (get nat_eq state.tools) state.tool ∙ same_tool state.tool _ (plating_of_tool before) h.platings)
    ∙ ap (λ (s : StateView). unwrap_or (option_and_then (plating_of_tool before) s.tool) plating.Unsaid) h.state_after)

-- ---- one more command

pub tool_more : (before : List DrillCommand) (c : DrillCommand) (number : ℕ) → plating_of_tool (before ++ c ∷ []) number ≡ option_or (tool_made number (said_after before) c) (plating_of_tool before number)
tool_more before c number =
    let made : List DrillCommand × DrillCommand → Option Plating = λ p. tool_made number (said_after p.0) p.1 in
    ap (last_set made) (with_prefixes-append before (c ∷ [])) ∙ last_set-more made (with_prefixes before) (before, c)

pub words_more : (old : PlatingWords) (kind : Kind) (before : List DrillCommand) (c : DrillCommand) → AreWordsAfter old kind before → AreWordsAfter (heard c old) kind (before ++ c ∷ [])
words_more old kind before c h = record {
  profile_is = h.profile_is;
  kind_is = h.kind_is;
  said = ap (unwrap_or (plating_set c)) h.said ∙ sym (last_or-more plating_set plating.Unsaid before c);
  calls_plated = ap (λ b. calls_plated c || b) h.calls_plated ∙ sym (list_any-more calls_plated before c);
  calls_unplated = ap (λ b. calls_unplated c || b) h.calls_unplated ∙ sym (list_any-more calls_unplated before c);
}

no_mark : (t : Bool) (none : List Bool) → none ≡ cond t none none
no_mark true none = refl
no_mark false none = refl

pub marks_more : (kind : PlatingKind) (before : List DrillCommand) (c : DrillCommand) → kept_platings kind (before ++ c ∷ []) ≡ kept_platings kind before ++ cond (drills c) (mark_of kind (plating_after before)) []
marks_more kinds.Stated before c = no_mark (drills c) []
marks_more kinds.Unplated before c = no_mark (drills c) []
marks_more kinds.Mixed before c = flat_positions-more plated_at before c

-- ---- rules

-- the rules of every file are asked first, then the own one of the kind
pub rules_are : (profile : Profile) (kind : PlatingKind) (before : List DrillCommand) (c : DrillCommand) → rule_in profile kind before c ≡ option_or (broken_rule_in profile before c) (own_rule kind before c)
rules_are profile kinds.Stated before c = sym (option_or_none (broken_rule_in profile before c))
rules_are profile kinds.Unplated before c = refl
rules_are profile kinds.Mixed before c = refl

own_is : (kind : PlatingKind) (before : List DrillCommand) (c : DrillCommand) (header_ended otherwise : Bool) (picked : Plating) → header_ended ≡ list_any ends_header before → picked ≡ plating_after before
    → otherwise ≡ redefines_plating (said_after before) (plating_of_tool before) c → own_broken kind header_ended picked otherwise c ≡ own_rule kind before c
own_is kinds.Stated before c header_ended otherwise picked e p o = refl
own_is kinds.Unplated before c header_ended otherwise picked e p o = refl
own_is kinds.Mixed before c header_ended otherwise picked e p o = λ i. own_broken kinds.Mixed (e i) (p i) (o i) c

-- the rule of its kind that a command breaks, by the fields of the state
pub same_own : (state : DrillState) (kind : Kind) (before : List DrillCommand) (c : DrillCommand) → IsStateAfter state kind before → own_in state c ≡ own_rule kind.plating before c
same_own state kind before c h =
    ap (λ k. own_broken k state.header_ended (picked_plating state) (plates_otherwise state c) c) h.words.kind_is
    ∙ own_is kind.plating before c state.header_ended (plates_otherwise state c) (picked_plating state) (ap (λ (s : StateView). s.header_ended) h.state_after) (picked_is state kind before h)
    (λ i. redefines_plating (h.words.said i) (λ number. h.platings number i) c)

unsaid_alone : (t : Bool) → cond (t || false) (Some NoPlating) None ≡ cond t (Some NoPlating) None
unsaid_alone true = refl
unsaid_alone false = refl

-- of a hole it is the rule of the picked tool
pub own_hole : (kind : PlatingKind) (header_ended otherwise : Bool) (picked : Plating) (c : DrillCommand) → drills c ≡ true → plating_set c ≡ None → calls_plated c ≡ false → otherwise ≡ false → own_broken kind header_ended picked otherwise c ≡ hole_rule kind picked
own_hole kinds.Stated header_ended otherwise picked c d p q o = refl
own_hole kinds.Unplated header_ended otherwise picked c d p q o = ap (λ t. cond t (Some PlatingConflict) None) q
own_hole kinds.Mixed header_ended otherwise picked c d p q o = (λ i. cond (o i) (Some Redefined) (cond ((d i && is_unsaid picked) || (is_some (p i) && header_ended)) (Some NoPlating) None)) ∙ unsaid_alone (is_unsaid picked)
