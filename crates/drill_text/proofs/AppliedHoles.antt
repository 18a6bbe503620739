-- A state that drilled knows one command more.
use Rattle.drill_text.proofs.Common.{◌≡◌, ℕ, ℤ, true, false, cond, inl, inr, List, [], ◌∷◌, ◌++◌, length, Option, None, Some, nat_eq, Result, Ok, Err, sym, ap, ◌∙◌, option_map, option_or, option_to_list, get, GridHole, ItemFail, Coordinates, DrillCommand, Kind, DrillState, tools_at, DrillPath, hole_of, diameters, calls_plated, plating_set, tool_made, drills, broken_in, own_in, state_of, IsStateAfter, AppliesOrRefuses, DrillsOrRefuses, after, heard, at_last_point, drill_path, hole_in, mark_of, picked_plating, plates_otherwise, plating_in, append-nil}
use Rattle.grid_units.specs.declared.item_fail.ItemFail.TheVariants as stops
use Rattle.drill_text.proofs.Lookbacks.{knows_more, rule_is}
use Rattle.drill_text.proofs.HoleLines.{ok_unless, unless_ok, unless_err, not_changed}
use Rattle.drill_text.proofs.PlatingLemmas.{own_hole}

-- A command that drills this, as a hit and a slot do, and says nothing.
pub record IsDrilling (state : DrillState) (c : DrillCommand) (p q : Coordinates) (d : DrillPath) : Type 0 where
  pub path : drill_path (state_of state) c ≡ Some d
  pub rule : hole_in (state_of state) (length state.holes.items) p q ≡ ok_unless (broken_in state c) (hole_of d)
  pub moves : at_last_point q (at_last_point p (state_of state)) ≡ after c (state_of state)
  pub defines : tools_at (state_of state).diameter c ≡ []
  pub otherwise : plates_otherwise state c ≡ false
  pub makes : (number : ℕ) → tool_made number state.words.said c ≡ None
  pub drilled : drills c ≡ true
  pub silent : plating_set c ≡ None
  pub unheard : calls_plated c ≡ false
  pub hears : state.words ≡ heard c state.words

pub judges_drilled : (old new : DrillState) (kind : Kind) (before : List DrillCommand) (c : DrillCommand) (p q : Coordinates) (d : DrillPath) (r : Result (Unit {0}) ItemFail)
    → IsStateAfter old kind before → IsDrilling old c p q d → DrillsOrRefuses old p q new r → AppliesOrRefuses kind before c new r
judges_drilled old new kind before c p q d (Ok x) is_state is (hole, made, marks, state_of_is, holes, plated, tools, words) =
    let u = unless_ok (broken_in old c) (hole_of d) hole (sym is.rule ∙ made) in
    let own = own_hole old.words.kind old.header_ended (plates_otherwise old c) (picked_plating old) c is.drilled is.silent is.unheard is.otherwise in (
      rule_is old kind before c is_state ∙ (λ i. option_or (u.0 i) ((own ∙ marks) i)),
      knows_more old new kind before c is_state (not_changed old.words.profile (state_of old) (length old.holes.items) (drill_path (state_of old) c) c u.0) (record {
        state_after = state_of_is ∙ is.moves;
        holes = holes ∙ (ap (λ (h : GridHole). old.holes.items ++ h ∷ []) (sym u.1) ∙ ap (λ (o : Option DrillPath). old.holes.items ++ option_to_list (option_map hole_of o)) (sym is.path));
        tools = λ _. ap (λ t. diameters t.entries) tools ∙ (sym (append-nil (diameters old.tools.entries)) ∙ ap (λ (l : List (ℕ × ℤ)). diameters old.tools.entries ++ l) (sym is.defines));
        words = words ∙ is.hears;
        platings = λ number. ap (λ t. option_map plating_in (get nat_eq t number)) tools ∙ ap (λ o. option_or o (option_map plating_in (get nat_eq old.tools number))) (sym (is.makes number));
        plated = plated ∙ ap (λ t. old.plated.items ++ cond t (mark_of old.words.kind (picked_plating old)) []) (sym is.drilled);
      }),
    )
judges_drilled old new kind before c p q d (Err (stops.Refused broken)) is_state is (inl made) =
    rule_is old kind before c is_state ∙ ap (λ o. option_or o (own_in old c)) (unless_err (broken_in old c) (hole_of d) broken (sym is.rule ∙ made))
judges_drilled old new kind before c p q d (Err (stops.Refused broken)) is_state is (inr (hole, made, own)) =
    let late = own_hole old.words.kind old.header_ended (plates_otherwise old c) (picked_plating old) c is.drilled is.silent is.unheard is.otherwise ∙ own in
    rule_is old kind before c is_state ∙ (λ i. option_or ((unless_ok (broken_in old c) (hole_of d) hole (sym is.rule ∙ made)).0 i) (late i))
judges_drilled old new kind before c p q d (Err stops.Memory) is_state is made = tt
