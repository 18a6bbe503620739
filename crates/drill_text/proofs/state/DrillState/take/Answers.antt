use Rattle.drill_text.proofs.Common.{◌≡◌, ℕ, Bool, true, false, cond, List, [], ◌∷◌, ◌++◌, Option, None, Some, is_some, nat_eq, rules, refl, sym, ap, subst, ◌∙◌, append-nil, option_map, option_map_or, map-append, get, DrillCommand, DrillState, tools_at, defines_alike, diameter_of_tool, diameters, redefines_tool, state_of}
use Rattle.std.specs.Map.{lookup}
use Rattle.std.specs.Ordering.{int_eq}
use Rattle.std.proofs.lemmas.Bool.Decides.{Decides-int_eq}
use Rattle.indexmap.specs.IndexMap.{insert_entry}
use Rattle.indexmap.proofs.CallerLemmas.{insert_entry-new}
use Rattle.drill_lines.specs.declared.command.DrillCommand.TheVariants as command
use Rattle.drill_text.specs.declared.platings.Tool.{Tool}
use Rattle.drill_text.proofs.state.DrillState.take.Goals as goal

-- a tool that is defined again with the diameter that it has leaves all as they are
same_diameters : (es : List (ℕ × Tool)) (number : ℕ) (tool old : Tool) → lookup (nat_eq number) es ≡ Some old → old.diameter ≡ tool.diameter → diameters (insert_entry nat_eq es number tool) ≡ diameters es
same_diameters [] number tool old is same = absurd cc
same_diameters (e ∷ es) number tool old is same = by (nat_eq number e.0) is (λ later. same_diameters es number tool old later same)
  where
    by : (t : Bool) → cond t (Some e.1) (lookup (nat_eq number) es) ≡ Some old → (lookup (nat_eq number) es ≡ Some old → diameters (insert_entry nat_eq es number tool) ≡ diameters es)
        → diameters (cond t ((e.0, tool) ∷ es) (e ∷ insert_entry nat_eq es number tool)) ≡ diameters (e ∷ es)
    by true is rest =
        let found : e.1 ≡ old = cc in
        let here : tool.diameter ≡ e.1.diameter = sym (ap diameter_of_tool found ∙ same) in
        λ i. (e.0, here i) ∷ diameters es
    by false is rest = λ i. (e.0, e.1.diameter) ∷ rest is i

defined : (state : DrillState) (number : ℕ) (tool : Tool) → (redefines_tool (state_of state) (command.Tool number tool.diameter) ≡ true → defines_alike (state_of state) (command.Tool number tool.diameter) ≡ true)
    → diameters (insert_entry nat_eq state.tools.entries number tool) ≡ diameters state.tools.entries ++ tools_at (state_of state).diameter (command.Tool number tool.diameter)
defined state number tool alike = by (get nat_eq state.tools number) refl alike
  where
    by : (o : Option Tool) → get nat_eq state.tools number ≡ o → (is_some (option_map diameter_of_tool o) ≡ true → option_map_or (λ earlier. int_eq earlier tool.diameter) (option_map diameter_of_tool o) false ≡ true)
        → diameters (insert_entry nat_eq state.tools.entries number tool) ≡ diameters state.tools.entries ++ cond (is_some (option_map diameter_of_tool o)) [] ((number, tool.diameter) ∷ [])
    by None is alike = ap diameters (insert_entry-new nat_eq state.tools number tool is) ∙ map-append (λ (entry : ℕ × Tool). (entry.0, diameter_of_tool entry.1)) state.tools.entries ((number, tool) ∷ [])
    by (Some old) is alike = same_diameters state.tools.entries number tool old is ((Decides-int_eq old.diameter tool.diameter).0 (alike refl)) ∙ sym (append-nil (diameters state.tools.entries))

pub returns-in_ok-insert-in-Tool : goal.returns-in_ok-insert-in-Tool
returns-in_ok-insert-in-Tool c = record {
  state_after = search rules;
  holes = search rules;
  tools = λ alike.
      let state = c.args.self.now in
      let number = c.in-Tool.number in
      let tool : Tool = record { diameter = c.in-Tool.diameter; plating = state.words.said } in
      ap diameters c.in_ok-insert-in-Tool.ensures.entries
      ∙ subst (λ (d : DrillCommand). (redefines_tool (state_of state) d ≡ true → defines_alike (state_of state) d ≡ true) → diameters (insert_entry nat_eq state.tools.entries number tool) ≡ diameters state.tools.entries ++ tools_at (state_of state).diameter d)
      (sym c.in-Tool.is) (defined state number tool) alike;
  words = search rules;
  platings = search rules;
  plated = search rules;
}
