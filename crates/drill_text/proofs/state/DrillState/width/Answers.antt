use Rattle.drill_text.proofs.Common.{ℤ, Result, nat_eq, sym, subst, ap, ◌∙◌, IfOk, Reason, option_map, get, unit_or, diameter_of_tool, IsWidth, width_with}
use Rattle.drill_text.proofs.DiameterLemmas.{width_held}
use Rattle.drill_text.proofs.PlatingLemmas.{mapped_then}
use Rattle.drill_text.proofs.state.DrillState.width.Goals as goal

pub returns-clause-exact : goal.returns-clause-exact
returns-clause-exact c =
    let s = c.args.self.now in
    s.width_is ∙ ap (width_with (unit_or s.settings.unit) s.tool) (ap (option_map diameter_of_tool) s.picked_is ∙ mapped_then diameter_of_tool (get nat_eq s.tools) s.tool)

pub returns-clause-range : goal.returns-clause-range
returns-clause-range c = subst (λ (r : Result ℤ Reason). IfOk r IsWidth) (sym c.args.self.now.width_is) (width_held _ _ _)
