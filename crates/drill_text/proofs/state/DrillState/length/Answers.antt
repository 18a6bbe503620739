use Rattle.drill_text.proofs.Common.{ℤ, Option, sym, ap, ◌∙◌, within_limit, coordinate_in, unit_or}
use Rattle.drill_text.proofs.DiameterLemmas.{no_length}
use Rattle.drill_text.proofs.state.DrillState.length.Goals as goal

pub returns-in-None : goal.returns-in-None
returns-in-None c =
    let unit = unit_or c.args.self.now.settings.unit in
    no_length unit ∙ ap (λ (v : Option ℤ). within_limit (coordinate_in unit v)) (sym c.in-None.is ∙ c.get.ensures)
