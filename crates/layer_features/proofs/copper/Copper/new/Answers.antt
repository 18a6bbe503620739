-- Each field is that of no commands.
use Rattle.layer_features.proofs.Common.{◌∙◌}
use Rattle.layer_features.proofs.CopperLemmas.{none_met}
use Rattle.layer_features.proofs.copper.Copper.new.Goals as goal

pub returns : goal.returns
returns c = none_met c.args.keep _ (λ i. record {
  draw = c.new.ensures i;
  parts = c.new-2.ensures.items i;
  regions = 0;
  clearing = c.none.ensures i;
}) (c.new-3.ensures.rows ∙ c.rows.ensures) c.new-3.ensures.kept (c.new-4.ensures.asked ∙ c.draws.ensures) c.new-4.ensures.parts
