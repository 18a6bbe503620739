-- Only the pads are dropped.
use Rattle.layer_features.proofs.Common.{◌∙◌}
use Rattle.layer_features.proofs.copper.Copper.clear_pads.Goals as goal

pub returns-clause-gone : goal.returns-clause-gone
returns-clause-gone c keep taken commands h = record {
  state = h.state;
  rows = c.clear_pads.ensures.rows ∙ h.rows;
  kept = c.clear_pads.ensures.kept taken _ h.kept;
  asked = h.asked;
  drawn = h.drawn;
}
