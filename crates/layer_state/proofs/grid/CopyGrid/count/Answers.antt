use Rattle.layer_state.proofs.Common.{◌*◌, sym, ◌∙◌}
use Rattle.layer_state.proofs.CopyGrids.{count_copies}
use Rattle.layer_state.proofs.grid.CopyGrid.count.Goals as goal

pub returns : goal.returns
returns c = (λ i. c.from.ensures i * c.from-2.ensures i) ∙ sym (count_copies c.args.self.now)
