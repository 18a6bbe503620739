-- The pads that were held count among those that were taken.
use Rattle.layer_state.proofs.Common.{◌++◌, List, ap, ◌∙◌, append-nil}
use Rattle.pad_shapes.specs.declared.pad.Pad.{Pad}
use Rattle.layer_state.proofs.flashes.Flashes.clear_pads.Goals as goal

pub returns-clause-gone : goal.returns-clause-gone
returns-clause-gone c parts flashes h =
    let taken = parts.taken ++ c.args.self.now.pads.items in
    record { same = h.same; count = h.count; others = h.others; pads = ap (λ (l : List Pad). taken ++ l) c.clear.ensures.items ∙ append-nil taken ∙ h.pads; all = h.all }
