-- The flashes that were held count among those that were taken.
use Rattle.layer_state.proofs.Common.{◌++◌, List, ap, ◌∙◌, append-nil, Flash}
use Rattle.layer_state.proofs.flashes.Flashes.clear_flashes.Goals as goal

pub returns-clause-gone : goal.returns-clause-gone
returns-clause-gone c parts flashes h =
    let dropped = parts.dropped ++ c.args.self.now.all.items in
    record { same = h.same; count = h.count; others = h.others; pads = h.pads; all = ap (λ (l : List Flash). dropped ++ l) c.clear.ensures.items ∙ append-nil dropped ∙ h.all }
