use Rattle.board_report.proofs.Common.{ℕ, subst, IsRingEntryAt}
use Rattle.board_report.proofs.rings.push_at.Goals as goal

pub returns-clause-adds : goal.returns-clause-adds
returns-clause-adds c =
    let added = c.in_ok-add.ensures in
    let entry = rw added.1 at c.ring_lack.ensures in
    (added.0, subst (λ (layer : ℕ). IsRingEntryAt c.args.board.now c.args.board_data.now.rules layer c.args.hole added.0) c.in_ok-current.ensures.layer entry, added.2)
