use Rattle.ring_rules.proofs.Common.{ℕ, List, subst, cell_of, Regroups, Spot}
use Rattle.ring_rules.proofs.GroupLemmas.{adds_regrouped, has_spot_regrouped}
use Rattle.ring_rules.proofs.spots.push_cell.Goals as goal

pub returns-then-saturating_sub-gt-FEW_SPOTS-clause-adds : goal.returns-then-saturating_sub-gt-FEW_SPOTS-clause-adds
returns-then-saturating_sub-gt-FEW_SPOTS-clause-adds c =
    let chained : List Spot = c.push_chain.new.spots in
    let now : List Spot = c.group_from.new.self in
    adds_regrouped (cell_of c.args.chains.now.x c.args.chains.now.y) c.args.holes.now c.args.cell c.args.spots.now chained now c.in_ok-push_chain.ensures.adds
    (subst (λ (n : ℕ). Regroups n chained now) c.len-start.ensures c.group_from.ensures)

pub returns-then-saturating_sub-gt-FEW_SPOTS-clause-all : goal.returns-then-saturating_sub-gt-FEW_SPOTS-clause-all
returns-then-saturating_sub-gt-FEW_SPOTS-clause-all c = λ k h e.
    has_spot_regrouped c.len-start.result c.push_chain.new.spots c.group_from.new.self c.group_from.ensures k (c.in_ok-push_chain.ensures.all k h e)
