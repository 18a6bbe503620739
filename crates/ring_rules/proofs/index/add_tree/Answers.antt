use Rattle.ring_rules.proofs.Common.{ℕ, List, inl, inr, cases_lt, Spot}
use Rattle.ring_rules.proofs.FoundPlaces.{found_both, listed_still}
use Rattle.ring_rules.proofs.index.add_tree.Goals as goal

pub loop-i-preserved : goal.loop-i-preserved
loop-i-preserved c =
    let spots : List Spot = c.args.cells.now.spots in
    let was : List ℕ = c.loop-i.found.items in
    let now : List ℕ = c.add_node.new.found.items in
    record {
      adds = found_both spots c.args.zone.now c.args.found.now.items was now c.loop-i.invariant.adds c.in_ok-next.ensures.adds;
      listed = λ k from below inside. elim (cases_lt k c.loop-i.start) [
        | inl less ↦ listed_still spots c.args.zone.now k was now c.in_ok-next.ensures.adds (c.loop-i.invariant.listed k from less inside)
        | inr more ↦ c.in_ok-next.ensures.listed k more below inside
      ];
    }

pub returns-clause-adds : goal.returns-clause-adds
returns-clause-adds c = found_both c.args.cells.now.spots c.args.zone.now c.args.found.now.items c.loop-i.found.items c.add_run.new.found.items c.loop-i.invariant.adds c.in_ok-add_run.ensures.adds

pub returns-clause-listed : goal.returns-clause-listed
returns-clause-listed c = λ k from below. elim (cases_lt k c.loop-i.start) [
  | inl less ↦ listed_still c.args.cells.now.spots c.args.zone.now k c.loop-i.found.items c.add_run.new.found.items c.in_ok-add_run.ensures.adds (c.loop-i.invariant.listed k from less below)
  | inr more ↦ c.in_ok-add_run.ensures.listed k more below
]
