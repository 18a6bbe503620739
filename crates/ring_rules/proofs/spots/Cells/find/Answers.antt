use Rattle.ring_rules.proofs.Common.{ℕ, List, subst, AddsFound}
use Rattle.ring_rules.proofs.FoundPlaces.{all_found}
use Rattle.ring_rules.proofs.spots.Cells.find.Goals as goal

pub returns-clause-found : goal.returns-clause-found
returns-clause-found c =
    all_found c.args.self.now.spots c.args.zone.now c.add_rows.new.found.items (subst (λ (xs : List ℕ). AddsFound c.args.self.now.spots c.args.zone.now xs c.add_rows.new.found.items) c.clear.ensures.items c.in_ok-add_rows.ensures.adds)
