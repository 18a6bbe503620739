use Rattle.ring_rules.proofs.Common.{ℕ, List, sym, subst, IsWithinLimits, AddsClashes}
use Rattle.ring_rules.proofs.AddedClashes.{clash_found, all_clashes}
use Rattle.ring_rules.proofs.near.clashes_in.Goals as goal

pub add_all_pairs-requires-clause-limits : goal.add_all_pairs-requires-clause-limits
add_all_pairs-requires-clause-limits c = λ i h.
    let of_list = c.requires.cells.listed.each i h in
    subst (IsWithinLimits c.args.limits) (sym of_list.same) (c.requires.limits _ of_list.listed)

pub returns-clause-sound : goal.returns-clause-sound
returns-clause-sound c =
    let now : List (ℕ × ℕ) = c.add_all_pairs.new.pairs.items in
    let adds = subst (λ (xs : List (ℕ × ℕ)). AddsClashes c.args.rules.gap c.args.cells.now.spots xs now) c.new-pairs.ensures.items c.in_ok-add_all_pairs.ensures.adds in
    all_clashes c.args.rules.gap c.args.holes.now c.args.cells.now.spots c.requires.cells.listed now adds

pub returns-clause-complete : goal.returns-clause-complete
returns-clause-complete c p clash =
    clash_found c.args.rules.gap c.args.holes.now c.args.cells.now.spots c.requires.cells.listed c.add_all_pairs.new.pairs.items p clash c.in_ok-add_all_pairs.ensures.found
