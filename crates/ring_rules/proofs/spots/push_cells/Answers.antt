use Rattle.ring_rules.proofs.Common.{◌≡◌, ℕ, ◌+◌, ◌∷◌, [], ◌++◌, List, length, sym, ap, subst, ◌∙◌, cell_of, AreSpotted, Spot}
use Rattle.ring_rules.proofs.SpotLemmas.{spotted_none, spotted_more}
use Rattle.ring_rules.proofs.spots.push_cells.Goals as goal

pub loop-cell-init : goal.loop-cell-init
loop-cell-init c =
    let cell = cell_of c.args.chains.now.x c.args.chains.now.y in
    subst (λ (xs : List ℕ). AreSpotted cell c.args.holes.now 0 xs c.args.spots.now) (sym (c.in_ok-push.ensures.items ∙ (λ i. c.requires.starts i ++ 0 ∷ [])))
    (subst (λ (xs : List Spot). AreSpotted cell c.args.holes.now 0 (0 ∷ []) xs) (sym c.requires.spots) (spotted_none cell c.args.holes.now))

pub loop-cell-preserved : goal.loop-cell-preserved
loop-cell-preserved c =
    let cell = cell_of c.args.chains.now.x c.args.chains.now.y in
    let now : List Spot = c.push_cell.new.spots in
    let start : c.push-in-loop-cell.new.self.items ≡ c.loop-cell.starts.items ++ length c.push_cell.new.spots ∷ [] = c.in_ok-push-2.ensures.items ∙ ap (λ (n : ℕ). c.loop-cell.starts.items ++ n ∷ []) (c.in_ok-start.ensures ∙ c.len.ensures) in
    subst (λ (xs : List ℕ). AreSpotted cell c.args.holes.now (c.loop-cell.cell + 1) xs now) (sym start)
    (spotted_more cell c.args.holes.now c.loop-cell.cell c.loop-cell.starts.items c.loop-cell.spots now c.loop-cell.invariant c.in_ok-push_cell.ensures.adds c.in_ok-push_cell.ensures.all)
