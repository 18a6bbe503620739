use Rattle.ring_rules.proofs.Common.{◌≡◌, ℕ, ◌+◌, ◌<◌, List, [], ◌∷◌, ◌++◌, length, get_or, set, sym, ap, subst, ◌∙◌, arith, get_or_default, length-set, IsChained, default_hole, entry_at, cell_of, cell_at, column_of, row_of, Drilled}
use Rattle.ring_rules.proofs.ChainLemmas.{chained_more}
use Rattle.ring_rules.proofs.SpotLemmas.{in_last_row}
use Rattle.ring_rules.proofs.cells.links.Goals as goal

pub loop-drilled-preserved : goal.loop-drilled-preserved
loop-drilled-preserved c =
    let n = c.loop-drilled.drilled-index in
    let head : List ℕ = c.loop-drilled.head.items in
    let cell : ℕ → ℕ = cell_at c.args.x.now c.args.y.now c.args.holes.now in
    let drilled : Drilled = c.drilled-item.result in
    let at : ℕ = cell_of c.args.x.now c.args.y.now drilled.hole.from in
    let here : cell n ≡ at = ap (λ (d : Drilled). cell_of c.args.x.now c.args.y.now d.hole.from) (get_or_default c.args.holes.now n default_hole drilled c.loop-drilled-test.true ∙ sym c.drilled-item.is) in
    let was = c.loop-drilled.invariant.chained in
    let inside : cell n < length head = omega (arith, in_last_row (row_of c.args.y.now (entry_at c.args.holes.now n)) c.args.y.now.last (c.args.x.now.last + 1) (column_of c.args.x.now (entry_at c.args.holes.now n) + 1) (omega arith) (omega arith), c.loop-drilled.invariant.count) in
    let more = subst (λ (w : ℕ). IsChained cell (n + 1) (set head w (n + 1)) (c.loop-drilled.next.items ++ get_or head w 0 ∷ [])) here (chained_more cell n head c.loop-drilled.next.items was inside) in
    let link : set head at (n + 1) ≡ c.chain_next.new.head.items = ap (λ (k : ℕ). set head at (k + 1)) (sym was.size) ∙ sym c.in_ok-chain_next.ensures.head in
    record {
      count = ap length c.in_ok-chain_next.ensures.head ∙ (length-set head at (length c.loop-drilled.next.items + 1) ∙ c.loop-drilled.invariant.count);
      chained = rw c.in_ok-chain_next.ensures.next (subst (λ (heads : List ℕ). IsChained cell (n + 1) heads (c.loop-drilled.next.items ++ get_or head at 0 ∷ [])) link more);
    }

pub returns-clause-chained : goal.returns-clause-chained
returns-clause-chained c =
    let all : c.loop-drilled.drilled-index ≡ length c.args.holes.now = omega (arith, c.loop-drilled-test.false, c.loop-drilled.auto.drilled-index-end) in
    subst (λ (n : ℕ). IsChained (cell_at c.args.x.now c.args.y.now c.args.holes.now) n c.loop-drilled.head.items c.loop-drilled.next.items) all c.loop-drilled.invariant.chained
