-- Each coordinate is the one that is named, else the last one.
use Rattle.layer_state.proofs.Common.{rules, arith, ◌≡◌, ◌≤◌, ◌^◌, unsigned_abs, ℤ, ℕ, FitsSigned, to_z, of_z, ◌∙◌, w128, w64, picometres, back_128}
use Rattle.grid_units.specs.declared.lengths.Unit.{Unit as Units}
use Rattle.layer_state.specs.Numbers.{dec_length}
use Rattle.layer_state.proofs.SumLemmas.{named}
use Rattle.layer_state.proofs.state.State.grid.Goals as goal

-- a length that was computed of a number in 64 bits
axis : (unit other : Units) (decimals places : ℕ) (r n m : ℤ) → unit ≡ other → decimals ≡ places → to_z w64 (of_z w64 n) ≡ m → r ≡ picometres unit decimals (to_z w64 (of_z w64 n)) → unsigned_abs r ≤ 2 ^ 98
    → to_z w128 (of_z w128 r) ≡ picometres other places m
axis unit other decimals places r n m a b e h l = back_128 r l ∙ h ∙ (λ i. picometres (a i) (b i) (e i))

pub returns-clause-value : goal.returns-clause-value
returns-clause-value c =
    let x : FitsSigned w64 c.args.self.now.current.x = search rules in
    let y : FitsSigned w64 c.args.self.now.current.y = search rules in
    let named_x : FitsSigned w64 c.unwrap_or.result = search rules in
    let named_y : FitsSigned w64 c.unwrap_or-2.result = search rules in
    let wide_x : unsigned_abs c.dec_length.result ≤ 2 ^ 98 = omega (arith, c.dec_length.ensures.bound) in
    let wide_y : unsigned_abs c.dec_length-2.result ≤ 2 ^ 98 = omega (arith, c.dec_length-2.ensures.bound) in
    λ i. record {
      x = axis _ _ _ _ c.coordinate.result c.unwrap_or.result _ c.unit-unit.ensures c.decimals-decimals.ensures (named c.args.x c.unwrap_or.result c.args.self.now.current.x named_x x c.unwrap_or.ensures) c.coordinate.ensures.value c.coordinate.ensures.bound i;
      y = axis _ _ _ _ c.coordinate-2.result c.unwrap_or-2.result _ c.unit-unit.ensures c.decimals-decimals.ensures (named c.args.y c.unwrap_or-2.result c.args.self.now.current.y named_y y c.unwrap_or-2.ensures) c.coordinate-2.ensures.value c.coordinate-2.ensures.bound i;
      columns = c.args.self.now.current.block.columns;
      rows = c.args.self.now.current.block.rows;
      step_x = (back_128 c.dec_length.result wide_x ∙ c.dec_length.ensures.value ∙ (λ j. dec_length (c.unit-unit.ensures j) c.args.self.now.current.block.step_x)) i;
      step_y = (back_128 c.dec_length-2.result wide_y ∙ c.dec_length-2.ensures.value ∙ (λ j. dec_length (c.unit-unit.ensures j) c.args.self.now.current.block.step_y)) i;
    }
