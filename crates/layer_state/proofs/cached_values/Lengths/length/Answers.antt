-- The length of a number that is in range fits.
use Rattle.layer_state.proofs.Common.{arith, ◌≡◌, ◌≤◌, ◌<◌, ◌*◌, ◌^◌, ◌*ℤ◌, ℕ, ℤ, pos, unsigned_abs, FitsSigned, to_z, of_z, ap, subst, sym, ◌∙◌, to_z-of_z, to_z_pos, w64}
use Rattle.layer_state.proofs.CopyGrids.{fits_i64}
use Rattle.layer_state.proofs.FastOperations.{near_length}
use Rattle.layer_state.proofs.cached_values.Lengths.length.Goals as goal

-- the product in 64 bits
value : (n : ℤ) (place limit : ℕ) → FitsSigned w64 n → place ≤ 25400000000 → limit * place ≤ 10000000000000 → unsigned_abs n ≤ limit
    → to_z w64 (of_z w64 (to_z w64 (of_z w64 n) *ℤ to_z w64 place)) ≡ n *ℤ pos place
value n place limit fits small near within =
    let p : place < 2 ^ 63 = omega (arith, small) in
    let e : to_z w64 (of_z w64 n) *ℤ to_z w64 place ≡ n *ℤ pos place = (λ i. to_z-of_z w64 n fits i *ℤ to_z_pos w64 place p i) in
    ap (λ z. to_z w64 (of_z w64 z)) e ∙ to_z-of_z w64 (n *ℤ pos place) (fits_i64 (n *ℤ pos place) (near_length n place limit near within))

pub returns-clause-value : goal.returns-clause-value
returns-clause-value c = let l = c.args.self.now in value c.args.n l.place l.limit c.ranges.n l.small l.near c.requires

pub returns-clause-near : goal.returns-clause-near
returns-clause-near c =
    let l = c.args.self.now in
    subst (λ (z : ℤ). unsigned_abs z ≤ 10000000000000) (sym (value c.args.n l.place l.limit c.ranges.n l.small l.near c.requires)) (near_length c.args.n l.place l.limit l.near c.requires)
