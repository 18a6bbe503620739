-- No copy is far, so each coordinate is in range.
use Rattle.layer_state.proofs.Common.{arith, ◌≡◌, ◌≤◌, ◌∙◌, sym, subst, to_z, of_z, unsigned_abs, ◌+ℤ◌, ◌*ℤ◌, pos, ℤ, w128, max_coordinate}
use Rattle.layer_state.proofs.CopyGrids.{near_copy, back_steps}
use Rattle.layer_state.proofs.grid.CopyGrid.copy.Goals as goal

x_is : (c : goal.After-stepped-2) → to_z w128 (of_z w128 c.stepped.result) ≡ c.args.self.now.x +ℤ pos c.args.u *ℤ c.args.self.now.step_x
x_is c = back_steps _ _ c.args.u c.stepped.result c.requires.bounded.x c.requires.bounded.step_x (omega arith) c.stepped.ensures

y_is : (c : goal.After-stepped-2) → to_z w128 (of_z w128 c.stepped-2.result) ≡ c.args.self.now.y +ℤ pos c.args.v *ℤ c.args.self.now.step_y
y_is c = back_steps _ _ c.args.v c.stepped-2.result c.requires.bounded.y c.requires.bounded.step_y (omega arith) c.stepped-2.ensures

pub point-requires-clause-x : goal.point-requires-clause-x
point-requires-clause-x c = subst (λ (z : ℤ). unsigned_abs z ≤ max_coordinate) (sym (x_is c)) (near_copy c.args.self.now c.args.u c.args.v c.requires.near c.requires.column c.requires.row).0

pub point-requires-clause-y : goal.point-requires-clause-y
point-requires-clause-y c = subst (λ (z : ℤ). unsigned_abs z ≤ max_coordinate) (sym (y_is c)) (near_copy c.args.self.now c.args.u c.args.v c.requires.near c.requires.column c.requires.row).1

pub returns : goal.returns
returns c =
    let grid = c.args.self.now in
    let x = back_steps grid.x grid.step_x c.args.u c.stepped.result c.requires.bounded.x c.requires.bounded.step_x (omega arith) c.stepped.ensures in
    let y = back_steps grid.y grid.step_y c.args.v c.stepped-2.result c.requires.bounded.y c.requires.bounded.step_y (omega arith) c.stepped-2.ensures in
    c.point.ensures ∙ λ i. record { x = x i; y = y i }
