-- A copy is far just where one at the ends is.
use Rattle.layer_state.proofs.Common.{◌∙◌, ◌||◌, sym, arith, ◌-◌, is_too_far, back_128}
use Rattle.layer_state.proofs.CopyGrids.{far_copies, no_columns, no_rows, back_steps}
use Rattle.layer_state.proofs.grid.CopyGrid.is_too_far.Goals as goal
use Rattle.layer_state.proofs.grid.CopyGrid.is_too_far.Goals.{then-self-eq0-via-then-self-eq0, then-self-eq0-via-else-self-eq0+then-self-eq0-2}

pub returns-then-self-eq0 : goal.returns-then-self-eq0
returns-then-self-eq0 c = elim c.then-self-eq0.branch [ then-self-eq0-via-then-self-eq0 w ↦ sym (no_columns c.args.self.now w.if-self-eq0.true) | then-self-eq0-via-else-self-eq0+then-self-eq0-2 w ↦ sym (no_rows c.args.self.now w.if-self-eq0-2.true) ]

pub returns : goal.returns
returns c =
    let grid = c.args.self.now in
    c.is_any_far.ensures
    ∙ (λ i. is_too_far (back_128 grid.x c.requires.x i) || (is_too_far (back_128 grid.y c.requires.y i)
    || (is_too_far (back_steps grid.x grid.step_x (grid.columns - 1) c.stepped-last_x.result c.requires.x c.requires.step_x (omega arith) c.stepped-last_x.ensures i)
    || is_too_far (back_steps grid.y grid.step_y (grid.rows - 1) c.stepped-last_y.result c.requires.y c.requires.step_y (omega arith) c.stepped-last_y.ensures i))))
    ∙ sym (far_copies grid (grid.columns - 1) (grid.rows - 1) (omega arith) (omega arith))
