-- One row more, and one column more.
use Rattle.layer_state.proofs.Common.{◌≡◌, ◌∙◌, ◌++◌, List, [], ◌∷◌, map, ap, subst, arith, flat_map, GridPoint, Flash, numbers_below, copy_at, flash_moved, moved_what, Adds}
use Rattle.layer_state.proofs.KeptFlashesLemmas.{adds_more}
use Rattle.layer_state.proofs.CopyGrids.{fewer_copies, next_column, next_row}
use Rattle.layer_state.proofs.flashes.Flashes.lay.Goals as goal

pub add-requires : goal.add-requires
add-requires c = omega (arith, c.requires.few, c.loop-v.invariant.count, fewer_copies (flash_moved c.args.what.now) c.args.grid.now c.loop-u.u c.loop-v.v (omega arith) (omega arith))

pub loop-v-preserved : goal.loop-v-preserved
loop-v-preserved c =
    let grid = c.args.grid.now in
    let what = c.args.what.now in
    let before = flat_map (λ a. map (copy_at grid a) (numbers_below grid.rows)) (numbers_below c.loop-u.u) in
    let flash : record { at = c.copy-at.result; what = c.at.result } ≡ flash_moved what (copy_at grid c.loop-u.u c.loop-v.v) = λ i. record { at = c.copy-at.ensures i; what = (c.at.ensures ∙ ap (λ (p : GridPoint). moved_what p what) c.copy-at.ensures) i } in
    let all = ap (λ (f : Flash). map (flash_moved what) (before ++ map (copy_at grid c.loop-u.u) (numbers_below c.loop-v.v)) ++ f ∷ []) flash ∙ next_row (flash_moved what) (copy_at grid c.loop-u.u) before c.loop-v.v in
    subst (λ (l : List Flash). Adds c.args.self.now l c.add.new.self) all (adds_more c.args.self.now c.loop-v.self c.add.new.self _ _ c.loop-v.invariant c.in_ok-add.ensures)

pub loop-u-preserved : goal.loop-u-preserved
loop-u-preserved c =
    let ended : c.loop-v.v ≡ c.args.grid.now.rows = omega arith in
    subst (λ (l : List Flash). Adds c.args.self.now l c.loop-v.self) (next_column (flash_moved c.args.what.now) c.args.grid.now c.loop-u.u c.loop-v.v ended) c.loop-v.invariant
