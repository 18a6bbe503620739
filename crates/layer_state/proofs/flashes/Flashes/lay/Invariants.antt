use Rattle.layer_state.proofs.Common.{◌++◌, map, flat_map, numbers_below, copy_at, flash_moved, Adds}
use Rattle.layer_state.proofs.flashes.Flashes.lay.Given as goal

abbrev pub invariant-loop-u : goal.invariant-loop-u
invariant-loop-u l = Adds l.fn.self (map (flash_moved l.what) (flat_map (λ a. map (copy_at l.grid a) (numbers_below l.grid.rows)) (numbers_below l.u))) l.self

abbrev pub invariant-loop-v : goal.invariant-loop-v
invariant-loop-v l = Adds l.fn.self (map (flash_moved l.what) (flat_map (λ a. map (copy_at l.grid a) (numbers_below l.grid.rows)) (numbers_below l.u) ++ map (copy_at l.grid l.u) (numbers_below l.v))) l.self
