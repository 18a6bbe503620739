use Rattle.drawing.proofs.Common.{◌≡◌, ℕ, [], get_or, take, flat_map, fold, cross_extent, joined_to}
use Rattle.drawing.proofs.bounds.with_crosses.Given as goal

abbrev pub invariant-loop-file : goal.invariant-loop-file
invariant-loop-file l = l.all ≡ fold joined_to l.fn.before (flat_map (λ (file : ℕ). flat_map cross_extent (get_or l.board.rows file [])) (take l.file-index l.files))
