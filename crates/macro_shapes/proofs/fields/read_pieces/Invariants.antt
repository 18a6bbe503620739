use Rattle.macro_shapes.proofs.Common.{◌≡◌, ◌++◌, drop, option_map, lookup, fields_from}
use Rattle.macro_shapes.proofs.fields.read_pieces.Given as goal

abbrev pub invariant-loop-piece : goal.invariant-loop-piece
invariant-loop-piece l = option_map (λ fs. l.primitives.items ++ fs) (fields_from (lookup l.variables) (drop l.piece-index l.pieces)) ≡ fields_from (lookup l.fn.variables) l.pieces
