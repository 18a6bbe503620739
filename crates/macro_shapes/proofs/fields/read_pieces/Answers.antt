-- Each piece leaves what the primitives and the pieces left give together.
use Rattle.macro_shapes.proofs.Common.{◌≡◌, ◌+◌, ◌<◌, ◌∷◌, ℕ, List, length, drop, get_or, sym, ap, not, ◌∙◌, add-one, drop_all, lookup, fields_from}
use Rattle.std.proofs.Math.Seq.{drop-cons}
use Rattle.macro_shapes.proofs.TakenPieces.{of_some, of_none, begun, taken, refused, ended}
use Rattle.macro_shapes.proofs.fields.read_pieces.Goals as goal

next : (pieces : List (List ℕ)) (i : ℕ) (piece text : List ℕ) → i < length pieces → piece ≡ get_or pieces i piece → text ≡ piece → drop i pieces ≡ text ∷ drop (i + 1) pieces
next pieces i piece text within is same = drop-cons pieces i piece within ∙ (λ j. (sym is ∙ sym same) j ∷ drop (sym (add-one i) j) pieces)

pub loop-piece-init : goal.loop-piece-init
loop-piece-init c = begun c.new-primitives.result.items (fields_from (lookup c.args.variables) c.args.pieces.now) c.new-primitives.ensures.items

pub loop-piece-preserved : goal.loop-piece-preserved
loop-piece-preserved c =
    taken c.loop-piece.primitives.items c.take_piece.new.found.items (lookup c.loop-piece.variables) (lookup c.take_piece.new.variables) c.bytes.result.now
    (drop c.loop-piece.piece-index c.args.pieces.now) (drop (c.loop-piece.piece-index + 1) c.args.pieces.now) (fields_from (lookup c.args.variables) c.args.pieces.now)
    (of_some c.in_ok-take_piece.field-0 _ _ (c.is_none.ensures ∙ ap not c.if-is_none.false) c.in_ok-take_piece.ensures)
    (next c.args.pieces.now c.loop-piece.piece-index c.piece-item.result c.bytes.result.now c.loop-piece-test.true c.piece-item.is c.bytes.ensures)
    c.loop-piece.invariant

pub returns-then-is_none : goal.returns-then-is_none
returns-then-is_none c =
    refused c.loop-piece.primitives.items (lookup c.loop-piece.variables) c.bytes.result.now
    (drop c.loop-piece.piece-index c.args.pieces.now) (drop (c.loop-piece.piece-index + 1) c.args.pieces.now) (fields_from (lookup c.args.variables) c.args.pieces.now)
    (of_none c.in_ok-take_piece.field-0 _ _ (c.is_none.ensures ∙ ap not c.if-is_none.true) c.in_ok-take_piece.ensures)
    (next c.args.pieces.now c.loop-piece.piece-index c.piece-item.result c.bytes.result.now c.loop-piece-test.true c.piece-item.is c.bytes.ensures)
    c.loop-piece.invariant

pub returns : goal.returns
returns c =
    ended c.loop-piece.primitives.items (lookup c.loop-piece.variables) (drop c.loop-piece.piece-index c.args.pieces.now) (fields_from (lookup c.args.variables) c.args.pieces.now)
    (drop_all c.loop-piece.piece-index c.args.pieces.now c.loop-piece-test.false) c.loop-piece.invariant
