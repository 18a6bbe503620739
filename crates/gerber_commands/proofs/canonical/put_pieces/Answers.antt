use Rattle.gerber_commands.proofs.Common.{◌∷◌, ◌++◌, ℕ, List, ap, codes}
use Rattle.gerber_commands.proofs.CanonicalLemmas.{written_step, written_all}
use Rattle.gerber_commands.proofs.canonical.put_pieces.Goals as goal

pub loop-piece-preserved : goal.loop-piece-preserved
loop-piece-preserved c =
    written_step (λ (piece : List ℕ). 10 ∷ (piece ++ codes "*")) c.args.pieces.now c.loop-piece.piece-index c.piece-item.result c.args.out.now.items c.loop-piece.out.items c.put_between.new.out.items (10 ∷ (c.bytes.result.now ++ codes "*")) c.loop-piece-test.true c.piece-item.is c.loop-piece.invariant
    c.in_ok-put_between.ensures (ap (λ (t : List ℕ). 10 ∷ (t ++ codes "*")) c.bytes.ensures)

pub returns : goal.returns
returns c = written_all (λ (piece : List ℕ). 10 ∷ (piece ++ codes "*")) c.args.pieces.now c.loop-piece.piece-index c.args.out.now.items c.loop-piece.out.items c.loop-piece-test.false c.loop-piece.invariant
