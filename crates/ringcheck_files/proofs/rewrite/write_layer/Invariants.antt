use Rattle.ringcheck_files.proofs.Common.{◌≡◌, ℕ, List, ◌++◌, chunks_rest, chunks_size, IsWriterAfter}
use Rattle.ringcheck_files.proofs.rewrite.write_layer.Given as goal

abbrev pub invariant-loop-piece : goal.invariant-loop-piece
invariant-loop-piece l =
    goal.iterator-loop-piece.can_next l.piece-iterator
    × goal.iterator-loop-piece.is_finite l.piece-iterator
    × (chunks_size l.piece-iterator ≡ 65536)
    × ((done : List ℕ) × IsWriterAfter l.writer done × (done ++ chunks_rest l.piece-iterator ≡ l.bytes))
