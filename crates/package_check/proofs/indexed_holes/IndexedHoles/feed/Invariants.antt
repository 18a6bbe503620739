use Rattle.package_check.proofs.Common.{◌≡◌, ℕ, List, ◌++◌, chunks_rest, chunks_size, HasTriedPadsOf}
use Rattle.package_check.proofs.indexed_holes.IndexedHoles.feed.Given as goal

abbrev pub invariant-loop-chunk : goal.invariant-loop-chunk
invariant-loop-chunk l =
    goal.iterator-loop-chunk.can_next l.chunk-iterator
    × goal.iterator-loop-chunk.is_finite l.chunk-iterator
    × (chunks_size l.chunk-iterator ≡ 65536)
    × ((text : List ℕ) → HasTriedPadsOf l.initial.self l.layer l.initial.reader text → (done : List ℕ) × HasTriedPadsOf l.self l.layer l.reader (text ++ done) × (done ++ chunks_rest l.chunk-iterator ≡ l.piece))
    × (l.self.holes ≡ l.initial.self.holes)
    × (l.self.rules ≡ l.initial.self.rules)
