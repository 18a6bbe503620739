use Rattle.package_check.proofs.Common.{List, Bor, ℕ, subst, take, take_all, HasOpened}
use Rattle.package_check.proofs.PiecesLemmas.{joined, joined_more, no_piece}
use Rattle.package_check.proofs.package_reader.PackageReader.take.Goals as goal

pub loop-piece-preserved : goal.loop-piece-preserved
loop-piece-preserved c =
    let a = c.args in
    let xs = a.pieces.now in
    let i = c.loop-piece.piece-index in
    subst (HasOpened a.self.now a.index a.role a.said c.take.new.self) (joined_more xs i no_piece c.loop-piece-test.true)
    (c.take.ensures a.self.now a.index a.role a.said (joined (take i xs)) c.loop-piece.invariant)

pub returns-clause-stands : goal.returns-clause-stands
returns-clause-stands c name =
    let a = c.args in
    c.end.ensures.stands a.index a.role a.said (joined a.pieces.now) name
    (subst (λ (ys : List (Bor (List ℕ))). HasOpened a.self.now a.index a.role a.said c.loop-piece.file (joined ys)) (take_all c.loop-piece.piece-index a.pieces.now c.loop-piece-test.false) c.loop-piece.invariant)
