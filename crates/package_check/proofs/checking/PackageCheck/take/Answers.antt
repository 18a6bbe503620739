use Rattle.package_check.proofs.Common.{List, Bor, ℕ, ◌∙◌, subst, take, take_all, HasOpenedCopper}
use Rattle.package_check.proofs.PiecesLemmas.{joined, joined_more, no_piece}
use Rattle.package_check.proofs.checking.PackageCheck.take.Goals as goal

pub loop-piece-preserved : goal.loop-piece-preserved
loop-piece-preserved c =
    let a = c.args in
    let xs = a.pieces.now in
    let i = c.loop-piece.piece-index in
    subst (HasOpenedCopper a.self.now c.take_piece.new.self a.index a.layer a.said c.take_piece.new.file) (joined_more xs i no_piece c.loop-piece-test.true)
    (c.take_piece.ensures a.self.now a.index a.layer a.said (joined (take i xs)) c.loop-piece.invariant)

pub returns-clause-stands : goal.returns-clause-stands
returns-clause-stands c name =
    let a = c.args in
    c.end.ensures.stands a.self.now a.index a.layer a.said (joined a.pieces.now) name
    (subst (λ (ys : List (Bor (List ℕ))). HasOpenedCopper a.self.now c.loop-piece.self a.index a.layer a.said c.loop-piece.file (joined ys)) (take_all c.loop-piece.piece-index a.pieces.now c.loop-piece-test.false) c.loop-piece.invariant)

pub returns-clause-setting : goal.returns-clause-setting
returns-clause-setting c =
    let read = c.loop-piece.invariant in
    c.end.ensures.setting ∙ (λ j. record { layers = read.same_layers j; profile = (read.same_rules j).profile })

pub returns-clause-failed : goal.returns-clause-failed
returns-clause-failed c = λ memory. c.end.ensures.failed (c.loop-piece.invariant.same_stop ∙ memory)
