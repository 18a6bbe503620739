use Rattle.package_check.proofs.Common.{take, HasOpenedCopper}
use Rattle.package_check.proofs.PiecesLemmas.{joined}
use Rattle.package_check.proofs.checking.PackageCheck.take.Given as goal

abbrev pub invariant-loop-piece : goal.invariant-loop-piece
invariant-loop-piece l = HasOpenedCopper l.fn.self l.self l.fn.index l.fn.layer l.fn.said l.file (joined (take l.piece-index l.pieces))
