use Rattle.package_check.proofs.Common.{take, HasOpened}
use Rattle.package_check.proofs.PiecesLemmas.{joined}
use Rattle.package_check.proofs.package_reader.PackageReader.take.Given as goal

abbrev pub invariant-loop-piece : goal.invariant-loop-piece
invariant-loop-piece l = HasOpened l.fn.self l.fn.index l.fn.role l.fn.said l.file (joined (take l.piece-index l.pieces))
