use Rattle.drawing.proofs.Common.{IsFirstLeast, square_error}
use Rattle.drawing.proofs.columns.columns_of.Given as goal

abbrev pub invariant-loop-before : goal.invariant-loop-before
invariant-loop-before l = IsFirstLeast (square_error l.frame l.count) l.before l.best
