use Rattle.report.proofs.Common.{List, [], ◌∷◌, take, WidePad, Drilled, AreCounted, AreTried}
use Rattle.report.specs.declared.UnitFactor.TheVariants as kind
use Rattle.report.proofs.fewest.with_first.Given as goal

abbrev pub invariant-loop-place : goal.invariant-loop-place
invariant-loop-place l = (pads : List WidePad) (holes : List Drilled) → AreCounted pads holes l.ranges kind.Ten l.counts → AreTried pads holes (take l.place l.ranges) (kind.Ten ∷ []) l.tried.items
