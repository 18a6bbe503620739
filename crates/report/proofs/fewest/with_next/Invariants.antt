use Rattle.report.proofs.Common.{List, [], ◌∷◌, ◌++◌, map, take, WidePad, Drilled, UnitFactor, HoleRange, AreCounted, AreTried, open_part}
use Rattle.report.proofs.fewest.with_next.Given as goal

abbrev pub invariant-loop-place : goal.invariant-loop-place
invariant-loop-place l =
    (pads : List WidePad) (holes : List Drilled) (ranges : List HoleRange) (earlier : List UnitFactor) → AreTried pads holes ranges earlier l.tried → AreCounted pads holes (map open_part l.tried) l.factor l.counts
    → AreTried pads holes (take l.place ranges) (earlier ++ l.factor ∷ []) l.all.items
