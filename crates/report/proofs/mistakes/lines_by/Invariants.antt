use Rattle.report.proofs.Common.{List, map, take, WidePad, Drilled, AreUnitMistakes, factors, AreSuspects, AreTried, Suspect}
use Rattle.report.proofs.mistakes.lines_by.Given as goal

abbrev pub invariant-loop-place : goal.invariant-loop-place
invariant-loop-place l =
    (pads : List WidePad) (holes : List Drilled) → AreSuspects pads holes l.files l.suspects → AreTried pads holes (map (λ (d : Suspect). d.range) l.suspects) factors l.tried → AreUnitMistakes pads holes (take l.place l.files) l.lines.items
