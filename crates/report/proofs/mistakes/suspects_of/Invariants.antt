use Rattle.report.proofs.Common.{List, take, wide_pad_covers, WidePad, AreBare, AreSuspects}
use Rattle.report.proofs.mistakes.suspects_of.Given as goal

abbrev pub invariant-loop-file : goal.invariant-loop-file
invariant-loop-file l = (pads : List WidePad) → AreBare wide_pad_covers pads l.holes l.bare → AreSuspects pads l.holes (take l.file-index l.files) l.suspects.items
