use Rattle.drill_text.proofs.Common.{List, DrillCommand, Kind, Keep}
use Rattle.drill_text.proofs.RepeatLemmas.{IsKeptUpTo}
use Rattle.drill_text.specs.Keeping.{HasRead}
use Rattle.drill_text.proofs.reader.keep_all.Given as goal

abbrev pub invariant-loop-left : goal.invariant-loop-left
invariant-loop-left l = (kind : Kind) (keep : Keep) (before : List DrillCommand) → HasRead l.initial.state l.initial.kept kind keep before → IsKeptUpTo l.state l.kept kind keep before l.repeat.step l.repeat.count l.left

abbrev pub decreases-loop-left : goal.decreases-loop-left
decreases-loop-left l = l.left
