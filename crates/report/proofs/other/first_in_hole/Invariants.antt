use Rattle.report.proofs.Common.{◌++◌, List, take, IsFirstIn, Other}
use Rattle.report.proofs.other.first_in_hole.Given as goal

abbrev pub invariant-loop-other : goal.invariant-loop-other
invariant-loop-other l = (seen : List Other) → IsFirstIn seen l.hole l.fn.first → IsFirstIn (seen ++ take l.other-index l.others) l.hole l.first
