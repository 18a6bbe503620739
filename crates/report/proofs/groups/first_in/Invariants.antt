use Rattle.report.proofs.Common.{◌-◌, length, HasPassed}
use Rattle.report.proofs.groups.first_in.Given as goal

abbrev pub invariant-loop-search : goal.invariant-loop-search
invariant-loop-search l = HasPassed l.all l.hole l.search

abbrev pub decreases-loop-search : goal.decreases-loop-search
decreases-loop-search l = length l.groups - l.search.next
