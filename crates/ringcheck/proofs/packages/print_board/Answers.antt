use Rattle.ringcheck.proofs.Common.{refl}
use Rattle.ringcheck.proofs.packages.print_board.Goals as goal

pub returns-in-Measure : goal.returns-in-Measure
returns-in-Measure g c = λ all same read_in is. rw c.in-Measure.is (c.measure.ensures all same is.is)

pub returns-in-Report : goal.returns-in-Report
returns-in-Report g c = λ all same read_in is. rw c.in-Report.is (c.report.ensures all same (rw c.in-Report.is at read_in) (rw c.in-Report.is at is))

pub returns-in-Draw : goal.returns-in-Draw
returns-in-Draw g c = λ all same read_in is. rw c.in-Draw.is (c.draw.ensures all same ((rw c.in-Draw.is at is).drawn refl))
