use Rattle.report_page.proofs.Common.{ap, sym, has_written_of_eq, file_counts}
use Rattle.report_page.proofs.files.FileCountsDisplay.fmt.Goals as goal

pub returns-in-Mixed-clause-writes : goal.returns-in-Mixed-clause-writes
returns-in-Mixed-clause-writes g c = λ plain ok.
    has_written_of_eq _ _ _ _ _ (ap (file_counts c.args.self.now.profile) (sym c.in-Mixed.is)) (c.write-in-Mixed.ensures.writes plain ok)
