use Rattle.print_json.proofs.Common.{document-print}
use Rattle.print_json.proofs.Depths.{report_within}
use Rattle.print_json.proofs.found.ReportJson.reads_back.Goals as goal

pub returns : goal.returns
returns c = document-print _ c.numbers.ensures (report_within _ _ _ _ _ _ _)
