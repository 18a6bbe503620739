use Rattle.print_json.proofs.Common.{document-print}
use Rattle.print_json.proofs.Depths.{measure_within}
use Rattle.print_json.proofs.measured.MeasureJson.reads_back.Goals as goal

pub returns : goal.returns
returns c = document-print _ c.numbers.ensures (measure_within _ _ _ _)
