use Rattle.print_json.proofs.Common.{document-print}
use Rattle.print_json.proofs.Depths.{certificate_within}
use Rattle.print_json.proofs.certificate.Certificate.reads_back.Goals as goal

pub returns : goal.returns
returns c = document-print _ c.numbers.ensures (certificate_within _ _ _ _ _ _)
