use Rattle.manifest.proofs.PrintableReasons.{all_printable}
use Rattle.manifest.proofs.proposal_laws.prints_ascii.Goals as goal

pub returns : goal.returns
returns c = all_printable
