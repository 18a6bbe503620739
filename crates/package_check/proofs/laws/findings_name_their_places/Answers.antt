use Rattle.package_check.proofs.FindingPlaces.{findings_name_their_places}
use Rattle.package_check.proofs.laws.findings_name_their_places.Goals as goal

pub returns : goal.returns
returns c = findings_name_their_places c.findings_name_places.ensures.rings c.findings_name_places.ensures.gaps
