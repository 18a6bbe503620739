use Rattle.ring_rules.proofs.NamesPlacesLemmas.{rings_name_places, gaps_name_places}
use Rattle.ring_rules.proofs.laws.findings_name_places.Goals as goal

pub returns-clause-rings : goal.returns-clause-rings
returns-clause-rings g c = rings_name_places g.S.PadShape.covers

pub returns-clause-gaps : goal.returns-clause-gaps
returns-clause-gaps g c = gaps_name_places
