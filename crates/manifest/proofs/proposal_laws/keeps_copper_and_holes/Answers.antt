use Rattle.manifest.proofs.OmissionLemmas.{drill_kept, gerber_kept, others_kept, places_kept}
use Rattle.manifest.proofs.proposal_laws.keeps_copper_and_holes.Goals as goal

pub returns : goal.returns
returns c = record { drill = drill_kept; gerber = gerber_kept; others = others_kept; places = places_kept }
