-- The pads that are held are dropped, and the judge stays as it is.
use Rattle.layer_image.proofs.Common.{subst, sym, HasContent, HasMetLegal, HasScannedFor, standing_in, without_places, LayerContent}
use Rattle.layer_image.specs.declared.met.Met.{Met}
use Rattle.layer_image.proofs.ContentLemmas.{flashes_taken}
use Rattle.layer_image.proofs.content.LayerContent.clear_pads.Goals as goal

pub returns-in-Flashes-clause-gone : goal.returns-in-Flashes-clause-gone
returns-in-Flashes-clause-gone c = λ profile keep taken before h.
    let was = subst (λ (l : LayerContent). HasContent profile keep taken l before) c.in-Flashes.is h in
    subst (λ (l : LayerContent). HasScannedFor profile keep (standing_in l taken) c.clear_pads.new.self before) (sym c.in-Flashes.is)
    (flashes_taken profile keep taken c.in-Flashes.scan c.clear_pads.new.self before was (λ parts. c.clear_pads.ensures.gone parts before))

pub returns-in-Features-clause-gone : goal.returns-in-Features-clause-gone
returns-in-Features-clause-gone c = λ profile keep taken before h.
    let was = subst (λ (l : LayerContent). HasContent profile keep taken l before) c.in-Features.is h in
    let old = c.in-Features.met in
    let new : Met = record { scan = old.scan; copper = c.clear_pads-in-Features.new.self } in
    (was.0, subst (λ (l : LayerContent). HasMetLegal profile keep (standing_in l taken) new before) (sym c.in-Features.is) (record { scanned = was.1.scanned; copper = c.clear_pads-in-Features.ensures.gone keep taken (without_places before) was.1.copper }))
