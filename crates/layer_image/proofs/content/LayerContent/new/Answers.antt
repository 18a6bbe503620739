use Rattle.layer_image.proofs.Common.{[], refl, sym, ◌∙◌}
use Rattle.layer_image.proofs.content.LayerContent.new.Goals as goal

pub returns-in-Some : goal.returns-in-Some
returns-in-Some c = record { kept = c.in-Some.kept; is = sym c.flashes_kept.ensures ∙ c.in-Some.is; plain_taken = []; same = refl; scanned = c.new.ensures }

pub returns-in-None : goal.returns-in-None
returns-in-None c = (sym c.flashes_kept.ensures ∙ c.in-None.is, record { scanned = c.new-in-None.ensures; copper = c.new-in-None-2.ensures })
