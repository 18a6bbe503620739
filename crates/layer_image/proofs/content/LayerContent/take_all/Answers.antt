use Rattle.layer_image.proofs.Common.{subst, HasContent, LayerContent}
use Rattle.layer_image.proofs.content.LayerContent.take_all.Goals as goal

pub returns-in-Flashes-clause-ok : goal.returns-in-Flashes-clause-ok
returns-in-Flashes-clause-ok c profile keep taken before h = c.take_commands.ensures.ok profile keep taken before (subst (λ (l : LayerContent). HasContent profile keep taken l before) c.in-Flashes.is h)

pub returns-in-Flashes-clause-refused : goal.returns-in-Flashes-clause-refused
returns-in-Flashes-clause-refused c profile keep taken before h = c.take_commands.ensures.refused profile keep taken before (subst (λ (l : LayerContent). HasContent profile keep taken l before) c.in-Flashes.is h)

pub returns-in-Features-clause-ok : goal.returns-in-Features-clause-ok
returns-in-Features-clause-ok c profile keep taken before h = c.take_commands-in-Features.ensures.ok profile keep taken before (subst (λ (l : LayerContent). HasContent profile keep taken l before) c.in-Features.is h)

pub returns-in-Features-clause-refused : goal.returns-in-Features-clause-refused
returns-in-Features-clause-refused c profile keep taken before h = c.take_commands-in-Features.ensures.refused profile keep taken before (subst (λ (l : LayerContent). HasContent profile keep taken l before) c.in-Features.is h)
