use Rattle.std.proofs.Common.{subst, sym}
use Rattle.std.specs.Prelude.{IfSome}
use Rattle.pad_shapes.specs.Pads.{pad_covers}
use Rattle.pad_shapes.specs.Zones.{BoundsCentres}
use Rattle.pad_shapes.specs.declared.pad.Pad.{Pad}
use Rattle.pad_shapes.proofs.pad.PadPadShape.zone.Goals as goal

pub returns-in-Obround : goal.returns-in-Obround
returns-in-Obround c =
    subst (λ (s : Pad). IfSome c.zone-in-Obround.result (BoundsCentres pad_covers s c.args.reach)) (sym c.in-Obround.is) c.zone-in-Obround.ensures
