use Rattle.pad_shapes.specs.Inner.HoldingLaws.{disc_holds, rect_holds, obround_holds, rounded_holds}
use Rattle.pad_shapes.proofs.hole_laws.shapes_hold_covered_holes.Goals as goal

pub returns-clause-discs : goal.returns-clause-discs
returns-clause-discs c = disc_holds

pub returns-clause-rectangles : goal.returns-clause-rectangles
returns-clause-rectangles c = rect_holds

pub returns-clause-obrounds : goal.returns-clause-obrounds
returns-clause-obrounds c = obround_holds

pub returns-clause-rounded : goal.returns-clause-rounded
returns-clause-rounded c = rounded_holds
