use Rattle.ring_rules.proofs.RingLists.{no_oblique_in_wide, wide_no_more}
use Rattle.ring_rules.proofs.laws.wide_finds_no_more.Goals as goal

pub returns-clause-oblique : goal.returns-clause-oblique
returns-clause-oblique g c = no_oblique_in_wide g.W.PadShape.covers

pub returns-clause-fewer : goal.returns-clause-fewer
returns-clause-fewer g c = wide_no_more g.S.PadShape.covers g.W.PadShape.covers
