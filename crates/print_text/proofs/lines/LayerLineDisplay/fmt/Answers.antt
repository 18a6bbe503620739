use Rattle.print_text.proofs.Common.{refl, has_written_append}
use Rattle.print_text.proofs.lines.LayerLineDisplay.fmt.Goals as goal

pub returns-clause-writes : goal.returns-clause-writes
returns-clause-writes g c = λ plain ok.
    let first = c.in_ok-write.ensures.writes plain refl in
    has_written_append _ _ _ _ _ _ first (c.write-2.ensures.writes first.plain ok)
