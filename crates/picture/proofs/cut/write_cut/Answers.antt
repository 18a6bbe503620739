use Rattle.picture.proofs.Common.{refl, has_written_append}
use Rattle.picture.proofs.cut.write_cut.Goals as goal

pub returns : goal.returns
returns g c = λ plain ok.
    let start = c.in_ok-write_box_start.ensures plain refl in
    has_written_append _ _ _ _ _ _ start (c.write_view_box.ensures start.plain ok)
