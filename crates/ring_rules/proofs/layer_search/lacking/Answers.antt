use Rattle.ring_rules.proofs.Common.{◌≡◌, List, Bool, length, drop, ◌∙◌, take_at, drilled_at, Drilled, Spot}
use Rattle.ring_rules.proofs.MarksAfterPads.{marked_places}
use Rattle.ring_rules.proofs.layer_search.lacking.Goals as goal

pub returns-clause-marks : goal.returns-clause-marks
returns-clause-marks c = λ test marked.
    let spots : List Spot = c.args.index.now.cells.spots in
    let holes : List Drilled = c.args.holes.now in
    let put : List Bool = c.put_marks.new.marks in
    let size : length c.put_marks.new.marks ≡ length c.args.holes.now = c.put_marks.auto.marks ∙ (c.deref_mut.ensures.len ∙ c.in_ok-lacking.ensures.len) in
    take_at c.put_marks.new.marks (drop (length c.put_marks.new.marks) c.in_ok-lacking.lacking.items) c.in_ok-lacking.lacking.len (c.put_marks.auto.marks ∙ c.deref_mut.ensures.len)
    ∙ marked_places test holes spots c.requires.index.listed put size (c.put_marks.ensures (λ k. test (drilled_at holes k)) marked)
