use Rattle.drill_text.proofs.DrillingLemmas.{listed_holes_are_drilled, drilled_holes_are_listed, drills_at_most_one_list}
use Rattle.drill_text.proofs.laws.drilled_holes.Goals as goal

pub returns : goal.returns
returns c = record { drilled = listed_holes_are_drilled; listed = drilled_holes_are_listed; one = drills_at_most_one_list }
