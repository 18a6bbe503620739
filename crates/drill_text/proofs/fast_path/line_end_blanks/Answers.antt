use Rattle.drill_text.proofs.Common.{◌∙◌, ◌∷◌, lit≤}
use Rattle.drill_text.proofs.fast_path.line_end_blanks.Goals as goal

pub returns-in-Some-split_first : goal.returns-in-Some-split_first
returns-in-Some-split_first c = (lit≤ tt, c.in-Some-split_first.field-0-1.now, c.in-Some.ensures.cases.0 ∙ (λ i. c.if-first-eq13.true i ∷ (c.in-Some-split_first.ensures.cases.0 ∙ (λ j. c.if-second-eq10.true j ∷ c.in-Some-split_first.field-0-1.now)) i))
