use Rattle.manifest.proofs.Common.{rules, tests, ◌==◌, YieldsList-from_slice_split, any_from_yields_List, is_line_of}
use Rattle.manifest.proofs.contents.has_line.Goals as goal

pub returns : goal.returns
returns c =
    any_from_yields_List (is_line_of c.args.word.now) _ _ _ c.any.ensures.ran
    (YieldsList-from_slice_split _ (λ b. b == 10) c.args.text.now c.split.ensures.rest c.split.ensures.done c.split.ensures.closure (λ x b q k. search (rules, tests))) (λ x b q k. search (rules, tests))
