use Rattle.manifest.proofs.Common.{rules, tests, ◌==◌, YieldsList-from_slice_split, all_from_yields_List, has_no_hole}
use Rattle.manifest.proofs.contents.has_no_holes.Goals as goal

pub returns : goal.returns
returns c =
    all_from_yields_List has_no_hole _ _ _ c.all.ensures.ran
    (YieldsList-from_slice_split _ (λ b. b == 10) c.args.text.now c.split.ensures.rest c.split.ensures.done c.split.ensures.closure (λ x b q k. search (rules, tests))) (λ x b q k. search (rules, tests))
