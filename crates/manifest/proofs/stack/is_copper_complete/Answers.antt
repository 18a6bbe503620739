use Rattle.manifest.proofs.Common.{◌∙◌, rules, tests, ap, not, list_any, YieldsList-from_slice, any_from_yields_List, hints_at_missing}
use Rattle.manifest.proofs.stack.is_copper_complete.Goals as goal

pub returns : goal.returns
returns c =
    ap not (any_from_yields_List (hints_at_missing c.args.count) _ _ c.any.result c.any.ensures.ran (YieldsList-from_slice c.args.files.now c.iter.ensures.rest) (λ x b q k. search (rules, tests)))
    ∙ ap (λ k. not (list_any (hints_at_missing k) c.args.files.now)) c.requires
