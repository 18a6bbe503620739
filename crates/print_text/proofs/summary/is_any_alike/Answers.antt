use Rattle.print_text.proofs.Common.{◌∙◌, reverse, rules, sym, tests, is_alike}
use Rattle.std.proofs.lemmas.Iterator.Adapters.{YieldsList-from_rev_slice}
use Rattle.std.proofs.lemmas.Iterator.Search.{any_from_yields_List}
use Rattle.std.proofs.lemmas.List.Sorted.{IsPermutation-reverse, list_any-IsPermutation}
use Rattle.print_text.proofs.summary.is_any_alike.Goals as goal

pub returns : goal.returns
returns c =
    let rings = c.args.rings.now in
    any_from_yields_List (is_alike c.args.one.now) _ _ c.any.result c.any.ensures.ran (YieldsList-from_rev_slice {s = c.rev.result} rings (cc)) (λ x b q k. search (rules, tests))
    ∙ sym (list_any-IsPermutation (is_alike c.args.one.now) rings (reverse rings) (IsPermutation-reverse rings))
