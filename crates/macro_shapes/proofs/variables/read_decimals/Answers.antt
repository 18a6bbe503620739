use Rattle.macro_shapes.proofs.Common.{◌≡◌, ◌∷◌, ◌++◌, List, ℤ, Option, sym, ap, ◌∙◌, option_map, option_copied, split_by_if, all_decimals, decimals_next}
use Rattle.macro_shapes.proofs.variables.read_decimals.Goals as goal

pub loop-left-preserved : goal.loop-left-preserved
loop-left-preserved c =
    let more = split_by_if 88 (option_copied c.split_first.result.1) in
    let parts : split_by_if 88 (option_copied c.loop-left.left) ≡ c.split_first.result.0.now ∷ split_by_if 88 (option_copied c.split_first.result.1) = ap (λ o. split_by_if 88 (option_copied o)) c.in-Some.is ∙ c.split_first.ensures.parts in
    ap (λ (l : List (Option ℤ)). option_map (λ vs. l ++ vs) (all_decimals more)) c.in_ok-push.ensures.items
    ∙ (decimals_next c.loop-left.values.items (split_by_if 88 (option_copied c.loop-left.left)) more c.split_first.result.0.now c.in-Ok.value parts (sym c.in-Ok.ensures.exact) ∙ c.loop-left.invariant)
