use Rattle.package_check.proofs.Common.{◌≡◌, ◌∙◌, ℕ, List, Bor, Option, None, Some, ap, get_or, length, ltb-true, none-some, refl, same_Some, slice_get, slice_get_read, subst, sym, has_written_append, has_written_of_eq, place_words, option_copied}
use Rattle.std.specs.Slice.{IsItemAt}
use Rattle.package_check.specs.Texts.{hole_line, line_if_found}
use Rattle.package_check.proofs.lines.write_hole.Goals as goal

-- what a look-up in a list of numbers gave is what stands there
looked_up : (xs : List ℕ) (i : ℕ) (r : Option (Bor ℕ)) (x : ℕ) → IsItemAt xs i r → option_copied r ≡ Some x → slice_get xs i ≡ Some x
looked_up xs i None x at is = absurd (none-some x is)
looked_up xs i (Some b) x at is =
    let same = same_Some b.now x is in
    slice_get_read xs (length xs) i x refl (ltb-true i (length xs) (sym at.0)) (sym same ∙ (at.1 ∙ ap (λ (d : ℕ). get_or xs i d) same))

pub returns : goal.returns
unfolding place_words
returns g c = λ plain ok.
    let a = c.args in
    let layer_at = subst (λ (xs : List ℕ). slice_get xs a.layer ≡ Some c.in-Some.layer) c.layers.ensures (looked_up c.layers.result.now a.layer c.get.result c.in-Some.layer c.get.ensures.lookup (sym c.copied.ensures ∙ c.in-Some.is)) in
    let hole_at = sym c.hole.ensures ∙ c.in-Some-hole.is in
    let first = c.in_ok-write.ensures.writes plain refl in
    has_written_of_eq _ _ _ _ _ (λ i. line_if_found (hole_line a.kind.now) (sym layer_at i) (sym hole_at i)) (has_written_append _ _ _ _ _ _ first (c.write_lengths.ensures first.plain ok))
