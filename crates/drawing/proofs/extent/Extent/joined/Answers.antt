use Rattle.drawing.proofs.Common.{◌≡◌, ◌≤◌, ◌*◌, ◌^◌, ◌∙◌, ℤ, w64, to_z, of_z, ap₂, arith, GridExtent, joint_extent}
use Rattle.std.specs.Prelude.{unsigned_abs}
use Rattle.std.specs.Int.{int_min, int_max}
use Rattle.std.proofs.lemmas.Int.{ints}
use Rattle.drawing.proofs.extent.Extent.joined.Goals as goal

same : (z : ℤ) → unsigned_abs z ≤ 2 * 10 ^ 13 → to_z w64 (of_z w64 z) ≡ z
same z near = omega (arith, ints)

extents : (a b d e f g h i : ℤ) → a ≡ f → b ≡ g → d ≡ h → e ≡ i
    → (let x : GridExtent = record { left = a; right = b; bottom = d; top = e } in x) ≡ record { left = f; right = g; bottom = h; top = i }
extents a b d e f g h i p q r s = cc

pub returns : goal.returns
returns c =
    let one = c.self.inside in
    let two = c.other.inside in
    let near = c.self.invariant in
    let also = c.other.invariant in
    let left = same c.lesser.result c.lesser.ensures.near ∙ (c.lesser.ensures.value ∙ ap₂ int_min (same one.left near.0) (same two.left also.0)) in
    let right = same c.greater.result c.greater.ensures.near ∙ (c.greater.ensures.value ∙ ap₂ int_max (same one.right near.1.0) (same two.right also.1.0)) in
    let bottom = same c.lesser-2.result c.lesser-2.ensures.near ∙ (c.lesser-2.ensures.value ∙ ap₂ int_min (same one.bottom near.1.1.0) (same two.bottom also.1.1.0)) in
    let top = same c.greater-2.result c.greater-2.ensures.near ∙ (c.greater-2.ensures.value ∙ ap₂ int_max (same one.top near.1.1.1) (same two.top also.1.1.1)) in
    extents _ _ _ _ _ _ _ _ left right bottom top ∙ ap₂ joint_extent c.self.view_is c.other.view_is
