-- The polygon that a call makes of corners.
use Rattle.layer_state.proofs.Common.{◌≡◌, ◌∙◌, ℤ, ◌<◌, Bool, true, false, List, [], ◌∷◌, length, map, reverse, Option, None, Some, unsigned_abs, refl, ap, sym, false≢true, length-reverse, GridPoint, GridRounded, IsRounded, is_outline, max_corners, in_order, is_turned_over, no_mirroring, oriented_shape, rounded_by}
use Rattle.std.specs.Prelude.{◌↔◌, IsSome, IfSome, if◌then◌else◌}
use Rattle.pad_shapes.specs.Shapes.{IsPadRadius}
use Rattle.layer_state.specs.declared.mirroring.Mirroring.{Mirroring}

pub rounded_is : (o : Option GridRounded) (first : GridPoint) (others : List GridPoint) (radius : ℤ) → length others < max_corners → IsPadRadius radius → IsSome o ↔ IsRounded first others radius
    → IfSome o (λ r. r ≡ record { first = first; others = others; radius = unsigned_abs radius }) → o ≡ rounded_by first others (unsigned_abs radius)
rounded_is o first others radius few in_range valid value = by o (is_outline first others) refl valid value
  where
    by : (p : Option GridRounded) (b : Bool) → is_outline first others ≡ b → IsSome p ↔ IsRounded first others radius → IfSome p (λ r. r ≡ record { first = first; others = others; radius = unsigned_abs radius })
        → p ≡ (if b then Some (record { first = first; others = others; radius = unsigned_abs radius }) else None)
    by (Some r) true e v w = ap (λ (q : GridRounded). Some q) w
    by (Some r) false e v w = absurd (false≢true (sym e ∙ (v.0 refl).outline))
    by None true e v w = absurd (false≢true (v.1 (record { few = few; in_range = in_range; outline = e })))
    by None false e v w = refl

pub in_order_length : (m : Mirroring) (points : List GridPoint) → length (in_order m points) ≡ length points
in_order_length m points = by (is_turned_over m)
  where
    by : (b : Bool) → length (if b then reverse points else points) ≡ length points
    by true = length-reverse points
    by false = refl

map-same : (ps : List GridPoint) → map (λ p. p) ps ≡ ps
map-same [] = refl
map-same (p ∷ ps) = ap (λ qs. p ∷ qs) (map-same ps)

-- a shape that is neither mirrored nor turned
pub unturned : (s : GridRounded) → is_outline s.first s.others ≡ true → Some s ≡ oriented_shape no_mirroring 0 s
unturned s e = sym (ap (λ others. rounded_by s.first others s.radius) (map-same s.others) ∙ by (is_outline s.first s.others) e)
  where
    by : (b : Bool) → b ≡ true → (if b then Some s else None) ≡ Some s
    by true h = refl
    by false h = absurd (false≢true h)
