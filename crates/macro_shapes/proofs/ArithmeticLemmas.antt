-- Values in range.
use Rattle.macro_shapes.proofs.Common.{◌≡◌, ◌↔◌, ◌≤◌, ℤ, unsigned_abs, Bool, true, false, cond, leb, Option, None, Some, refl, ap, arith, IsSome, IfSome, leb-true, leb-false, false≢true, in_range}
use Rattle.grid_units.specs.Numbers.{max_units}

pub in_range_is : (r : Option ℤ) (z : ℤ) → IsSome r ↔ (unsigned_abs z ≤ max_units) → IfSome r (λ d. d ≡ z) → r ≡ in_range z
in_range_is r z valid value = by (leb (unsigned_abs z) max_units) refl r valid value
  where
    by : (t : Bool) → leb (unsigned_abs z) max_units ≡ t → (r : Option ℤ) → IsSome r ↔ (unsigned_abs z ≤ max_units) → IfSome r (λ d. d ≡ z) → r ≡ cond t (Some z) None
    by true e None valid value = absurd (false≢true (valid.1 (leb-true (unsigned_abs z) max_units e)))
    by true e (Some d) valid value = ap Some value
    by false e None valid value = refl
    by false e (Some d) valid value = absurd (omega (arith, valid.0 refl, leb-false (unsigned_abs z) max_units e))
