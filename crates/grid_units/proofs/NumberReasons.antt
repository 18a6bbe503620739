-- The reasons for which a number is refused.
use Rattle.std.proofs.Common.{ℕ, ℤ, ◌+◌, ◌-◌, List, [], ◌∷◌, length, Bool, true, false, cond, Result, Ok, Err, IfErr, refl, arith}
use Rattle.std.specs.Prelude.{nat_lt, nat_le, ◌==◌}
use Rattle.std.specs.List.{Contains}
use Rattle.grid_units.specs.Laws.{DecimalReasons, CoordinateReasons, LengthReasons}
use Rattle.grid_units.specs.Numbers.{value_without_point, parse_decimal, to_units, zero_filled, fraction, fits_eight_decimals, is_decimal, is_digits, is_too_far, zeros_to_fill, signed_value, without_sign, value, whole, within_limit, parse_zero_filled}
use Rattle.grid_units.specs.Results.{◌>>=◌}
use Rattle.grid_units.specs.declared.fault.Reason.{Reason}
use Rattle.grid_units.specs.declared.fault.Reason.TheVariants.{BadNumber, NoZeros, TooManyDigits, TooFine, TooFar}
use Rattle.grid_units.specs.declared.zero_filling.Zeros.{Zeros}
use Rattle.grid_units.specs.declared.zero_filling.Zeros.TheVariants.{Leading, Trailing, Full}

first : (r : Reason) (rs : List Reason) → Contains (r ∷ rs) r
first r rs = (0, omega arith, refl)

second : (q r : Reason) (rs : List Reason) → Contains (q ∷ r ∷ rs) r
second q r rs = (1, omega arith, refl)

third : (p q r : Reason) (rs : List Reason) → Contains (p ∷ q ∷ r ∷ rs) r
third p q r rs = (2, omega arith, refl)

pub decimals : DecimalReasons
unfolding parse_decimal
decimals text = by (is_decimal text) (fits_eight_decimals (fraction text)) (nat_lt 999999 (value (whole text)))
  where
    by : (s t u : Bool) → IfErr (cond s (cond t (cond u (Err TooFar) (Ok (signed_value text (to_units (value_without_point text) (length (fraction text)))))) (Err TooFine)) (Err BadNumber)) (Contains (BadNumber ∷ TooFine ∷ TooFar ∷ []))
    by false t u = first BadNumber (TooFine ∷ TooFar ∷ [])
    by true false u = second BadNumber TooFine (TooFar ∷ [])
    by true true true = third BadNumber TooFine TooFar []
    by true true false = tt

pub coordinates : CoordinateReasons
unfolding parse_zero_filled
coordinates text i d zeros = by (is_digits (without_sign text)) zeros
  where
    after : ℕ → Result ℤ Reason
    after k = Ok (signed_value text (to_units (zero_filled (without_sign text) k) d))

    leading : (t : Bool) → IfErr (cond t (Ok (i + d - length (without_sign text))) (Err TooManyDigits) >>= after) (Contains (BadNumber ∷ NoZeros ∷ TooManyDigits ∷ []))
    leading true = tt
    leading false = third BadNumber NoZeros TooManyDigits []

    trailing : (t : Bool) → IfErr (cond t (Ok 0) (Err TooManyDigits) >>= after) (Contains (BadNumber ∷ NoZeros ∷ TooManyDigits ∷ []))
    trailing true = tt
    trailing false = third BadNumber NoZeros TooManyDigits []

    full : (t : Bool) → IfErr (cond t (Ok 0) (Err NoZeros) >>= after) (Contains (BadNumber ∷ NoZeros ∷ TooManyDigits ∷ []))
    full true = tt
    full false = second BadNumber NoZeros (TooManyDigits ∷ [])

    by : (s : Bool) (z : Zeros) → IfErr (cond s (zeros_to_fill z (i + d) (length (without_sign text)) >>= after) (Err BadNumber)) (Contains (BadNumber ∷ NoZeros ∷ TooManyDigits ∷ []))
    by false z = first BadNumber (NoZeros ∷ TooManyDigits ∷ [])
    by true Leading = leading (nat_le (length (without_sign text)) (i + d))
    by true Trailing = trailing (nat_le (length (without_sign text)) (i + d))
    by true Full = full (length (without_sign text) == i + d)

pub lengths : LengthReasons
unfolding within_limit
lengths z = by (is_too_far z)
  where
    by : (t : Bool) → IfErr (cond t (Err TooFar) (Ok z)) (Contains (TooFar ∷ []))
    by true = first TooFar []
    by false = tt
