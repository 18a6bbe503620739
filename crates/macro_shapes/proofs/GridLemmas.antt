-- Points and rounded polygons that are made where they are in range.
use Rattle.macro_shapes.proofs.Common.{◌≡◌, ◌↔◌, ℤ, unsigned_abs, Bool, true, false, cond, Option, None, Some, refl, sym, ap, ◌∙◌, IsSome, IfSome, ◌&&◌, nat_le, leb-true, le-leb, and_parts, and_from, false≢true, GridPoint, IsCoordinate, max_coordinate, grid_point, arith, nat_tests}
use Rattle.macro_shapes.specs.Inner.Steps.{point_of}
use Rattle.std.specs.Prelude.{ℕ, not, nat_lt, option_and_then, Ok, Err}
use Rattle.std.specs.Result.{result_ok}
use Rattle.grid_units.specs.Numbers.{picometres, within_limit}
use Rattle.grid_units.specs.declared.lengths.Unit.{Unit as Units}
use Rattle.grid_units.specs.declared.fault.Reason.TheVariants.{TooFar}

pub grid_point_is : (r : Option GridPoint) (x y : ℤ) → IsSome r ↔ (IsCoordinate x × IsCoordinate y) → IfSome r (λ p. p ≡ record { x = x; y = y }) → r ≡ grid_point x y
grid_point_is r x y valid value = by (nat_le (unsigned_abs x) max_coordinate && nat_le (unsigned_abs y) max_coordinate) refl r valid value
  where
    by : (t : Bool) → (nat_le (unsigned_abs x) max_coordinate && nat_le (unsigned_abs y) max_coordinate) ≡ t → (r : Option GridPoint) → IsSome r ↔ (IsCoordinate x × IsCoordinate y) → IfSome r (λ p. p ≡ record { x = x; y = y })
        → r ≡ cond t (Some (record { x = x; y = y })) None
    by true e None valid value =
        let both = and_parts (nat_le (unsigned_abs x) max_coordinate) (nat_le (unsigned_abs y) max_coordinate) e in
        absurd (false≢true (valid.1 (leb-true (unsigned_abs x) max_coordinate both.0, leb-true (unsigned_abs y) max_coordinate both.1)))
    by true e (Some p) valid value = ap Some value
    by false e None valid value = refl
    by false e (Some p) valid value =
        let both = valid.0 refl in
        absurd (false≢true (sym e ∙ and_from (nat_le (unsigned_abs x) max_coordinate) (nat_le (unsigned_abs y) max_coordinate) (le-leb (unsigned_abs x) max_coordinate both.0) (le-leb (unsigned_abs y) max_coordinate both.1)))

above_is_not_within : (n m : ℕ) → nat_lt m n ≡ not (nat_le n m)
above_is_not_within n m = grind (arith, nat_tests)

-- a length beyond 10 m is that of no point
lengths_are_near : (x y : ℤ) → option_and_then (λ a. option_and_then (λ b. grid_point a b) (result_ok (within_limit y))) (result_ok (within_limit x)) ≡ grid_point x y
unfolding within_limit
lengths_are_near x y =
    (λ i. option_and_then (λ a. option_and_then (λ b. grid_point a b) (result_ok (cond (above_is_not_within (unsigned_abs y) max_coordinate i) (Err TooFar) (Ok y))))
    (result_ok (cond (above_is_not_within (unsigned_abs x) max_coordinate i) (Err TooFar) (Ok x))))
    ∙ by (nat_le (unsigned_abs x) max_coordinate) refl (nat_le (unsigned_abs y) max_coordinate) refl
  where
    by : (s : Bool) → nat_le (unsigned_abs x) max_coordinate ≡ s → (t : Bool) → nat_le (unsigned_abs y) max_coordinate ≡ t
        → option_and_then (λ a. option_and_then (λ b. grid_point a b) (result_ok (cond (not t) (Err TooFar) (Ok y)))) (result_ok (cond (not s) (Err TooFar) (Ok x))) ≡ cond (s && t) (Some (record { x = x; y = y })) None
    by true e true f = ap (λ (u : Bool). cond u (Some (record { x = x; y = y })) None) (λ i. e i && f i)
    by true e false f = refl
    by false e t f = refl

pub point_is : (unit : Units) (x y : ℤ) → point_of unit x y ≡ grid_point (picometres unit 8 x) (picometres unit 8 y)
point_is unit x y = lengths_are_near (picometres unit 8 x) (picometres unit 8 y)
