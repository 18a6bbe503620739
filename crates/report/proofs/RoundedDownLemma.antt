-- A coordinate times a factor is rounded down.
use Rattle.report.proofs.Common.{◌↔◌, ℤ, negsuc, arith, ◌*ℤ◌, ints, IsRoundedDown}
use Rattle.std.proofs.Common.{pos}
use Rattle.std.specs.Prelude.{◌≤ℤ◌}
use Rattle.std.specs.Int.{int_div_euclid}
use Rattle.report.specs.declared.UnitFactor.TheVariants as kind

by_one : (a w : ℤ) → ((pos 1 *ℤ w) ≤ℤ a) ↔ (w ≤ℤ int_div_euclid a (pos 1))
by_one (pos a) w = (λ h. omega (arith, ints, h), λ h. omega (arith, ints, h))
by_one (negsuc a) w = (λ h. omega (arith, ints, h), λ h. omega (arith, ints, h))

by_ten : (a w : ℤ) → ((pos 10 *ℤ w) ≤ℤ a) ↔ (w ≤ℤ int_div_euclid a (pos 10))
by_ten (pos a) w = (λ h. omega (arith, ints, h), λ h. omega (arith, ints, h))
by_ten (negsuc a) w = (λ h. omega (arith, ints, h), λ h. omega (arith, ints, h))

by_inch : (a w : ℤ) → ((pos 254 *ℤ w) ≤ℤ a) ↔ (w ≤ℤ int_div_euclid a (pos 254))
by_inch (pos a) w = (λ h. omega (arith, ints, h), λ h. omega (arith, ints, h))
by_inch (negsuc a) w = (λ h. omega (arith, ints, h), λ h. omega (arith, ints, h))

pub rounded_down : IsRoundedDown
rounded_down kind.Ten z w = by_one (pos 10 *ℤ z) w
rounded_down kind.Tenth z w = by_ten (pos 1 *ℤ z) w
rounded_down kind.Inch z w = by_ten (pos 254 *ℤ z) w
rounded_down kind.PerInch z w = by_inch (pos 10 *ℤ z) w
