-- Signed numbers, as calls pass them on.
use Rattle.board.proofs.Common.{◌≡◌, ℤ, ◌<◌, w64, to_z, of_z, subst, sym, ap, ◌∙◌, arith, unsigned_abs, int_min, ints}
use Rattle.std.specs.Prelude.{ℕ, pos}
use Rattle.std.specs.Int.Signed.{mag}

-- a signed number is itself after it is passed on
pub same : (z : ℤ) → mag z < 9223372036854775808 → to_z w64 (of_z w64 z) ≡ z
same z fits = omega (arith, ints)

-- what holds of a number holds of it after it is passed on
pub on : (P : ℤ → Type 0) (z w : ℤ) → mag z < 9223372036854775808 → z ≡ w → P w → P (to_z w64 (of_z w64 z))
on P z w fits is h = subst P (sym (same z fits ∙ is)) h

-- the lesser of two numbers that were passed on
pub lesser : (x y : ℤ) → mag x < 9223372036854775808 → mag y < 9223372036854775808 → int_min (to_z w64 (of_z w64 x)) (to_z w64 (of_z w64 y)) ≡ int_min x y
lesser x y fits_x fits_y = ap (λ (z : ℤ). int_min z (to_z w64 (of_z w64 y))) (same x fits_x) ∙ ap (int_min x) (same y fits_y)

-- the absolute value of a natural number that was passed on
pub natural : (z : ℤ) (n m : ℕ) → mag z < 9223372036854775808 → z ≡ pos n → m ≡ unsigned_abs (to_z w64 (of_z w64 z)) → m ≡ n
natural z n m fits is value = value ∙ ap unsigned_abs (same z fits ∙ is)
