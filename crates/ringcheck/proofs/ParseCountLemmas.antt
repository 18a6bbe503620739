-- The number of findings that a word names.
use Rattle.ringcheck.proofs.Common.{◌≡◌, ◌≤◌, ◌∙◌, ℕ, List, Result, Ok, length, min, true, ap, sym, refl, arith, nat_le, le-leb, Reason, parse_count}
use Rattle.std.specs.Prelude.{◌&&◌}
use Rattle.grid_units.specs.Numbers.{is_digits, value}
use Rattle.grid_units.proofs.DigitLemmas.{nine_digits}

abbrev counted : ℕ → Result ℕ Reason
counted n = Ok n

-- the number that at most nine digits spell
pub count_is : (text : List ℕ) (n : ℕ) → is_digits text ≡ true → length text ≤ 9 → n ≡ min (value text) 999999999 → counted n ≡ parse_count text
unfolding parse_count
count_is text n digits short e =
    let same : n ≡ value text = omega (arith, nine_digits text digits short, e) in
    let fits : (is_digits text && nat_le (length text) 9) ≡ true = rw (digits, le-leb (length text) 9 short) refl in
    ap counted same ∙ sym (rw fits refl)
