-- The integers of a Gerber text, Int and Nat (docs/FORMATS.md, The three kinds of number).
use Rattle.std.specs.Prelude.{ℕ, ◌&&◌, ◌==◌, nat_lt, nat_le, List, length, drop, if◌then◌else◌, Result, Ok, Err, ℤ}
use Rattle.std.specs.List.{prefix_len}
use Rattle.grid_units.specs.declared.fault.Reason.{Reason}
use Rattle.grid_units.specs.declared.fault.Reason.TheVariants.{BadNumber, TooManyDigits}
use Rattle.grid_units.specs.Numbers.{is_digits, value, without_sign, signed_value}
use Rattle.grid_units.specs.Ascii as ascii

-- the digits from the first one that is not `0`: `120` of `00120`
abbrev pub significant_digits : List ℕ → List ℕ
significant_digits digits = drop (prefix_len (λ b. b == ascii.digit_zero) digits) digits

-- an Int: an optional sign and digits, at most 12 after leading zeros; else BadNumber or TooManyDigits. `-0050` is -50
unfoldable pub int_of : List ℕ → Result ℤ Reason
int_of run =
    if is_digits (without_sign run) then (if nat_lt 12 (length (significant_digits (without_sign run))) then Err TooManyDigits else Ok (signed_value run (value (without_sign run))))
    else Err BadNumber

-- a Nat: one or more digits with a value of at most 2,147,483,647; else BadNumber. `010` is 10
unfoldable pub nat_of : List ℕ → Result ℕ Reason
nat_of digits = if is_digits digits && nat_le (value digits) 2147483647 then Ok (value digits) else Err BadNumber
