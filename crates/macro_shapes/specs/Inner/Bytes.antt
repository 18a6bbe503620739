-- Comments, definitions of variables and the parts of an optional text, byte by byte.
use Rattle.std.specs.Prelude.{ℕ, Bool, false, not, ◌&&◌, ◌||◌, ◌==◌, nat_le, List, [], ◌∷◌, drop, if◌then◌else◌, Option, None, Some, option_map, take_while}
use Rattle.std.specs.List.{prefix_len}
use Rattle.grid_units.specs.Ascii as ascii
use Rattle.grid_units.specs.Numbers.{is_digit, is_digits, is_number_char, value}
use Rattle.macro_shapes.specs.Pieces.{max_variables}

-- a byte of a field: of a number, or the comma after it
abbrev pub is_field_byte : ℕ → Bool
is_field_byte b = is_number_char b || (b == ascii.comma)

-- a field goes on with one of these
abbrev pub goes_on : List ℕ → Bool
goes_on [] = false
goes_on (b ∷ bs) = is_field_byte b

-- a comment begins here: `0` and no field that goes on
abbrev pub starts_comment : List ℕ → Bool
starts_comment [] = false
starts_comment (b ∷ bs) = if b == ascii.digit_zero then not (goes_on bs) else false

-- the number of a variable, from 1 to 999
abbrev pub variable_number : List ℕ → Option ℕ
variable_number digits = if is_digits digits && (nat_le 1 (value digits) && nat_le (value digits) max_variables) then Some (value digits) else None

-- a number, and an expression after `=`
abbrev pub number_and_text : List ℕ → List ℕ → Option (ℕ × List ℕ)
number_and_text digits [] = None
number_and_text digits (b ∷ bs) = if b == 61 then option_map (λ n. (n, bs)) (variable_number digits) else None

-- a definition begins here: `$`, a number, and an expression after `=`
abbrev pub starts_definition : List ℕ → Option (ℕ × List ℕ)
starts_definition [] = None
starts_definition (b ∷ bs) = if b == ascii.dollar then number_and_text (take_while is_digit bs) (drop (prefix_len is_digit bs) bs) else None
