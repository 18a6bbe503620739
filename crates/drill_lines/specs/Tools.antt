-- The lines that define a tool and that pick one (docs/FORMATS.md, Drill lines).
use Rattle.std.specs.Prelude.{ℕ, ℤ, Bool, true, ◌||◌, ◌&&◌, ◌==◌, nat_le, List, [], ◌∷◌, drop, if◌then◌else◌, Result, Ok, Err, take_while, count_by}
use Rattle.std.specs.List.{list_all, list_any, prefix_len, after_first}
use Rattle.grid_units.specs.declared.fault.Reason.{Reason}
use Rattle.grid_units.specs.declared.fault.Reason.TheVariants.{BadLine, BadNumber}
use Rattle.grid_units.specs.Numbers.{is_digit, is_number_char, is_digits, value, parse_decimal}
use Rattle.grid_units.specs.Results.{◌>>=◌, both}
use Rattle.drill_lines.specs.declared.command.DrillCommand.{DrillCommand}
use Rattle.drill_lines.specs.declared.command.DrillCommand.TheVariants.{Tool, Pick}
use Rattle.grid_units.specs.Ascii as ascii

-- `.`, the decimal point (docs/FORMATS.md, Numbers)
abbrev pub is_point : ℕ → Bool
is_point b = b == ascii.point

-- `C`, the letter of a diameter
abbrev pub is_diameter_letter : ℕ → Bool
is_diameter_letter b = b == ascii.upper_c

-- `F`, `S`, `B`, `H` or `Z`, as of feed and speed, whose run is not read
abbrev pub is_skipped_letter : ℕ → Bool
is_skipped_letter b = (b == ascii.upper_f) || ((b == ascii.upper_s) || ((b == ascii.upper_b) || ((b == ascii.upper_h) || (b == ascii.upper_z))))

-- a letter of a tool's definition: `C`, or one of those that are skipped
abbrev pub is_tool_letter : ℕ → Bool
is_tool_letter b = is_diameter_letter b || is_skipped_letter b

-- the bytes begin with such a letter, or there are none
abbrev pub begins_with : (ℕ → Bool) → List ℕ → Bool
begins_with letter [] = true
begins_with letter (b ∷ bs) = letter b

-- such letters, each with a run, in any order: `F200S65C0.4`
abbrev pub are_fields : (ℕ → Bool) → List ℕ → Bool
are_fields letter bytes = begins_with letter bytes && list_all (λ b. letter b || is_number_char b) bytes

-- the number of a tool, from this one to 999: 1 where it is defined, 0 where it is picked
unfoldable pub tool_number : ℕ → List ℕ → Result ℕ Reason
tool_number least digits = if is_digits digits && (nat_le least (value digits) && nat_le (value digits) 999) then Ok (value digits) else Err BadNumber

-- a diameter: a decimal with a point, so `0.4` and not `4`
unfoldable pub diameter_of : List ℕ → Result ℤ Reason
diameter_of run = if list_any is_point run then parse_decimal run else Err BadNumber

-- the run after the first `C`: `0.4` of `F200C0.4S65`
abbrev pub diameter_run : List ℕ → List ℕ
diameter_run fields = take_while is_number_char (after_first is_diameter_letter fields)

-- the tool of these digits and fields, with exactly one `C`, and any of `F S B H Z`
unfoldable pub tool_fields : List ℕ → List ℕ → Result DrillCommand Reason
tool_fields digits fields =
    if are_fields is_tool_letter fields && (count_by is_diameter_letter fields == 1) then (both (tool_number 1 digits) (diameter_of (diameter_run fields)) >>= λ t. Ok (Tool t.0 t.1)) else Err BadLine

-- a tool's definition, after its `T`: `1C0.4` is tool 1 of 0.4 mm in a metric file
unfoldable pub tool_line : List ℕ → Result DrillCommand Reason
tool_line line = tool_fields (take_while is_digit line) (drop (prefix_len is_digit line) line)

-- the pick of these digits and fields, any of `F S B H Z`
unfoldable pub pick_fields : List ℕ → List ℕ → Result DrillCommand Reason
pick_fields digits fields = if are_fields is_skipped_letter fields then (tool_number 0 digits >>= λ n. Ok (Pick n)) else Err BadLine

-- a pick, after its `T`: `1` picks tool 1, and `0` picks none
unfoldable pub pick_line : List ℕ → Result DrillCommand Reason
pick_line line = pick_fields (take_while is_digit line) (drop (prefix_len is_digit line) line)
