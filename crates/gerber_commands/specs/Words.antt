-- What a word spells: the rows of its table, in their order (docs/FORMATS.md, Words; How a row fits and is read).
use Rattle.std.specs.Prelude.{ℕ, Bool, true, false, not, ◌&&◌, ◌||◌, ◌==◌, nat_le, List, [], ◌∷◌, ◌++◌, length, drop, if◌then◌else◌, Option, None, Some, unwrap_or, is_some, Result, Ok, Err, is_ok, codes, ℤ}
use Rattle.std.specs.Option.{ok_or, option_map, option_or}
use Rattle.std.specs.List.{list_any, list_all, prefix_len, take_while}
use Rattle.std.specs.Str.{bytes_eq}
use Rattle.grid_units.specs.Results.{◌>>=◌, both}
use Rattle.grid_units.specs.declared.fault.Reason.{Reason}
use Rattle.grid_units.specs.declared.fault.Reason.TheVariants.{BadWord, BareCoordinate, NegativeImage, Incremental, OldParameter}
use Rattle.gerber_commands.specs.declared.command.Command.TheVariants.{Comment, Mode, Quadrant, RegionStart, RegionEnd, UnitIs, Select, Operate, Finish}
use Rattle.grid_units.specs.declared.lengths.Unit.TheVariants.{Inch, Millimetre}
use Rattle.gerber_commands.specs.declared.command.Interpolation.{Interpolation}
use Rattle.gerber_commands.specs.declared.command.Interpolation.TheVariants.{Linear, Clockwise, Counterclockwise}
use Rattle.gerber_commands.specs.declared.command.QuadrantMode.TheVariants.{Single, Multi}
use Rattle.gerber_commands.specs.declared.command.Action.{Action}
use Rattle.gerber_commands.specs.declared.command.Action.TheVariants.{Plot, Move, Flash}
use Rattle.grid_units.specs.Numbers.{is_digit, is_number_char}
use Rattle.gerber_commands.specs.Numbers.{int_of, nat_of}
use Rattle.grid_units.specs.Rows.{strip_prefix, literal_row}
use Rattle.gerber_commands.specs.Rows.{Meaning, Row, first_match, field, modes_of}
use Rattle.grid_units.specs.Ascii as ascii
use Rattle.gerber_commands.specs.Negative.{is_negative_comment}

-- ---- empty; `G90`: nothing

-- the empty word, and `G90` for absolute coordinates, spell nothing (Gerber format, Deprecated G90)
unfoldable pub no_effect_row : List ℕ → Row
no_effect_row text = if (length text == 0) || bytes_eq text (codes "G90") then Some (Ok []) else None

-- ---- `G04` text

-- a comment of this text, or NegativeImage (Gerber format, Comment G04)
unfoldable pub comment : List ℕ → Meaning
comment text = if is_negative_comment text then Err NegativeImage else Ok (Comment text ∷ [])

-- `G04` and any text, as `G04 top copper` (Gerber format, Comment G04)
abbrev pub comment_row : List ℕ → Row
comment_row text = option_map comment (strip_prefix (codes "G04") text)

-- ---- `G01`, `G02`, `G03` (or `G1`, `G2`, `G3`)

-- the words of a line, a clockwise and a counterclockwise arc, with two digits or one (Gerber format, Plot state G01, G02, G03)
abbrev pub interpolations : List (List ℕ × Interpolation)
interpolations =
    (codes "G01", Linear) ∷ (codes "G1", Linear) ∷ (codes "G02", Clockwise) ∷ (codes "G2", Clockwise) ∷ (codes "G03", Counterclockwise) ∷ (codes "G3", Counterclockwise) ∷ []

-- the first of these words that the text begins with, and the bytes after it; all bytes where it begins with none
abbrev pub match_mode : List (List ℕ × Interpolation) → List ℕ → Option Interpolation × List ℕ
match_mode [] text = (None, text)
match_mode (w ∷ words) text = unwrap_or (option_map (λ rest. (Some w.1, rest)) (strip_prefix w.0 text)) (match_mode words text)

-- the interpolation at the start of a word, and the bytes after it: `G01X5D01` gives Linear and `X5D01`
unfoldable pub split_mode : List ℕ → Option Interpolation × List ℕ
split_mode text = match_mode interpolations text

-- an interpolation alone, as `G02` (Gerber format, Plot state G01, G02, G03)
unfoldable pub mode_row : List ℕ → Row
mode_row text = if length (split_mode text).1 == 0 then option_map (λ mode. Ok (Mode mode ∷ [])) (split_mode text).0 else None

-- ---- `G74`, `G75`; `G36`, `G37`; `G70`, `G71`; `G91`

-- how the centre of an arc is found: `G74` in a single quadrant, `G75` in several (Gerber format, G75 and G74)
unfoldable pub quadrant_row : List ℕ → Row
quadrant_row text = literal_row ((codes "G74", Ok (Quadrant Single ∷ [])) ∷ (codes "G75", Ok (Quadrant Multi ∷ [])) ∷ []) text

-- `G36` starts a region, `G37` ends it (Gerber format, Region statement G36/G37)
unfoldable pub region_row : List ℕ → Row
region_row text = literal_row ((codes "G36", Ok (RegionStart ∷ [])) ∷ (codes "G37", Ok (RegionEnd ∷ [])) ∷ []) text

-- the unit by an older code: `G70` is inch, `G71` millimetre (Gerber format, Deprecated G70 and G71)
unfoldable pub unit_row : List ℕ → Row
unit_row text = literal_row ((codes "G70", Ok (UnitIs Inch ∷ [])) ∷ (codes "G71", Ok (UnitIs Millimetre ∷ [])) ∷ []) text

-- `G91`, incremental coordinates, which are refused (Gerber format, Deprecated G91)
unfoldable pub incremental_row : List ℕ → Row
incremental_row text = literal_row ((codes "G91", Err Incremental) ∷ []) text

-- ---- `D` Nat; `G54D` Nat

-- the operation of a D code: 1 plots, 2 moves, 3 flashes, any other is BadWord (Gerber format, Operations D01, D02, D03)
abbrev pub action : ℕ → Result Action Reason
action n = if n == 1 then Ok Plot else if n == 2 then Ok Move else if n == 3 then Ok Flash else Err BadWord

-- the digits after this prefix, if nothing else follows it: `10` of `D10`, none of `D10X`
abbrev pub digits_after : List ℕ → List ℕ → Option (List ℕ)
digits_after prefix text = if list_all is_digit (unwrap_or (strip_prefix prefix text) []) then strip_prefix prefix text else None

-- `D` and a number: 10 and above selects an aperture, 1 to 3 are operations without coordinates (Gerber format, Set current aperture Dnn)
unfoldable pub d_word : List ℕ → Meaning
d_word digits = nat_of digits >>= λ n. if nat_le 10 n then Ok (Select n ∷ []) else (action n >>= λ what. Ok (Operate what None None None None ∷ []))

-- `G54D` and a number of 10 and above selects an aperture, as `G54D10` (Gerber format, Deprecated G54)
unfoldable pub g54_word : List ℕ → Meaning
g54_word digits = nat_of digits >>= λ n. if nat_le 10 n then Ok (Select n ∷ []) else Err BadWord

-- a D code without coordinates, as `D10`, `D03` or `G54D10` (Gerber format, Set current aperture Dnn)
unfoldable pub select_row : List ℕ → Row
select_row text = option_or (option_map d_word (digits_after (codes "D") text)) (option_map g54_word (digits_after (codes "G54D") text))

-- ---- [mode] [`X` Int] [`Y` Int] [`I` Int] [`J` Int] [`D` Nat]

-- the Int of a coordinate's run, or that the coordinate is left out (Gerber format, Coordinate data)
unfoldable pub coordinate : Option (List ℕ) → Result (Option ℤ) Reason
coordinate None = Ok None
coordinate (Some run) = int_of run >>= λ n. Ok (Some n)

-- `D01`, the only operation that may have the offsets I and J (Gerber format, Operations D01, D02, D03)
abbrev pub is_plot : Action → Bool
is_plot Plot = true
is_plot _ = false

-- the operation by the digits of its D code; without a D code the last one again, where it is repeated (Gerber format, Coordinate data without operation code)
abbrev pub named_action : Option (List ℕ) → Option Action → Result Action Reason
named_action digits last = unwrap_or (option_map (λ run. nat_of run >>= action) digits) (ok_or last BareCoordinate)

-- the operation of a word, BadWord for a move or flash with an offset I or J (Gerber format, Operations D01, D02, D03)
unfoldable pub kind : Option Action → Bool → Option (List ℕ) → Result Action Reason
kind last offsets digits = named_action digits last >>= λ what. if offsets && not (is_plot what) then Err BadWord else Ok what

-- the fields of an operation: the run of each letter that stands, and the bytes left over
pub record Fields : Type 0 where
  pub x : Option (List ℕ)
  pub y : Option (List ℕ)
  pub i : Option (List ℕ)
  pub j : Option (List ℕ)
  pub d : Option (List ℕ)
  pub rest : List ℕ

-- the fields X, Y, I, J and D in this order, as in `X10Y20I5J0D01`
unfoldable pub fields : List ℕ → Fields
fields text =
    let x = field is_number_char ascii.upper_x text in
    let y = field is_number_char ascii.upper_y x.1 in
    let i = field is_number_char ascii.upper_i y.1 in
    let j = field is_number_char ascii.upper_j i.1 in
    let d = field is_digit ascii.upper_d j.1 in
    record { x = x.0; y = y.0; i = i.0; j = j.0; d = d.0; rest = d.1 }

-- a D code stands, of 1, 2 or 3
unfoldable pub is_action_code : Option (List ℕ) → Bool
is_action_code None = false
is_action_code (Some digits) = is_ok (nat_of digits >>= action)

-- nothing is left over, and a coordinate stands or a D code of 1, 2 or 3
abbrev pub is_operation : Fields → Bool
is_operation f = (length f.rest == 0) && (is_some f.x || (is_some f.y || (is_some f.i || (is_some f.j || is_action_code f.d))))

-- an offset I or J stands, of an arc's centre from its start (Gerber format, Coordinate data)
abbrev pub has_offsets : Fields → Bool
has_offsets f = is_some f.i || is_some f.j

-- the values of X and Y, of I and J, and the operation; or the first reason in the reading order
unfoldable pub operands : Option Action → Fields → Result (((Option ℤ × Option ℤ) × (Option ℤ × Option ℤ)) × Action) Reason
operands last f = both (both (both (coordinate f.x) (coordinate f.y)) (both (coordinate f.i) (coordinate f.j))) (kind last (has_offsets f) f.d)

-- the commands of these fields: the Mode, if the word names one, and the Operate (Gerber format, Operations D01, D02, D03)
unfoldable pub operate : Option Action → Option Interpolation → Fields → Meaning
operate last mode f = operands last f >>= λ r. Ok (modes_of mode ++ Operate r.1 r.0.0.0 r.0.0.1 r.0.1.0 r.0.1.1 ∷ [])

-- an operation, optionally after an interpolation: `G01X10Y20D01`, `X5D03` (Gerber format, Operations D01, D02, D03)
unfoldable pub operation_row : Option Action → List ℕ → Row
operation_row last text = if is_operation (fields (split_mode text).1) then Some (operate last (split_mode text).0 (fields (split_mode text).1)) else None

-- ---- `M02`, `M2`; `M00`, `M01`, `N`

-- `M02` or `M2`, the end of the text (Gerber format, End-of-file M02)
unfoldable pub finish_row : List ℕ → Row
finish_row text = if bytes_eq text (codes "M02") || bytes_eq text (codes "M2") then Some (Ok (Finish ∷ [])) else None

-- stops and line numbers, as `M00`, `M01`, `N10`, which are refused (Gerber format, Deprecated commands)
unfoldable pub deprecated_row : List ℕ → Row
deprecated_row text = if bytes_eq text (codes "M00") || (bytes_eq text (codes "M01") || is_some (strip_prefix (codes "N") text)) then Some (Err OldParameter) else None

-- ---- the table

-- the rows of words after that of comments
abbrev pub words_after_comment : Option Action → List ℕ → List Row
words_after_comment last text =
    mode_row text
    ∷ quadrant_row text
    ∷ region_row text
    ∷ unit_row text
    ∷ incremental_row text
    ∷ select_row text
    ∷ operation_row last text
    ∷ finish_row text
    ∷ deprecated_row text
    ∷ []

-- all rows of words
abbrev pub words : Option Action → List ℕ → List Row
words last text = no_effect_row text ∷ comment_row text ∷ words_after_comment last text

-- A word without its `*`, given the last operation, where coordinates alone repeat it. A word with a `%` is BadWord.
unfoldable pub word : Option Action → List ℕ → Meaning
word last text = if list_any (λ b. b == ascii.percent) text then Err BadWord else first_match (words last text)
