-- The pieces of a macro: comments, definitions of variables, and primitives with the values of their fields (Gerber format, Aperture macro AM).
use Rattle.std.specs.Prelude.{◌≡◌, ◌↔◌, ℕ, ℤ, ◌≤◌, Bool, ◌&&◌, ◌||◌, ◌==◌, nat_le, ◌+◌, false, ⊤, List, [], ◌∷◌, length, drop, map, if◌then◌else◌, Option, None, Some, option_map, option_and_then, Ok, MatchOption, codes, take_while}
use Rattle.std.specs.Bool.{MatchBool}
use Rattle.std.specs.List.{prefix_len}
use Rattle.std.specs.Str.{bytes_eq}
use Rattle.grid_units.specs.Ascii as ascii
use Rattle.grid_units.specs.Numbers.{is_digit, is_digits, is_number_char, value, parse_decimal}
use Rattle.grid_units.specs.Rows.{strip_prefix, split_by}
use Rattle.macro_shapes.specs.Values.{Environment, lookup, with_value, IsValue, IsDiameter}
use Rattle.macro_shapes.specs.declared.piece.Code.{Code}
use Rattle.macro_shapes.specs.declared.piece.Code.TheVariants as code
use Rattle.macro_shapes.specs.declared.fields.Fields.{Fields}

-- ---- parameters

-- the largest number of a variable, and so the most parameters
abbrev pub max_variables : ℕ
max_variables = 999

-- the values of `$1`, `$2` and so on at the start: the parameters, each a decimal, divided by `X` (Gerber format, Aperture definition AD): `0.5X-1`
abbrev pub AreParameters : Option (List ℕ) → List (Option ℤ) → Type 0
AreParameters None values = values ≡ []
AreParameters (Some text) values =
    (decimals : List ℤ) × (length decimals ≤ max_variables) × (map parse_decimal (split_by ascii.upper_x text) ≡ map Ok decimals) × (values ≡ map Some decimals)

-- ---- comments

-- `0`, alone or before a byte that is neither of a number nor a comma: `0 a pad` (Gerber format, Comment, code 0)
abbrev pub is_comment : List ℕ → Bool
is_comment piece = bytes_eq (take_while (λ b. is_number_char b || (b == ascii.comma)) piece) (codes "0")

-- ---- definitions of variables

-- the number of a variable, from 1 to 999, and an expression after `=`
abbrev pub variable_definition : List ℕ → List ℕ → Option (ℕ × List ℕ)
variable_definition digits rest =
    if is_digits digits && (nat_le 1 (value digits) && nat_le (value digits) max_variables)
    then option_map (λ text. (value digits, text)) (strip_prefix (codes "=") rest) else None

-- the variable that a piece defines, and its expression: `$4=$1x0.5` (Gerber format, Aperture macro AM, Definition of a new variable)
abbrev pub definition : List ℕ → Option (ℕ × List ℕ)
definition piece = option_and_then (λ rest. variable_definition (take_while is_digit rest) (drop (prefix_len is_digit rest) rest)) (strip_prefix (codes "$") piece)

-- ---- primitives

-- the primitive of a code that is judged: a circle, a vector line, a centre line, an outline or a polygon (Gerber format, Aperture macro AM)
abbrev pub code_of : List ℕ → Option Code
code_of text =
    if bytes_eq text (codes "1") then Some code.Circle
    else if bytes_eq text (codes "20") then Some code.VectorLine
    else if bytes_eq text (codes "21") then Some code.CentreLine
    else if bytes_eq text (codes "4") then Some code.Outline
    else if bytes_eq text (codes "5") then Some code.Polygon else None

-- the field of this number, from 0, is a diameter: that of a circle, or that of the circle about a polygon (Gerber format, Circle, code 1; Polygon, code 5)
abbrev pub is_diameter : Code → ℕ → Bool
is_diameter code.Circle n = n == 1
is_diameter code.Polygon n = n == 4
is_diameter _ n = false

-- the fields of a primitive from this number on have these values
abbrev pub AreFields : Environment → Code → ℕ → List (List ℕ) → List ℤ → Type 0
AreFields vars c n [] [] = ⊤
AreFields vars c n (text ∷ texts) (v ∷ vs) = MatchBool (is_diameter c n) (IsDiameter vars text v) (IsValue vars text v) × AreFields vars c (n + 1) texts vs
AreFields vars c n _ _ = ⊥

-- the fields of a primitive, divided by `,`: its code, and expressions: `1,1,0.5,0,0`
pub record SpellsFields (variables : Environment) (piece : List ℕ) (fields : Fields) : Type 0 where
  pub code_text : List ℕ
  pub texts : List (List ℕ)
  pub parts : split_by ascii.comma piece ≡ code_text ∷ texts
  pub judged : code_of code_text ≡ Some fields.code
  pub valued : AreFields variables fields.code 0 texts fields.values

-- the primitives that pieces spell in order, from these variables on: a comment none, and a definition gives a variable a value for the pieces after it
abbrev pub SpellPrimitives : Environment → List (List ℕ) → List Fields → Type 0
SpellPrimitives variables [] found = found ≡ []
SpellPrimitives variables (piece ∷ pieces) found =
    MatchBool (is_comment piece) (SpellPrimitives variables pieces found) (MatchOption (definition piece)
    ((fields : Fields) × (others : List Fields) × SpellsFields variables piece fields × SpellPrimitives variables pieces others × (found ≡ fields ∷ others))
    (λ d. (v : ℤ) × IsValue variables d.1 v × SpellPrimitives (with_value variables d.0 v) pieces found))

-- the primitives of a macro with these parameters
abbrev pub IsMacro : List (List ℕ) → Option (List ℕ) → List Fields → Type 0
IsMacro pieces parameters found = (values : List (Option ℤ)) × AreParameters parameters values × SpellPrimitives (lookup values) pieces found

-- An answer on a macro with these parameters: its primitives, or None where it has none. There is just one.
pub record MacroAnswer (pieces : List (List ℕ)) (parameters : Option (List ℕ)) : Type 0 where
  pub primitives : Option (List Fields)
  pub exact : (found : List Fields) → (primitives ≡ Some found) ↔ IsMacro pieces parameters found
