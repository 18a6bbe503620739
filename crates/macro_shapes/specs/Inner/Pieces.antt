-- The primitives of a macro, piece by piece.
use Rattle.std.specs.Prelude.{ℕ, ℤ, ◌+◌, nat_le, List, [], ◌∷◌, length, if◌then◌else◌, Option, None, Some, option_map, option_and_then}
use Rattle.std.specs.Option.{option_or}
use Rattle.std.specs.Result.{result_ok}
use Rattle.grid_units.specs.Ascii as ascii
use Rattle.grid_units.specs.Numbers.{parse_decimal}
use Rattle.macro_shapes.specs.Values.{Environment, with_value}
use Rattle.macro_shapes.specs.Inner.Reading.{start, final_value, final_product, run}
use Rattle.macro_shapes.specs.Pieces.{code_of, is_diameter, max_variables}
use Rattle.macro_shapes.specs.Inner.Bytes.{starts_comment, starts_definition}
use Rattle.macro_shapes.specs.declared.fields.Fields.{Fields}
use Rattle.macro_shapes.specs.declared.piece.Code.{Code}
use Rattle.grid_units.specs.Rows.{split_by}

-- the value of an expression
unfoldable pub value_of : Environment → List ℕ → Option ℤ
value_of variables text = if nat_le (length text) 1000 then option_and_then (λ e. final_value variables e.0 e.1) (run variables start [] text) else None

-- the value of a diameter: that of an expression, or else the product that this is as a whole, rounded down
abbrev pub diameter_of : Environment → List ℕ → Option ℤ
diameter_of vars text =
    option_or (value_of vars text) (if nat_le (length text) 1000 then option_and_then (λ e. final_product vars e.0 e.1) (run vars start [] text) else None)

-- the value of the field of this number
abbrev pub field_value : Environment → Code → ℕ → List ℕ → Option ℤ
field_value variables c n text = if is_diameter c n then diameter_of variables text else value_of variables text

-- the values of the fields from this number on
abbrev pub all_values : Environment → Code → ℕ → List (List ℕ) → Option (List ℤ)
all_values variables c n [] = Some []
all_values variables c n (text ∷ rest) = option_and_then (λ v. option_map (λ vs. v ∷ vs) (all_values variables c (n + 1) rest)) (field_value variables c n text)

-- the primitive of a code and the texts of its other fields
abbrev pub parts_fields : Environment → List (List ℕ) → Option Fields
parts_fields variables [] = None
parts_fields vars (code ∷ texts) = option_and_then (λ c. option_map (λ vs. record { code = c; values = vs }) (all_values vars c 0 texts)) (code_of code)

-- the primitive that a piece spells, where its code is judged and each field has a value
unfoldable pub piece_fields : Environment → List ℕ → Option Fields
piece_fields variables piece = parts_fields variables (split_by ascii.comma piece)

-- what a piece that is no comment adds to what those after it give
abbrev pub on_definition : Option (ℕ × List ℕ) → Environment → List ℕ → (Environment → Option (List Fields)) → Option (List Fields)
on_definition None variables piece go = option_and_then (λ f. option_map (λ fs. f ∷ fs) (go variables)) (piece_fields variables piece)
on_definition (Some d) variables piece go = option_and_then (λ v. go (with_value variables d.0 v)) (value_of variables d.1)

-- what a piece adds to what those after it give
abbrev pub on_piece : Environment → List ℕ → (Environment → Option (List Fields)) → Option (List Fields)
on_piece variables piece go = if starts_comment piece then go variables else on_definition (starts_definition piece) variables piece go

-- the primitives that pieces spell, from these variables on
abbrev pub fields_from : Environment → List (List ℕ) → Option (List Fields)
fields_from variables [] = Some []
fields_from variables (piece ∷ pieces) = on_piece variables piece (λ later. fields_from later pieces)

-- the values of parameters
abbrev pub all_decimals : List (List ℕ) → Option (List (Option ℤ))
all_decimals [] = Some []
all_decimals (text ∷ texts) = option_and_then (λ v. option_map (λ vs. Some v ∷ vs) (all_decimals texts)) (result_ok (parse_decimal text))

-- these values, where they are not too many
abbrev pub if_few : List (Option ℤ) → Option (List (Option ℤ))
if_few values = if nat_le (length values) max_variables then Some values else None

-- the values that the parameters of an aperture give to variables
unfoldable pub parameters_of : Option (List ℕ) → Option (List (Option ℤ))
parameters_of None = Some []
parameters_of (Some text) = option_and_then if_few (all_decimals (split_by ascii.upper_x text))
