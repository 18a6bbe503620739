-- The primitives of a macro as a function of its pieces and the parameters of an aperture.
use Rattle.std.specs.Prelude.{ℕ, List, Option, option_and_then}
use Rattle.macro_shapes.specs.Values.{lookup}
use Rattle.macro_shapes.specs.Inner.Pieces.{fields_from, parameters_of}
use Rattle.macro_shapes.specs.declared.fields.Fields.{Fields}

-- the primitives of a macro with these parameters, where `IsMacro` allows some (law `macros_are_read_exactly`)
abbrev pub fields_of : List (List ℕ) → Option (List ℕ) → Option (List Fields)
fields_of pieces parameters = option_and_then (λ values. fields_from (lookup values) pieces) (parameters_of parameters)
