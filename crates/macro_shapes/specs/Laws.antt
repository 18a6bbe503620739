-- Laws of the values of a macro, and of what it is read as.
use Rattle.std.specs.Prelude.{◌≡◌, ◌↔◌, ℕ, ℤ, pos, ◌^◌, ◌*ℤ◌, List, Option, Some}
use Rattle.macro_shapes.specs.Values.{product, quotient}
use Rattle.macro_shapes.specs.Pieces.{IsMacro}
use Rattle.macro_shapes.specs.Macros.{fields_of}
use Rattle.macro_shapes.specs.declared.fields.Fields.{Fields}

-- a product in units of 10^-8 is exact
abbrev pub ProductsAreExact : Type 0
ProductsAreExact = (a b v : ℤ) → product a b ≡ Some v → v *ℤ pos (10 ^ 8) ≡ a *ℤ b

-- a quotient in units of 10^-8 is exact
abbrev pub QuotientsAreExact : Type 0
QuotientsAreExact = (a b v : ℤ) → quotient a b ≡ Some v → v *ℤ b ≡ a *ℤ pos (10 ^ 8)

-- a macro with these parameters is read as primitives where these are the ones that its pieces spell, and only there
abbrev pub MacrosAreReadExactly : Type 0
MacrosAreReadExactly = (pieces : List (List ℕ)) (parameters : Option (List ℕ)) (found : List Fields) → (fields_of pieces parameters ≡ Some found) ↔ IsMacro pieces parameters found
