-- The signs of an expression (Gerber format, Aperture macro AM, Arithmetic expressions).
use Rattle.std.specs.Prelude.{ℕ, ◌==◌, List, [], ◌∷◌, find, zip, Option, option_map, codes}
use Rattle.macro_shapes.specs.declared.sign.Sign.{Sign}
use Rattle.macro_shapes.specs.declared.sign.Sign.TheVariants.{Open, Close, Add, Multiply}
use Rattle.macro_shapes.specs.declared.sign.Addition.TheVariants.{Plus, Minus}
use Rattle.macro_shapes.specs.declared.sign.Multiplication.TheVariants.{Times, Over}

-- the signs of expressions, each with what it stands for: `x`, also written `X`, for times, and `/` for divided by
abbrev pub signs : List (ℕ × Sign)
signs = zip (codes "()+-xX/") (Open ∷ Close ∷ Add Plus ∷ Add Minus ∷ Multiply Times ∷ Multiply Times ∷ Multiply Over ∷ [])

-- what a byte stands for that is a sign
unfoldable pub sign_of : ℕ → Option Sign
sign_of b = option_map (λ row. row.1) (find (λ row. b == row.0) signs)
