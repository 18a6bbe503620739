-- The values of expressions in a macro (Gerber format, Aperture macro AM, Arithmetic expressions). A value is a whole number of 10^-8
-- of the file's unit. What would have to be rounded has no value, but for a diameter that is a product.
use Rattle.std.specs.Prelude.{◌≡◌, ℕ, suc, ◌<◌, ℤ, pos, neg_ℤ, ◌+ℤ◌, ◌-ℤ◌, ◌-◌, ◌*◌, ◌/◌, ◌%◌, ◌^◌, ◌≤◌, Bool, false, not, ◌||◌, ◌==◌, ◌⊎◌, nat_le, int_lt, unsigned_abs, List, [], ◌∷◌, ◌++◌, length, get_or, if◌then◌else◌, Option, None, Some, is_some, codes}
use Rattle.std.specs.Result.{result_ok}
use Rattle.std.specs.List.{list_any}
use Rattle.grid_units.specs.Ascii as ascii
use Rattle.grid_units.specs.Numbers.{is_digits, value as digits_value, parse_decimal, max_units}
use Rattle.macro_shapes.specs.Signs.{sign_of}
use Rattle.macro_shapes.specs.declared.sign.Sign.{Sign}
use Rattle.macro_shapes.specs.declared.sign.Sign.TheVariants.{Add, Multiply}
use Rattle.macro_shapes.specs.declared.sign.Addition.TheVariants.{Plus, Minus}
use Rattle.macro_shapes.specs.declared.sign.Multiplication.TheVariants.{Times, Over}

-- ---- variables

-- the value of each variable that has one, by its number: of `$1`, `$2` and so on
abbrev pub Environment : Type 0
Environment = ℕ → Option ℤ

-- the values in a list, whose first is that of `$1`
abbrev pub lookup : List (Option ℤ) → Environment
lookup values number = if number == 0 then None else get_or values (number - 1) None

-- the variables after `$number=` has given one of them a value
abbrev pub with_value : Environment → ℕ → ℤ → Environment
with_value variables number v other = if other == number then Some v else variables other

-- ---- arithmetic

-- a value in range, at most 999,999.99999999 in absolute value; a greater number is no value
abbrev pub in_range : ℤ → Option ℤ
in_range z = if nat_le (unsigned_abs z) max_units then Some z else None

-- the quotient of two numbers with its sign, where the division leaves no rest: the v of v * divisor = dividend
unfoldable pub exact_quotient : Bool → ℕ → ℕ → Option ℤ
exact_quotient negative dividend divisor =
    if (divisor == 0) || not (dividend % divisor == 0) then None else in_range (if negative then neg_ℤ (pos (dividend / divisor)) else pos (dividend / divisor))

-- the signs of two numbers differ
abbrev pub have_other_signs : ℤ → ℤ → Bool
have_other_signs a b = if int_lt a (pos 0) then not (int_lt b (pos 0)) else int_lt b (pos 0)

-- a times b, exactly: the v of v * 10^8 = a * b
abbrev pub product : ℤ → ℤ → Option ℤ
product a b = exact_quotient (have_other_signs a b) (unsigned_abs a * unsigned_abs b) (10 ^ 8)

-- a times b, rounded down, where their signs are the same: the greatest v with v * 10^8 at most a * b
abbrev pub product_below : ℤ → ℤ → Option ℤ
product_below a b = if have_other_signs a b then None else in_range (pos (unsigned_abs a * unsigned_abs b / 10 ^ 8))

-- a divided by b, exactly: the v of v * b = a * 10^8; none where b is 0
abbrev pub quotient : ℤ → ℤ → Option ℤ
quotient a b = exact_quotient (have_other_signs a b) (unsigned_abs a * 10 ^ 8) (unsigned_abs b)

-- what a sign of a sum makes of two values: `2+$1`, `2-$1`; no other sign makes anything of them
abbrev pub added_by : Option Sign → ℤ → ℤ → Option ℤ
added_by (Some (Add Plus)) a b = in_range (a +ℤ b)
added_by (Some (Add Minus)) a b = in_range (a -ℤ b)
added_by _ a b = None

-- what a sign of a product makes of two values: `2x$1`, `2/$1`; no other sign makes anything of them
abbrev pub multiplied_by : Option Sign → ℤ → ℤ → Option ℤ
multiplied_by (Some (Multiply Times)) a b = product a b
multiplied_by (Some (Multiply Over)) a b = quotient a b
multiplied_by _ a b = None

-- ---- operands

-- the variable of a number, or a decimal: `$12`, `0.5`
unfoldable pub operand_value : Environment → List ℕ → Option ℤ
operand_value variables [] = None
operand_value variables (b ∷ bs) = if b == ascii.dollar then (if is_digits bs then variables (digits_value bs) else None) else result_ok (parse_decimal (b ∷ bs))

-- ---- expressions

-- A text is an expression with this value, such as `-($1+2)x3`, where so many brackets are open. Values are made from left to right.
mutual
  -- a sum: one term; or a term after a sign, which counts from 0; or a sum, a sign and one more term
  pub data IsSum (variables : Environment) : ℕ → List ℕ → ℤ → Type 0 where
    one_term : (n : ℕ) (text : List ℕ) (v : ℤ) → IsTerm variables n text v → IsSum variables n text v
    signed : (n : ℕ) (text : List ℕ) (v : ℤ) (b : ℕ) (last : List ℕ) (w : ℤ)
        → text ≡ b ∷ last → IsTerm variables n last w → added_by (sign_of b) (pos 0) w ≡ Some v → IsSum variables n text v
    more_terms : (n : ℕ) (text : List ℕ) (v : ℤ) (first last : List ℕ) (b : ℕ) (u w : ℤ)
        → text ≡ first ++ b ∷ last → IsSum variables n first u → IsTerm variables n last w → added_by (sign_of b) u w ≡ Some v → IsSum variables n text v

  -- a product: one factor; or a product, a sign and one more factor
  pub data IsTerm (variables : Environment) : ℕ → List ℕ → ℤ → Type 0 where
    one_factor : (n : ℕ) (text : List ℕ) (v : ℤ) → IsFactor variables n text v → IsTerm variables n text v
    more_factors : (n : ℕ) (text : List ℕ) (v : ℤ) (first last : List ℕ) (b : ℕ) (u w : ℤ)
        → text ≡ first ++ b ∷ last → IsTerm variables n first u → IsFactor variables n last w → multiplied_by (sign_of b) u w ≡ Some v → IsTerm variables n text v

  -- a variable or a decimal, or a sum in brackets, of which at most 16 are open at once
  pub data IsFactor (variables : Environment) : ℕ → List ℕ → ℤ → Type 0 where
    operand : (n : ℕ) (text : List ℕ) (v : ℤ)
        → list_any (λ b. is_some (sign_of b)) text ≡ false → operand_value variables text ≡ Some v → IsFactor variables n text v
    brackets : (n : ℕ) (text : List ℕ) (v : ℤ) (inner : List ℕ)
        → text ≡ codes "(" ++ (inner ++ codes ")") → n < 16 → IsSum variables (suc n) inner v → IsFactor variables n text v

-- a text of at most 1000 bytes is an expression with this value
abbrev pub IsValue : Environment → List ℕ → ℤ → Type 0
IsValue variables text v = (length text ≤ 1000) × IsSum variables 0 text v

-- a text is a product as a whole, such as `1.08239X$1`, of two values; v is that product, rounded down
abbrev pub IsRoundedProduct : Environment → List ℕ → ℤ → Type 0
IsRoundedProduct variables text v = (first last : List ℕ) × (b : ℕ) × (u w : ℤ) × (text ≡ first ++ b ∷ last) × (sign_of b ≡ Some (Multiply Times))
    × IsTerm variables 0 first u × IsFactor variables 0 last w × (product_below u w ≡ Some v)

-- a text of at most 1000 bytes spells a diameter with this value: that of the expression or, where it has none, of a product, rounded down
abbrev pub IsDiameter : Environment → List ℕ → ℤ → Type 0
IsDiameter vars text v = IsValue vars text v ⊎ (((u : ℤ) → IsValue vars text u → ⊥) × (length text ≤ 1000) × IsRoundedProduct vars text v)
