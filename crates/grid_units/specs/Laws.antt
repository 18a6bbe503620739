-- Laws of steps in the plane, of looking back over a list, and of steps that may be refused.
use Rattle.std.specs.Prelude.{◌≡◌, ℕ, ℤ, ◌+◌, ◌≤◌, ◌<◌, ◌⊎◌, ◌+ℤ◌, unsigned_abs, List, [], ◌∷◌, ◌++◌, length, Option, Some, None, slice_get, Result, Ok, Err, IfErr}
use Rattle.std.specs.Option.{option_or}
use Rattle.std.specs.List.{flat_map, Contains}
use Rattle.grid_units.specs.Points.{square}
use Rattle.grid_units.specs.Lists.{last_set, with_prefixes, violations}
use Rattle.grid_units.specs.Numbers.{parse_decimal, parse_zero_filled, within_limit}
use Rattle.grid_units.specs.Results.{◌>>=◌}
use Rattle.grid_units.specs.declared.fault.Reason.TheVariants.{BadNumber, NoZeros, TooManyDigits, TooFine, TooFar}
use Rattle.grid_units.specs.declared.zero_filling.Zeros.{Zeros}

-- the square of the length of a step of a along one axis and b along the other
abbrev pub square_length : ℤ → ℤ → ℕ
square_length a b = square (unsigned_abs a) + square (unsigned_abs b)

-- a step of at most m and a step of at most n sum to at most m + n, all in squares of whole numbers
abbrev pub TriangleInequality : Type 0
TriangleInequality = (a b c d : ℤ) (m n : ℕ) → square_length a b ≤ square m → square_length c d ≤ square n → square_length (a +ℤ c) (b +ℤ d) ≤ square (m + n)

-- two such steps sum to less than m + n where one of them is less than its bound
abbrev pub StrictTriangleInequality : Type 0
StrictTriangleInequality = (a b c d : ℤ) (m n : ℕ) → square_length a b ≤ square m → square_length c d ≤ square n → (square_length a b < square m) ⊎ (square_length c d < square n) → square_length (a +ℤ c) (b +ℤ d) < square (m + n)

-- two lists in a row name last what the second names last, or where it names nothing, what the first does
abbrev pub LastSetOfAppend : {C : Type 0} → (C → Option ℤ) → Type 0
LastSetOfAppend {C} names = (cs ds : List C) → last_set names (cs ++ ds) ≡ option_or (last_set names ds) (last_set names cs)

-- one more element at the end adds what it gives after those before it, and changes nothing that they give
abbrev pub ExtendsByLast : {C : Type 0} → (List C → C → List ℤ) → Type 0
ExtendsByLast {C} gives = (cs : List C) (c : C) → flat_map (λ p. gives p.0 p.1) (with_prefixes (cs ++ c ∷ [])) ≡ flat_map (λ p. gives p.0 p.1) (with_prefixes cs) ++ gives cs c

-- an element that breaks a rule after lawful ones is the first break of the list, whatever follows it
abbrev pub IsFirstViolation : {C : Type 0} → (List C → C → Option ℤ) → Type 0
IsFirstViolation {C} broken = (cs ds : List C) (c : C) (r : ℤ) → violations broken cs ≡ [] → broken cs c ≡ Some r → slice_get (violations broken (cs ++ c ∷ ds)) 0 ≡ Some (length cs, r)

-- a lawful list with one more element that breaks no rule is lawful
abbrev pub StaysLegal : {C : Type 0} → (List C → C → Option ℤ) → Type 0
StaysLegal {C} broken = (cs : List C) (c : C) → violations broken cs ≡ [] → broken cs c ≡ None → violations broken (cs ++ c ∷ []) ≡ []

-- a chain of two steps gives a value only where both steps give one
abbrev pub BindIsOk : (A : Type 0) → Type 0
BindIsOk A = (r : Result A ℤ) (f : A → Result A ℤ) (y : A) → (r >>= f) ≡ Ok y → (x : A) × (r ≡ Ok x) × (f x ≡ Ok y)

-- a chain of two steps is refused only by its first step, or by the second on what the first gave
abbrev pub BindIsErr : (A : Type 0) → Type 0
BindIsErr A = (r : Result A ℤ) (f : A → Result A ℤ) (d : ℤ) → (r >>= f) ≡ Err d → (r ≡ Err d) ⊎ ((x : A) × (r ≡ Ok x) × (f x ≡ Err d))

-- a decimal is refused for no other reason than these three (docs/FORMATS.md, Numbers)
abbrev pub DecimalReasons : Type 0
DecimalReasons = (text : List ℕ) → IfErr (parse_decimal text) (Contains (BadNumber ∷ TooFine ∷ TooFar ∷ []))

-- a coordinate without a point is refused for no other reason than these three (docs/FORMATS.md, Coordinates of a drill file)
abbrev pub CoordinateReasons : Type 0
CoordinateReasons = (text : List ℕ) (i d : ℕ) (zeros : Zeros) → IfErr (parse_zero_filled text i d zeros) (Contains (BadNumber ∷ NoZeros ∷ TooManyDigits ∷ []))

-- a length is refused for no other reason than TooFar (docs/FORMATS.md, Limits)
abbrev pub LengthReasons : Type 0
LengthReasons = (length : ℤ) → IfErr (within_limit length) (Contains (TooFar ∷ []))
