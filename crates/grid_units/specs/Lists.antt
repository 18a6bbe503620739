-- Looking back over a finished list: what its elements name, and the first that breaks a rule.
use Rattle.std.specs.Prelude.{◌≡◌, ℕ, List, [], ◌∷◌, ◌++◌, length, Option, None}
use Rattle.std.specs.Option.{option_or, option_map}
use Rattle.std.specs.List.{filter_map}

-- the last thing that the elements of a list name, such as the tool picked last; None where no element names one
abbrev pub last_set : {C A : Type 0} → (C → Option A) → List C → Option A
last_set names [] = None
last_set names (c ∷ cs) = option_or (last_set names cs) (names c)

-- each element of a list with those before it; the elements `first` stand before the whole list
abbrev pub with_prefixes_from : {C : Type 0} → List C → List C → List (List C × C)
with_prefixes_from first [] = []
with_prefixes_from first (c ∷ cs) = (first, c) ∷ with_prefixes_from (first ++ c ∷ []) cs

-- each element of a list with those before it
abbrev pub with_prefixes : {C : Type 0} → List C → List (List C × C)
with_prefixes cs = with_prefixes_from [] cs

-- the place from 0 of an element that breaks a rule after those before it, and what it breaks
abbrev pub violation_at : {C R : Type 0} → (List C → C → Option R) → List C × C → Option (ℕ × R)
violation_at broken p = option_map (λ r. (length p.0, r)) (broken p.0 p.1)

-- the place and the break of each element that breaks a rule after those before it; the first is the list's first fault
abbrev pub violations : {C R : Type 0} → (List C → C → Option R) → List C → List (ℕ × R)
violations broken cs = filter_map (violation_at broken) (with_prefixes cs)

-- no element of a list breaks a rule after those before it
abbrev pub IsLegal : {C R : Type 0} → (List C → C → Option R) → List C → Type 0
IsLegal broken cs = violations broken cs ≡ []
