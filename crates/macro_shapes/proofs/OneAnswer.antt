-- There is one answer on each macro.
use Rattle.macro_shapes.proofs.Common.{◌≡◌, ◌↔◌, ℕ, ℤ, List, Option, Some, None, refl, sym, option_and_then, lookup, fields_from, IsMacro, Fields, macro_exactly, no_macro}
use Rattle.macro_shapes.specs.Pieces.{MacroAnswer}
use Rattle.macro_shapes.specs.Macros.{fields_of}
use Rattle.macro_shapes.specs.Inner.Pieces.{parameters_of}

none_some : {A : Type 0} (x : A) → None ≡ Some x → ⊥
none_some x e = cc

pub read_exactly : (pieces : List (List ℕ)) (parameters : Option (List ℕ)) (found : List Fields) → (fields_of pieces parameters ≡ Some found) ↔ IsMacro pieces parameters found
read_exactly pieces parameters found = by (parameters_of parameters) refl
  where
    by : (o : Option (List (Option ℤ))) → parameters_of parameters ≡ o → (option_and_then (λ values. fields_from (lookup values) pieces) o ≡ Some found) ↔ IsMacro pieces parameters found
    by None e = (λ h. absurd (none_some found h), λ h. absurd (no_macro pieces parameters found e h))
    by (Some values) e = macro_exactly pieces parameters values found e

-- the answer on a macro
pub answer_on : (pieces : List (List ℕ)) (parameters : Option (List ℕ)) → MacroAnswer pieces parameters
answer_on pieces parameters = record { primitives = fields_of pieces parameters; exact = read_exactly pieces parameters }

none_is : {A : Type 0} (o : Option A) → ((x : A) → o ≡ Some x → ⊥) → o ≡ None
none_is None h = refl
none_is (Some x) h = absurd (h x refl)

same_answers : {A : Type 0} (a b : Option A) → ((x : A) → a ≡ Some x → b ≡ Some x) → ((x : A) → b ≡ Some x → a ≡ Some x) → a ≡ b
same_answers (Some x) b f g = sym (f x refl)
same_answers None b f g = sym (none_is b (λ x e. none_some x (g x e)))

pub fields_are : (pieces : List (List ℕ)) (parameters : Option (List ℕ)) (answer : Option (List Fields))
    → ((found : List Fields) → (answer ≡ Some found) ↔ IsMacro pieces parameters found) → answer ≡ fields_of pieces parameters
fields_are pieces parameters answer h =
    let exact = read_exactly pieces parameters in
    same_answers answer (fields_of pieces parameters) (λ found p. (exact found).1 ((h found).0 p)) (λ found p. (h found).1 ((exact found).0 p))
