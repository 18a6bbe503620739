-- The pieces of a macro, one after the other: what the primitives so far and the pieces left give together stays the same.
use Rattle.macro_shapes.proofs.Common.{◌≡◌, ℕ, ◌∷◌, [], ◌++◌, true, false, List, sym, ap, ◌∙◌, option_map, is_some, MatchOption, false≢true, append-nil, Environment, on_piece, fields_from, Fields}
use Rattle.std.specs.Prelude.{Option, None, Some}

-- what an answer of a call says, where it is known to be one
pub of_some : {A : Type 0} (answer : Option A) (P Q : Type 0) → is_some answer ≡ true → MatchOption answer P (λ _. Q) → Q
of_some None P Q is h = absurd (false≢true is)
of_some (Some a) P Q is h = h

pub of_none : {A : Type 0} (answer : Option A) (P Q : Type 0) → is_some answer ≡ false → MatchOption answer P (λ _. Q) → P
of_none None P Q is h = h
of_none (Some a) P Q is h = absurd (false≢true (sym is))

pub begun : (items : List Fields) (found : Option (List Fields)) → items ≡ [] → option_map (λ fs. items ++ fs) found ≡ found
begun items None empty = λ i. None
begun items (Some fs) empty = ap (λ (xs : List Fields). Some (xs ++ fs)) empty

pub taken : (before after : List Fields) (old new : Environment) (piece : List ℕ) (pieces rest : List (List ℕ)) (all : Option (List Fields))
    → ((go : Environment → Option (List Fields)) → option_map (λ fs. before ++ fs) (on_piece old piece go) ≡ option_map (λ fs. after ++ fs) (go new))
    → pieces ≡ piece ∷ rest → option_map (λ fs. before ++ fs) (fields_from old pieces) ≡ all → option_map (λ fs. after ++ fs) (fields_from new rest) ≡ all
taken before after old new piece pieces rest all takes are so_far =
    sym (takes (λ later. fields_from later rest)) ∙ ap (λ (ps : List (List ℕ)). option_map (λ fs. before ++ fs) (fields_from old ps)) (sym are) ∙ so_far

pub refused : (before : List Fields) (old : Environment) (piece : List ℕ) (pieces rest : List (List ℕ)) (all : Option (List Fields))
    → ((go : Environment → Option (List Fields)) → on_piece old piece go ≡ None)
    → pieces ≡ piece ∷ rest → option_map (λ fs. before ++ fs) (fields_from old pieces) ≡ all → None ≡ all
refused before old piece pieces rest all refuses are so_far =
    sym (ap (option_map (λ fs. before ++ fs)) (refuses (λ later. fields_from later rest))) ∙ ap (λ (ps : List (List ℕ)). option_map (λ fs. before ++ fs) (fields_from old ps)) (sym are) ∙ so_far

pub ended : (items : List Fields) (old : Environment) (pieces : List (List ℕ)) (all : Option (List Fields))
    → pieces ≡ [] → option_map (λ fs. items ++ fs) (fields_from old pieces) ≡ all → Some items ≡ all
ended items old pieces all none so_far =
    ap (λ (xs : List Fields). Some xs) (sym (append-nil items)) ∙ ap (λ (ps : List (List ℕ)). option_map (λ fs. items ++ fs) (fields_from old ps)) (sym none) ∙ so_far
