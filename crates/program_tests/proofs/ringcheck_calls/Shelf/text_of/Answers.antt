use Rattle.std.proofs.Common.{rules, ◌≡◌, ◌<◌, ap, List, ℕ, zero, suc, [], ◌∷◌, map, length, slice_index_or, arith}
use Rattle.std.specs.List.{Contains}
use Rattle.program_tests.proofs.ringcheck_calls.Shelf.text_of.Goals as goal

-- what an element gives is among what all give
among : {X : Type 0} (f : X → List ℕ × List ℕ) (xs : List X) (i : ℕ) (d : X) (y : List ℕ × List ℕ) → i < length xs → f (slice_index_or xs i d) ≡ y → Contains {X = List ℕ × List ℕ} (map f xs) y
among f [] i d y lt e = absurd (omega arith)
among f (x ∷ xs) zero d y lt e = (0, omega arith, e)
among f (x ∷ xs) (suc i) d y lt e = let (k, less, is) = among f xs i d y (omega arith) e in (suc k, omega arith, is)

-- a file with this name is on the shelf, with its text
held : {A B : Type 0} (name_of : A → List ℕ) (text_of : B → List ℕ) (files : List (A × B)) (i : ℕ) (d : A × B) (name : List ℕ) → i < length files → name_of (slice_index_or files i d).0 ≡ name
    → Contains {X = List ℕ × List ℕ} (map (λ f. (name_of f.0, text_of f.1)) files) (name, text_of (slice_index_or files i d).1)
held name_of text_of files i d name lt e = among (λ f. (name_of f.0, text_of f.1)) files i d _ lt (ap (λ (n : List ℕ). (n, text_of (slice_index_or files i d).1)) e)

pub returns-then-eq : goal.returns-then-eq
returns-then-eq c = held (λ n. n.now) (λ t. t.now) c.args.self.now.files.now c.loop-held.held-index _ c.args.name.now c.loop-held-test.true (search rules)
