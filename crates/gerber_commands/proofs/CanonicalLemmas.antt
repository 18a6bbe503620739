-- Lists that are written one element after the other.
use Rattle.gerber_commands.proofs.Common.{◌≡◌, ℕ, ◌+◌, ◌<◌, ◌≤◌, List, [], ◌∷◌, ◌++◌, length, take, drop, get_or, ◌-◌, arith, sym, ap, ◌∙◌, append_assoc, flat_map, take_more, take_all, canonical, sizes_text}
use Rattle.std.proofs.Common.{ℤ}
use Rattle.std.proofs.lemmas.List.{append-nil}
use Rattle.std.proofs.lemmas.List.Concat.{flat_map-append}

-- one more element is written after the others
pub written_step : {A : Type 0} (f : A → List ℕ) (xs : List A) (i : ℕ) (x : A) (old now next added : List ℕ) → i < length xs → x ≡ get_or xs i x → now ≡ old ++ flat_map f (take i xs) → next ≡ now ++ added → added ≡ f x → next ≡ old ++ flat_map f (take (i + 1) xs)
written_step f xs i x old now next added lt is before after same =
    let prefix = flat_map f (take i xs) in
    let one : flat_map f (get_or xs i x ∷ []) ≡ added = append-nil (f (get_or xs i x)) ∙ (ap f (sym is) ∙ sym same) in
    let all : flat_map f (take (i + 1) xs) ≡ prefix ++ added = ap (flat_map f) (take_more xs i x lt) ∙ (flat_map-append f (take i xs) (get_or xs i x ∷ []) ∙ ap (λ (t : List ℕ). prefix ++ t) one) in
    after ∙ (ap (λ (t : List ℕ). t ++ added) before ∙ (append_assoc old prefix added ∙ ap (λ (t : List ℕ). old ++ t) (sym all)))

-- all elements are written
pub written_all : {A : Type 0} (f : A → List ℕ) (xs : List A) (i : ℕ) (old now : List ℕ) → length xs ≤ i → now ≡ old ++ flat_map f (take i xs) → now ≡ old ++ flat_map f xs
written_all f xs i old now le is = is ∙ ap (λ ys. old ++ flat_map f ys) (take_all i xs le)

-- joined parameters are the first one, and an `X` before each other
pub sizes_joined : (v : ℤ) (vs : List ℤ) → sizes_text (v ∷ vs) ≡ canonical v ++ flat_map (λ w. 88 ∷ canonical w) vs
sizes_joined v [] = sym (append-nil (canonical v))
sizes_joined v (w ∷ vs) = ap (λ (t : List ℕ). canonical v ++ 88 ∷ t) (sizes_joined w vs)

-- the first parameter and those after it are all parameters
pub sizes_parts : (sizes : List ℤ) (first : ℤ) (old middle new : List ℕ) → 1 ≤ length sizes → first ≡ get_or sizes 0 first → middle ≡ old ++ canonical first → new ≡ middle ++ flat_map (λ (w : ℤ). 88 ∷ canonical w) (take (length sizes - 1) (drop 1 sizes)) → new ≡ old ++ sizes_text sizes
sizes_parts [] first old middle new le is before after = absurd (omega arith)
sizes_parts (v ∷ vs) first old middle new le is before after =
    let rest : take (length (v ∷ vs) - 1) vs ≡ vs = take_all (length (v ∷ vs) - 1) vs (omega arith) in
    after
    ∙ (λ i. before i ++ flat_map (λ (w : ℤ). 88 ∷ canonical w) (rest i))
    ∙ append_assoc old (canonical first) (flat_map (λ (w : ℤ). 88 ∷ canonical w) vs)
    ∙ ap (λ (z : ℤ). old ++ (canonical z ++ flat_map (λ (w : ℤ). 88 ∷ canonical w) vs)) is
    ∙ ap (λ (t : List ℕ). old ++ t) (sym (sizes_joined v vs))
