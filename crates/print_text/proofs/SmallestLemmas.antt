-- The smallest of some lengths, and of one more.
use Rattle.print_text.proofs.Common.{◌≡◌, ◌∙◌, ◌<◌, ◌+◌, ◌++◌, ℕ, ℤ, Bool, true, false, cond, List, [], ◌∷◌, Option, Some, None, length, map, take, get_or, refl, ap, if◌then◌else◌, cons_option, filter, filter_map, append-nil, map-append, take_more, filter-append, filter_map-append, fold-append, smaller, smallest}
use Rattle.std.specs.Int.{int_min}

smallest_push : (xs : List ℤ) (x : ℤ) → smallest (xs ++ x ∷ []) ≡ smaller (smallest xs) (Some x)
smallest_push [] x = refl
smallest_push (first ∷ rest) x = ap (λ (least : ℤ). Some least) (fold-append int_min first rest (x ∷ []))

-- one more length, if there is one
smallest_joined : (xs : List ℤ) (o : Option ℤ) → smallest (xs ++ cons_option o []) ≡ smaller (smallest xs) o
smallest_joined xs None = ap smallest (append-nil xs)
smallest_joined xs (Some x) = smallest_push xs x

-- one more element that may have a length
pub smallest_more : {X : Type 0} (h : X → Option ℤ) (xs : List X) (i : ℕ) (d : X) → i < length xs
    → smallest (filter_map h (take (i + 1) xs)) ≡ smaller (smallest (filter_map h (take i xs))) (h (get_or xs i d))
smallest_more {X} h xs i d lt =
    ap (λ (ys : List X). smallest (filter_map h ys)) (take_more xs i d lt)
    ∙ (ap smallest (filter_map-append h (take i xs) (get_or xs i d ∷ [])) ∙ smallest_joined (filter_map h (take i xs)) (h (get_or xs i d)))

-- one more element that has a length
pub smallest_mapped : {X : Type 0} (f : X → ℤ) (xs : List X) (i : ℕ) (d : X) → i < length xs
    → smallest (map f (take (i + 1) xs)) ≡ smaller (smallest (map f (take i xs))) (Some (f (get_or xs i d)))
smallest_mapped {X} f xs i d lt =
    ap (λ (ys : List X). smallest (map f ys)) (take_more xs i d lt)
    ∙ (ap smallest (map-append f (take i xs) (get_or xs i d ∷ [])) ∙ smallest_push (map f (take i xs)) (f (get_or xs i d)))

-- one more element that counts only if it passes a test
pub smallest_filtered : {X : Type 0} (p : X → Bool) (h : X → Option ℤ) (xs : List X) (i : ℕ) (d : X) → i < length xs
    → smallest (filter_map h (filter p (take (i + 1) xs))) ≡ smaller (smallest (filter_map h (filter p (take i xs)))) (if p (get_or xs i d) then h (get_or xs i d) else None)
smallest_filtered {X} p h xs i d lt =
    ap (λ (ys : List X). smallest (filter_map h (filter p ys))) (take_more xs i d lt)
    ∙ (ap (λ (ys : List X). smallest (filter_map h ys)) (filter-append p (take i xs) (get_or xs i d ∷ [])) ∙ by_test (p (get_or xs i d))) where
      by_test : (b : Bool) → smallest (filter_map h (filter p (take i xs) ++ cond b (get_or xs i d ∷ []) [])) ≡ smaller (smallest (filter_map h (filter p (take i xs)))) (if b then h (get_or xs i d) else None)
      by_test true = ap smallest (filter_map-append h (filter p (take i xs)) (get_or xs i d ∷ [])) ∙ smallest_joined (filter_map h (filter p (take i xs))) (h (get_or xs i d))
      by_test false = ap (λ (ys : List X). smallest (filter_map h ys)) (append-nil (filter p (take i xs)))
