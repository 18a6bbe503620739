-- A position counts just where all is taken away neither there nor later.
use Rattle.layer_features.proofs.Common.{◌≡◌, ◌∙◌, ◌⊎◌, inl, inr, ℕ, zero, suc, ◌<◌, ◌≤◌, ◌||◌, get_or, Bool, true, false, List, [], ◌∷◌, ◌++◌, length, refl, sym, ap, subst, arith, append_assoc, length-append, Contains, list_any, if◌then◌else◌, with_prefixes, with_prefixes_from, with_prefixes-append, Command, after_last, clears_all, positions_after_clearing, UnclearedPositions}
use Rattle.layer_features.proofs.ClearingLemmas.{after_last-append, after_last-more}

-- ---- elements of lists

pub none_contained : {A : Type 0} (x : A) → Contains [] x → ⊥
none_contained x h = let lt = h.1 in omega arith

pub tail_contained : {A : Type 0} (y : A) (xs : List A) (x : A) → Contains xs x → Contains (y ∷ xs) x
tail_contained y xs x h = (suc h.0, (let lt = h.1 in omega arith), h.2)

contained_amid : {A : Type 0} (xs ys : List A) (x : A) → Contains (xs ++ x ∷ ys) x
contained_amid [] ys x = (0, omega arith, refl)
contained_amid (y ∷ xs) ys x = tail_contained y (xs ++ x ∷ ys) x (contained_amid xs ys x)

pub head_or_tail : {A : Type 0} (y : A) (xs : List A) (x : A) → Contains (y ∷ xs) x → (y ≡ x) ⊎ Contains xs x
head_or_tail y xs x h = by h.0 h.1 h.2
  where
    by : (k : ℕ) → k < length (y ∷ xs) → get_or (y ∷ xs) k x ≡ x → (y ≡ x) ⊎ Contains xs x
    by zero lt e = inl e
    by (suc k) lt e = inr (k, omega arith, e)

-- ---- after the last one that passes

passes_alone : (b d : Bool) → d ≡ false → (b || d) ≡ true → b ≡ true
passes_alone true d e h = refl
passes_alone false d e h = sym e ∙ h

-- where an element passes and none of those after it, these come after the last that does
only_rest : {A : Type 0} (test : A → Bool) (xs : List A) (y : A) (ys : List A) (p : A) → list_any test ys ≡ false → (test y || list_any test ys) ≡ true → Contains (after_last test ((xs ++ y ∷ []) ++ ys)) p → Contains ys p
only_rest {A} test xs y ys p none some there =
    let here : test y ≡ true = passes_alone (test y) (list_any test ys) none some in
    let nothing : after_last test (xs ++ y ∷ []) ≡ [] = after_last-more test xs y ∙ (λ i. if here i then [] else after_last test xs ++ y ∷ []) in
    subst (λ (l : List A). Contains l p) (after_last-append test (xs ++ y ∷ []) ys none ∙ ap (λ (l : List A). l ++ ys) nothing) there

-- where an element or a later one passes, only later ones come after the last that does
later_only : {A : Type 0} (test : A → Bool) (xs : List A) (y : A) (ys : List A) (p : A) → (test y || list_any test ys) ≡ true → Contains (after_last test ((xs ++ y ∷ []) ++ ys)) p → Contains ys p
later_only test xs y [] p some there = only_rest test xs y [] p refl some there
later_only {A} test xs y (z ∷ zs) p some there =
    by (list_any test (z ∷ zs)) refl (λ one. later_only test (xs ++ y ∷ []) z zs p one (subst (λ (l : List A). Contains (after_last test l) p) (sym (append_assoc (xs ++ y ∷ []) (z ∷ []) zs)) there))
  where
    by : (b : Bool) → list_any test (z ∷ zs) ≡ b → (list_any test (z ∷ zs) ≡ true → Contains zs p) → Contains (z ∷ zs) p
    by false none rest = only_rest test xs y (z ∷ zs) p none some there
    by true one rest = tail_contained z zs p (rest one)

-- ---- positions

-- a position in the rest of a list has at least the commands before that rest before it
longer : (first cs : List Command) (p : List Command × Command) → Contains (with_prefixes_from first cs) p → length first ≤ length p.0
longer first [] p h = absurd (none_contained p h)
longer first (c ∷ cs) p h = elim (head_or_tail (first, c) (with_prefixes_from (first ++ c ∷ []) cs) p h) [
  | inl e ↦ let same : length first ≡ length p.0 = ap (λ (q : List Command × Command). length q.0) e in omega (arith, same)
  | inr k ↦ omega (arith, longer (first ++ c ∷ []) cs p k, length-append first (c ∷ []))
]

split_at : (before after : List Command) (c : Command) → positions_after_clearing (before ++ c ∷ after) ≡ after_last clears_all (with_prefixes before ++ (before, c) ∷ with_prefixes_from (before ++ c ∷ []) after)
split_at before after c = ap (after_last clears_all) (with_prefixes-append before (c ∷ after))

counts_where_none : (before : List Command) (c : Command) (after : List Command) → list_any clears_all (with_prefixes_from before (c ∷ after)) ≡ false → Contains (positions_after_clearing (before ++ c ∷ after)) (before, c)
counts_where_none before c after none =
    subst (λ (l : List (List Command × Command)). Contains l (before, c)) (sym (split_at before after c ∙ after_last-append clears_all (with_prefixes before) (with_prefixes_from before (c ∷ after)) none))
    (contained_amid (after_last clears_all (with_prefixes before)) (with_prefixes_from (before ++ c ∷ []) after) (before, c))

none_where_counted : (before : List Command) (c : Command) (after : List Command) (b : Bool) → list_any clears_all (with_prefixes_from before (c ∷ after)) ≡ b → Contains (positions_after_clearing (before ++ c ∷ after)) (before, c) → b ≡ false
none_where_counted before c after false e k = refl
none_where_counted before c after true e k =
    let rest = with_prefixes_from (before ++ c ∷ []) after in
    let apart : positions_after_clearing (before ++ c ∷ after) ≡ after_last clears_all ((with_prefixes before ++ (before, c) ∷ []) ++ rest) = split_at before after c ∙ ap (after_last clears_all) (sym (append_assoc (with_prefixes before) ((before, c) ∷ []) rest)) in
    let there = subst (λ (l : List (List Command × Command)). Contains l (before, c)) apart k in
    let later = later_only clears_all (with_prefixes before) (before, c) rest (before, c) e there in
    absurd (omega (arith, longer (before ++ c ∷ []) after (before, c) later, length-append before (c ∷ [])))

pub uncleared_positions : UnclearedPositions
uncleared_positions before c after = (
  λ k. let any = list_any clears_all (with_prefixes_from before (c ∷ after)) in none_where_counted before c after any refl k,
  counts_where_none before c after,
)
