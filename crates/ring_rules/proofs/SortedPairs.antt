-- Pairs of places in order: a list in which each pair comes before all later ones is known by its members.
use Rattle.ring_rules.proofs.Common.{◌≡◌, ℕ, ◌<◌, ◌⊎◌, inl, inr, zero, suc, List, [], ◌∷◌, ◌++◌, map, length, get_or, refl, sym, ap, ◌∙◌, subst, arith, Bool, true, nat_eq, ◌&&◌, All, AllPairs, Contains, IsStrictlySortedBy, nat_cmp, ordering_then, eq_by_cmp, cases_lt, nat_tests, All-head, All-tail, All-append, All-map, All-weaker, All-contains, All-from_recursion, AllPairs-cons, IsPairBefore}
use Rattle.std.specs.declared.cmp.Ordering.{Ordering}
use Rattle.std.specs.declared.cmp.Ordering.TheVariants.{Less}
use Rattle.std.specs.Cmp.{IsTotalOrder, nat_cmp_total, on_total, then_total, both_tied, unsigned_ties, IsEquivalence, nat_eq_equiv, on_equiv, and_equiv}

before_trans : (p q r : ℕ × ℕ) → IsPairBefore p q → IsPairBefore q r → IsPairBefore p r
before_trans p q r h k = elim h [
  | inl less ↦ elim k [
    | inl less' ↦ inl (omega (arith, less, less'))
    | inr same' ↦ inl (omega (arith, less, same'.0))
  ]
  | inr same ↦ elim k [
    | inl less' ↦ inl (omega (arith, same.0, less'))
    | inr same' ↦ inr (same.0 ∙ same'.0, omega (arith, same.1, same'.1))
  ]
]

not_before_itself : (p : ℕ × ℕ) → ¬ IsPairBefore p p
not_before_itself p h = elim h [
  | inl less ↦ omega (arith, less)
  | inr same ↦ omega (arith, same.1)
]

pub pairs_head : {X : Type 0} (R : X → X → Type 0) (x : X) (xs : List X) → AllPairs R (x ∷ xs) → All (R x) xs
pairs_head R x xs up k d h = up 0 (suc k) d (omega arith) (omega (arith, h))

pub pairs_tail : {X : Type 0} (R : X → X → Type 0) (x : X) (xs : List X) → AllPairs R (x ∷ xs) → AllPairs R xs
pairs_tail R x xs up i j d h k = up (suc i) (suc j) d (omega (arith, h)) (omega (arith, k))

pub pairs_none : {X : Type 0} (R : X → X → Type 0) → AllPairs R []
pairs_none R i j d h k = absurd (omega (arith, k))

pub pairs_append : {X : Type 0} (R : X → X → Type 0) (xs ys : List X) → AllPairs R xs → AllPairs R ys → All (λ x. All (R x) ys) xs → AllPairs R (xs ++ ys)
pairs_append R [] ys up up' across = up'
pairs_append {X} R (x ∷ xs) ys up up' across =
    AllPairs-cons R x (xs ++ ys) (All-append (R x) xs ys (pairs_head R x xs up) (All-head (λ (z : X). All (R z) ys) x xs across))
    (pairs_append R xs ys (pairs_tail R x xs up) up' (All-tail (λ (z : X). All (R z) ys) x xs across))

pub pairs_map : {X Y : Type 0} (R : Y → Y → Type 0) (f : X → Y) (xs : List X) → AllPairs (λ x y. R (f x) (f y)) xs → AllPairs R (map f xs)
pairs_map R f [] up = pairs_none R
pairs_map {X} R f (x ∷ xs) up =
    AllPairs-cons R (f x) (map f xs) (All-map (R (f x)) f xs (pairs_head (λ (a b : X). R (f a) (f b)) x xs up)) (pairs_map R f xs (pairs_tail (λ (a b : X). R (f a) (f b)) x xs up))

pub pairs_weaker : {X : Type 0} (R S : X → X → Type 0) → ((x y : X) → R x y → S x y) → (xs : List X) → AllPairs R xs → AllPairs S xs
pairs_weaker R S weaker xs up i j d h k = weaker (get_or xs i d) (get_or xs j d) (up i j d h k)

contains_at : {X : Type 0} (x : X) (xs : List X) (y : X) (k : ℕ) → k < length (x ∷ xs) → get_or (x ∷ xs) k y ≡ y → (x ≡ y) ⊎ Contains xs y
contains_at x xs y zero h e = inl e
contains_at x xs y (suc k) h e = inr (k, omega (arith, h), e)

-- the first element, or a later one
pub contains_cases : {X : Type 0} (x : X) (xs : List X) (y : X) → Contains (x ∷ xs) y → (x ≡ y) ⊎ Contains xs y
contains_cases x xs y among = contains_at x xs y among.0 among.1 among.2

pub contains_first : {X : Type 0} (x : X) (xs : List X) → Contains (x ∷ xs) x
contains_first x xs = (0, omega arith, refl)

pub contains_later : {X : Type 0} (x : X) (xs : List X) (y : X) → Contains xs y → Contains (x ∷ xs) y
contains_later x xs y among = (suc among.0, (let h = among.1 in omega (arith, h)), among.2)

-- two lists in order with the same members are the same
pub same_rising : (ps qs : List (ℕ × ℕ)) → AllPairs IsPairBefore ps → AllPairs IsPairBefore qs → ((p : ℕ × ℕ) → Contains ps p → Contains qs p) → ((p : ℕ × ℕ) → Contains qs p → Contains ps p) → ps ≡ qs
same_rising [] [] up up' there back = refl
same_rising [] (q ∷ qs) up up' there back = absurd (let h = (back q (contains_first q qs)).1 in omega (arith, h))
same_rising (p ∷ ps) [] up up' there back = absurd (let h = (there p (contains_first p ps)).1 in omega (arith, h))
same_rising (p ∷ ps) (q ∷ qs) up up' there back =
    let after : All (IsPairBefore p) ps = pairs_head IsPairBefore p ps up in
    let after' : All (IsPairBefore q) qs = pairs_head IsPairBefore q qs up' in
    let first : p ≡ q = elim (contains_cases q qs p (there p (contains_first p ps))) [
      | inl same ↦ sym same
      | inr later ↦ elim (contains_cases p ps q (back q (contains_first q qs))) [
        | inl same ↦ same
        | inr later' ↦ absurd (not_before_itself p (before_trans p q p (All-contains (IsPairBefore p) ps q after later') (All-contains (IsPairBefore q) qs p after' later)))
      ]
    ] in
    let there' : (r : ℕ × ℕ) → Contains ps r → Contains qs r = λ r among. elim (contains_cases q qs r (there r (contains_later p ps r among))) [
      | inl same ↦ absurd (not_before_itself p (subst (IsPairBefore p) (sym (first ∙ same)) (All-contains (IsPairBefore p) ps r after among)))
      | inr later ↦ later
    ] in
    let back' : (r : ℕ × ℕ) → Contains qs r → Contains ps r = λ r among. elim (contains_cases p ps r (back r (contains_later q qs r among))) [
      | inl same ↦ absurd (not_before_itself q (subst (IsPairBefore q) (sym (sym first ∙ same)) (All-contains (IsPairBefore q) qs r after' among)))
      | inr later ↦ later
    ] in
    ap (λ x. x ∷ ps) first ∙ ap (λ xs. q ∷ xs) (same_rising ps qs (pairs_tail IsPairBefore p ps up) (pairs_tail IsPairBefore q qs up') there' back')

-- the order of two pairs of places, as the sort compares them
abbrev pub pair_cmp : ℕ × ℕ → ℕ × ℕ → Ordering
pair_cmp p q = ordering_then (nat_cmp p.0 q.0) (nat_cmp p.1 q.1)

itself : (n : ℕ) → nat_eq n n ≡ true
itself n = grind (arith, nat_tests)

less_before : (p q : ℕ × ℕ) → pair_cmp p q ≡ Less → IsPairBefore p q
less_before p q e = elim (cases_lt p.0 q.0) [
  | inl less ↦ inl less
  | inr no_less ↦ elim (cases_lt q.0 p.0) [
    | inl more ↦ absurd (grind (arith, nat_tests))
    | inr same ↦
        let first : p.0 ≡ q.0 = omega (arith, no_less, same) in
        elim (cases_lt p.1 q.1) [
          | inl less' ↦ inr (first, less')
          | inr no_less' ↦ absurd (grind (arith, nat_tests))
        ]
  ]
]

-- a list of pairs in which none is equal to the next
pub rising_from_strict : (ps : List (ℕ × ℕ)) → IsStrictlySortedBy pair_cmp ps → AllPairs IsPairBefore ps
unfolding IsStrictlySortedBy
rising_from_strict [] up = pairs_none IsPairBefore
rising_from_strict (p ∷ ps) up = AllPairs-cons IsPairBefore p ps (All-weaker (λ q. pair_cmp p q ≡ Less) (IsPairBefore p) (λ q. less_before p q) ps (All-from_recursion (λ q. pair_cmp p q ≡ Less) ps up.0)) (rising_from_strict ps up.1)

pub pairs_total : IsTotalOrder pair_cmp
pairs_total = then_total (on_total (λ (p : ℕ × ℕ). p.0) nat_cmp_total) (on_total (λ (p : ℕ × ℕ). p.1) nat_cmp_total)

abbrev pub pair_eq : ℕ × ℕ → ℕ × ℕ → Bool
pair_eq p q = nat_eq p.0 q.0 && nat_eq p.1 q.1

pub pairs_tie : (p q : ℕ × ℕ) → pair_eq p q ≡ eq_by_cmp pair_cmp p q
pairs_tie p q = both_tied (nat_eq p.0 q.0) (nat_eq p.1 q.1) (nat_cmp p.0 q.0) (nat_cmp p.1 q.1) (unsigned_ties p.0 q.0) (unsigned_ties p.1 q.1)

pub pairs_equal : IsEquivalence pair_eq
pairs_equal = and_equiv (on_equiv (λ (p : ℕ × ℕ). p.0) nat_eq_equiv) (on_equiv (λ (p : ℕ × ℕ). p.1) nat_eq_equiv)

pub pairs_same : (p q : ℕ × ℕ) → pair_eq p q ≡ true → p ≡ q
pairs_same p q e =
    let first : p.0 ≡ q.0 = grind (arith, nat_tests) in
    let second : p.1 ≡ q.1 = grind (arith, nat_tests) in
    λ i. (first i, second i)
