-- The pairs of holes that are not clear: those of the definition and those that the code finds have the same members.
use Rattle.ring_rules.proofs.Common.{◌≡◌, ℕ, ◌+◌, ◌<◌, ◌≤◌, ◌-ℤ◌, inl, inr, min, max, Bool, true, false, cond, List, [], ◌∷◌, ◌++◌, map, length, get_or, refl, sym, ap, ◌∙◌, subst, arith, not, ◌&&◌, nat_lt, nat_le, int_min, int_max, All, AllPairs, Contains, filter, flat_map, enumerate_from, IsPermutation, cases_lt, nat_tests, map-append, get_or_default, get_or-enumerate_from, length-enumerate_from, All-nil, All-cons, All-head, All-tail, All-append, All-same, All-map, All-filter, All-weaker, All-contains, filter_passes, Contains-append_left, Contains-append_right, AllPairs-cons, AllPairs-filter, IsPermutation-refl, IsPermutation-sym, Contains-permutation, All-permutation, square, GridHole, positive_part, range_distance, square_of_cores, are_clear, hole_findings, gap_findings, in_order, IsClash, IsPairBefore, Drilled, Gap}
use Rattle.std.proofs.lemmas.List.Concat.{flat_map-cons}
use Rattle.std.proofs.lemmas.Simd.{map-map}
use Rattle.ring_rules.proofs.SortedPairs.{pairs_none, pairs_append, pairs_map, pairs_weaker, contains_cases, contains_first, contains_later, same_rising}

-- a place with the hole there
abbrev pub IsPlaced : List Drilled → ℕ × Drilled → Type 0
IsPlaced holes e = (e.0 < length holes) × ((d : Drilled) → e.1 ≡ get_or holes e.0 d)

-- each placed element is that of its place
pub placed_right : {X : Type 0} (xs : List X) (es : List (ℕ × X)) → IsPermutation (enumerate_from 0 xs) es → All (λ e. (e.0 < length xs) × ((d : X) → e.1 ≡ get_or xs e.0 d)) es
placed_right {X} xs es same =
    All-permutation (λ (e : ℕ × X). (e.0 < length xs) × ((d : X) → e.1 ≡ get_or xs e.0 d)) (enumerate_from 0 xs) es same
    (λ k d h. let inside : k < length xs = omega (arith, h, length-enumerate_from 0 xs) in
    let at_place = get_or-enumerate_from 0 xs k d inside in
    rw at_place (omega arith, λ e. get_or_default xs k d.1 e inside ∙ ap (λ n. get_or xs n e) (let z : k ≡ 0 + k = omega arith in z)))

contains_map : {X Y : Type 0} (f : X → Y) (xs : List X) (x : X) → Contains xs x → Contains (map f xs) (f x)
contains_map {X} {Y} f [] x among = absurd (let h = among.1 in omega (arith, h))
contains_map {X} {Y} f (y ∷ xs) x among = elim (contains_cases y xs x among) [
  | inl same ↦ subst (λ (z : X). Contains (f y ∷ map f xs) (f z)) same (contains_first (f y) (map f xs))
  | inr later ↦ contains_later (f y) (map f xs) (f x) (contains_map f xs x later)
]

contains_filter : {X : Type 0} (test : X → Bool) (xs : List X) (x : X) → Contains xs x → test x ≡ true → Contains (filter test xs) x
contains_filter test [] x among t = absurd (let h = among.1 in omega (arith, h))
contains_filter {X} test (y ∷ xs) x among t = by_test (test y) refl (λ later. contains_filter test xs x later t) where
  by_test : (b : Bool) → test y ≡ b → (Contains xs x → Contains (filter test xs) x) → Contains (cond (test y) (y ∷ filter test xs) (filter test xs)) x
  by_test true e rest = rw e (elim (contains_cases y xs x among) [
    | inl same ↦ subst (Contains (y ∷ filter test xs)) same (contains_first y (filter test xs))
    | inr later ↦ contains_later y (filter test xs) x (rest later)
  ])
  by_test false e rest = rw e (elim (contains_cases y xs x among) [
    | inl same ↦ absurd (let f : test y ≡ true = ap test same ∙ t in cc)
    | inr later ↦ rest later
  ])

contains_flat_map : {X Y : Type 0} (f : X → List Y) (xs : List X) (x : X) (y : Y) → Contains xs x → Contains (f x) y → Contains (flat_map f xs) y
contains_flat_map f [] x y among there = absurd (let h = among.1 in omega (arith, h))
contains_flat_map {X} {Y} f (z ∷ xs) x y among there =
    subst (λ (ys : List Y). Contains ys y) (sym (flat_map-cons f z xs)) (elim (contains_cases z xs x among) [
      | inl same ↦ Contains-append_left (f z) (flat_map f xs) y (subst (λ (w : X). Contains (f w) y) (sym same) there)
      | inr later ↦ Contains-append_right (f z) (flat_map f xs) y (contains_flat_map f xs x y later there)
    ])

pub all_flat_map : {X Y : Type 0} (P : Y → Type 0) (f : X → List Y) (xs : List X) → All (λ x. All P (f x)) xs → All P (flat_map f xs)
all_flat_map P f [] all = All-nil P
all_flat_map {X} {Y} P f (x ∷ xs) all =
    All-same P (flat_map f (x ∷ xs)) (f x ++ flat_map f xs) (flat_map-cons f x xs) (All-append P (f x) (flat_map f xs) (All-head (λ (z : X). All P (f z)) x xs all) (all_flat_map P f xs (All-tail (λ (z : X). All P (f z)) x xs all)))

pub enumerated_at : {X : Type 0} (xs : List X) (k : ℕ) (d : X) → k < length xs → Contains (enumerate_from 0 xs) (k, get_or xs k d)
enumerated_at {X} xs k d h =
    let z : 0 + k ≡ k = omega arith in
    (k, omega (arith, h, length-enumerate_from 0 xs), get_or-enumerate_from 0 xs k (k, get_or xs k d) h ∙ (ap (λ (n : ℕ). (n, get_or xs k (get_or xs k d))) z ∙ ap (λ (y : X). (k, y)) (get_or_default xs k (get_or xs k d) d h)))

enumerated_rises : {X : Type 0} (m : ℕ) (xs : List X) → AllPairs (λ a b. a.0 < b.0) (enumerate_from m xs) × All (λ a. m ≤ a.0) (enumerate_from m xs)
enumerated_rises {X} m [] = (pairs_none (λ (a b : ℕ × X). a.0 < b.0), All-nil (λ (a : ℕ × X). m ≤ a.0))
enumerated_rises {X} m (x ∷ xs) =
    let rest = enumerated_rises (m + 1) xs in (
      AllPairs-cons (λ (a b : ℕ × X). a.0 < b.0) (m, x) (enumerate_from (m + 1) xs) (All-weaker (λ (a : ℕ × X). m + 1 ≤ a.0) (λ (a : ℕ × X). m < a.0) (λ a h. omega (arith, h)) (enumerate_from (m + 1) xs) rest.1) rest.0,
      All-cons (λ (a : ℕ × X). m ≤ a.0) (m, x) (enumerate_from (m + 1) xs) (omega arith) (All-weaker (λ (a : ℕ × X). m + 1 ≤ a.0) (λ (a : ℕ × X). m ≤ a.0) (λ a h. omega (arith, h)) (enumerate_from (m + 1) xs) rest.1),
    )

-- the pairs of the definition
abbrev clash_test : ℕ → ℕ × Drilled → ℕ × Drilled → Bool
clash_test gap a b = nat_lt a.0 b.0 && not (are_clear gap a.1.hole b.1.hole)

abbrev clash_row : ℕ → List Drilled → ℕ × Drilled → List (ℕ × ℕ)
clash_row gap holes a = map (λ b. (a.0, b.0)) (filter (clash_test gap a) (enumerate_from 0 holes))

abbrev pub gap_pairs : ℕ → List Drilled → List (ℕ × ℕ)
gap_pairs gap holes = flat_map (clash_row gap holes) (enumerate_from 0 holes)

map_flat : {X Y Z : Type 0} (g : Y → Z) (f : X → List Y) (h : X → List Z) → ((x : X) → map g (f x) ≡ h x) → (xs : List X) → map g (flat_map f xs) ≡ flat_map h xs
map_flat g f h same [] = refl
map_flat g f h same (x ∷ xs) =
    ap (map g) (flat_map-cons f x xs) ∙ (map-append g (f x) (flat_map f xs) ∙ (ap (λ ys. ys ++ map g (flat_map f xs)) (same x)
    ∙ (ap (λ ys. h x ++ ys) (map_flat g f h same xs) ∙ sym (flat_map-cons h x xs))))

pub gap_pairs_listed : (gap : ℕ) (holes : List Drilled) → map (λ (p : ℕ × ℕ). Gap p.0 p.1) (gap_pairs gap holes) ≡ gap_findings gap holes
gap_pairs_listed gap holes =
    map_flat (λ (p : ℕ × ℕ). Gap p.0 p.1) (clash_row gap holes) (λ (a : ℕ × Drilled). hole_findings gap holes a.0 a.1)
    (λ a. map-map (λ (p : ℕ × ℕ). Gap p.0 p.1) (λ (b : ℕ × Drilled). (a.0, b.0)) (filter (clash_test gap a) (enumerate_from 0 holes))) (enumerate_from 0 holes)

row_rises : (gap : ℕ) (holes : List Drilled) (a : ℕ × Drilled) → AllPairs IsPairBefore (clash_row gap holes a)
row_rises gap holes a =
    pairs_map IsPairBefore (λ (b : ℕ × Drilled). (a.0, b.0)) (filter (clash_test gap a) (enumerate_from 0 holes))
    (pairs_weaker (λ (b c : ℕ × Drilled). b.0 < c.0) (λ (b c : ℕ × Drilled). IsPairBefore (a.0, b.0) (a.0, c.0)) (λ b c h. inr (refl, h)) (filter (clash_test gap a) (enumerate_from 0 holes))
    (AllPairs-filter (λ (b c : ℕ × Drilled). b.0 < c.0) (clash_test gap a) (enumerate_from 0 holes) (enumerated_rises 0 holes).0))

row_first : (gap : ℕ) (holes : List Drilled) (a : ℕ × Drilled) → All (λ p. p.0 ≡ a.0) (clash_row gap holes a)
row_first gap holes a = All-map (λ (p : ℕ × ℕ). p.0 ≡ a.0) (λ (b : ℕ × Drilled). (a.0, b.0)) (filter (clash_test gap a) (enumerate_from 0 holes)) (λ k d h. refl)

-- rows by first places that rise, each of them in order
rows_rise : {X : Type 0} (f : ℕ × X → List (ℕ × ℕ)) → ((a : ℕ × X) → AllPairs IsPairBefore (f a)) → ((a : ℕ × X) → All (λ p. p.0 ≡ a.0) (f a)) → (m : ℕ) (xs : List X) → AllPairs IsPairBefore (flat_map f (enumerate_from m xs)) × All (λ p. m ≤ p.0) (flat_map f (enumerate_from m xs))
rows_rise f up first m [] = (pairs_none IsPairBefore, All-nil (λ (p : ℕ × ℕ). m ≤ p.0))
rows_rise {X} f up first m (x ∷ xs) =
    let rest = rows_rise f up first (m + 1) xs in
    let whole : flat_map f (enumerate_from m (x ∷ xs)) ≡ f (m, x) ++ flat_map f (enumerate_from (m + 1) xs) = flat_map-cons f (m, x) (enumerate_from (m + 1) xs) in
    let later : All (λ (p : ℕ × ℕ). All (IsPairBefore p) (flat_map f (enumerate_from (m + 1) xs))) (f (m, x)) =
    All-weaker (λ (p : ℕ × ℕ). p.0 ≡ m) (λ (p : ℕ × ℕ). All (IsPairBefore p) (flat_map f (enumerate_from (m + 1) xs)))
    (λ p same. All-weaker (λ (q : ℕ × ℕ). m + 1 ≤ q.0) (IsPairBefore p) (λ q h. inl (omega (arith, h, same))) (flat_map f (enumerate_from (m + 1) xs)) rest.1) (f (m, x)) (first (m, x)) in (
      subst (AllPairs IsPairBefore) (sym whole) (pairs_append IsPairBefore (f (m, x)) (flat_map f (enumerate_from (m + 1) xs)) (up (m, x)) rest.0 later),
      subst (All (λ (p : ℕ × ℕ). m ≤ p.0)) (sym whole) (All-append (λ (p : ℕ × ℕ). m ≤ p.0) (f (m, x)) (flat_map f (enumerate_from (m + 1) xs))
          (All-weaker (λ (p : ℕ × ℕ). p.0 ≡ m) (λ (p : ℕ × ℕ). m ≤ p.0) (λ p same. omega (arith, same)) (f (m, x)) (first (m, x)))
          (All-weaker (λ (p : ℕ × ℕ). m + 1 ≤ p.0) (λ (p : ℕ × ℕ). m ≤ p.0) (λ p h. omega (arith, h)) (flat_map f (enumerate_from (m + 1) xs)) rest.1)),
    )

pub gap_pairs_rise : (gap : ℕ) (holes : List Drilled) → AllPairs IsPairBefore (gap_pairs gap holes)
gap_pairs_rise gap holes = (rows_rise (clash_row gap holes) (row_rises gap holes) (row_first gap holes) 0 holes).0

both_true : (a b : Bool) → (a && not b) ≡ true → (a ≡ true) × (b ≡ false)
both_true true true e = absurd cc
both_true true false e = (refl, refl)
both_true false b e = absurd cc

-- each pair of the definition is a clash
pub gap_pairs_clash : (gap : ℕ) (holes : List Drilled) → All (IsClash gap holes) (gap_pairs gap holes)
gap_pairs_clash gap holes =
    let placed : All (IsPlaced holes) (enumerate_from 0 holes) = placed_right holes (enumerate_from 0 holes) (IsPermutation-refl (enumerate_from 0 holes)) in
    all_flat_map (IsClash gap holes) (clash_row gap holes) (enumerate_from 0 holes) (All-weaker (IsPlaced holes) (λ a. All (IsClash gap holes) (clash_row gap holes a))
    (λ a here. All-map (IsClash gap holes) (λ (b : ℕ × Drilled). (a.0, b.0)) (filter (clash_test gap a) (enumerate_from 0 holes)) (λ k d h.
    let b = get_or (filter (clash_test gap a) (enumerate_from 0 holes)) k d in
    let there : IsPlaced holes b = All-filter (clash_test gap a) (IsPlaced holes) (enumerate_from 0 holes) placed k d h in
    let tests = both_true (nat_lt a.0 b.0) (are_clear gap a.1.hole b.1.hole) (filter_passes (clash_test gap a) (enumerate_from 0 holes) k d h) in
    record {
      ordered = (let t : nat_lt a.0 b.0 ≡ true = tests.0 in grind (arith, nat_tests));
      inside = there.0;
      near = λ e. ap (λ (x : Drilled). are_clear gap x.hole (get_or holes b.0 e).hole) (sym (here.1 e)) ∙ (ap (λ (x : Drilled). are_clear gap a.1.hole x.hole) (sym (there.1 e)) ∙ tests.1);
    })) (enumerate_from 0 holes) placed)

-- and each clash is a pair of the definition
pub clash_is_listed : (gap : ℕ) (holes : List Drilled) (p : ℕ × ℕ) → IsClash gap holes p → Contains (gap_pairs gap holes) p
clash_is_listed gap [] p clash = absurd (let h = clash.inside in omega (arith, h))
clash_is_listed gap (d ∷ ds) p clash =
    let holes : List Drilled = d ∷ ds in
    let a : ℕ × Drilled = (p.0, get_or (d ∷ ds) p.0 d) in
    let b : ℕ × Drilled = (p.1, get_or (d ∷ ds) p.1 d) in
    let order : nat_lt p.0 p.1 ≡ true = (let h = clash.ordered in grind (arith, nat_tests)) in
    let test : clash_test gap (p.0, get_or (d ∷ ds) p.0 d) (p.1, get_or (d ∷ ds) p.1 d) ≡ true = rw (order, clash.near d) refl in
    contains_flat_map (clash_row gap (d ∷ ds)) (enumerate_from 0 (d ∷ ds)) (p.0, get_or (d ∷ ds) p.0 d) p (enumerated_at (d ∷ ds) p.0 d (omega (arith, clash.ordered, clash.inside)))
    (contains_map (λ (e : ℕ × Drilled). (p.0, e.0)) (filter (clash_test gap (p.0, get_or (d ∷ ds) p.0 d)) (enumerate_from 0 (d ∷ ds))) (p.1, get_or (d ∷ ds) p.1 d)
    (contains_filter (clash_test gap (p.0, get_or (d ∷ ds) p.0 d)) (enumerate_from 0 (d ∷ ds)) (p.1, get_or (d ∷ ds) p.1 d) (enumerated_at (d ∷ ds) p.1 d clash.inside) test))

max_flips : (m n : ℕ) → max m n ≡ max n m
max_flips m n = omega arith

pub clear_flips : (gap : ℕ) (a b : GridHole) → are_clear gap a b ≡ are_clear gap b a
clear_flips gap a b =
    let sum : a.radius + b.radius + gap ≡ b.radius + a.radius + gap = omega arith in
    let x = max_flips (positive_part (int_min b.from.x b.to.x -ℤ int_max a.from.x a.to.x)) (positive_part (int_min a.from.x a.to.x -ℤ int_max b.from.x b.to.x)) in
    let y = max_flips (positive_part (int_min b.from.y b.to.y -ℤ int_max a.from.y a.to.y)) (positive_part (int_min a.from.y a.to.y -ℤ int_max b.from.y b.to.y)) in
    ap (λ n. nat_le (square n) (square_of_cores a b)) sum ∙ (ap (λ n. nat_le (square (b.radius + a.radius + gap)) (square n + square (range_distance a.from.y a.to.y b.from.y b.to.y))) x
    ∙ ap (λ n. nat_le (square (b.radius + a.radius + gap)) (square (range_distance b.from.x b.to.x a.from.x a.to.x) + square n)) y)

-- two holes at places that differ and that are not clear, in the order of their places
pub clash_of : (gap : ℕ) (holes : List Drilled) (a b : ℕ × Drilled) → IsPlaced holes a → IsPlaced holes b → ¬ (a.0 ≡ b.0) → are_clear gap a.1.hole b.1.hole ≡ false → IsClash gap holes (in_order a.0 b.0)
clash_of gap holes a b here there differ test =
    let near : (d : Drilled) → are_clear gap (get_or holes a.0 d).hole (get_or holes b.0 d).hole ≡ false =
    λ d. ap (λ (x : Drilled). are_clear gap x.hole (get_or holes b.0 d).hole) (sym (here.1 d)) ∙ (ap (λ (x : Drilled). are_clear gap a.1.hole x.hole) (sym (there.1 d)) ∙ test) in
    elim (cases_lt a.0 b.0) [
      | inl less ↦
          let low : min a.0 b.0 ≡ a.0 = omega (arith, less) in
          let high : max a.0 b.0 ≡ b.0 = omega (arith, less) in
          record {
            ordered = omega (arith, less);
            inside = omega (arith, less, there.0);
            near = λ d. ap (λ n. are_clear gap (get_or holes n d).hole (get_or holes (max a.0 b.0) d).hole) low ∙ (ap (λ n. are_clear gap (get_or holes a.0 d).hole (get_or holes n d).hole) high ∙ near d);
          }
      | inr no_less ↦ elim (cases_lt b.0 a.0) [
        | inl more ↦
            let low : min a.0 b.0 ≡ b.0 = omega (arith, more) in
            let high : max a.0 b.0 ≡ a.0 = omega (arith, more) in
            record {
              ordered = omega (arith, more);
              inside = omega (arith, more, here.0);
              near = λ d. ap (λ n. are_clear gap (get_or holes n d).hole (get_or holes (max a.0 b.0) d).hole) low ∙ (ap (λ n. are_clear gap (get_or holes b.0 d).hole (get_or holes n d).hole) high ∙ (clear_flips gap (get_or holes b.0 d).hole (get_or holes a.0 d).hole ∙ near d));
            }
        | inr same ↦ absurd (differ (let s : a.0 ≡ b.0 = omega (arith, no_less, same) in s))
      ]
    ]

-- the findings at pairs that were sorted, without repetitions
pub gaps_listed : (gap : ℕ) (holes : List Drilled) (ps qs rs : List (ℕ × ℕ)) → ((p : ℕ × ℕ) → Contains ps p → IsClash gap holes p) → ((p : ℕ × ℕ) → IsClash gap holes p → Contains ps p)
    → IsPermutation ps qs → AllPairs IsPairBefore rs → ((p : ℕ × ℕ) → Contains qs p → Contains rs p) → ((p : ℕ × ℕ) → Contains rs p → Contains qs p) → map (λ (p : ℕ × ℕ). Gap p.0 p.1) rs ≡ gap_findings gap holes
gaps_listed gap holes ps qs rs sound complete moved rises kept none =
    ap (map (λ (p : ℕ × ℕ). Gap p.0 p.1)) (same_rising rs (gap_pairs gap holes) rises (gap_pairs_rise gap holes)
    (λ p h. clash_is_listed gap holes p (sound p (Contains-permutation qs ps p (IsPermutation-sym ps qs moved) (none p h))))
    (λ p h. kept p (Contains-permutation ps qs p moved (complete p (All-contains (IsClash gap holes) (gap_pairs gap holes) p (gap_pairs_clash gap holes) h))))) ∙ gap_pairs_listed gap holes
