-- Numbers from 1 to how many there are, each once: in order they count up from 1.
use Rattle.manifest.proofs.Common.{◌≡◌, ◌∙◌, ◌<◌, ◌≤◌, ◌+◌, ◌&&◌, ◌||◌, ◌==◌, ℕ, zero, suc, Bool, true, false, not, List, [], ◌∷◌, length, get_or, arith, refl, sym, ap, nat_le, list_all, list_any, count_by, IsPermutation, IsNonDecreasing, IsNonDecreasingBy, false≢true, leb-true, le-leb, eqb-true, eq-eqb, nat_tests, list_any-IsPermutation, length_permutation, sum_by-IsPermutation, and_true, both_true, are_one_to_n, occurs_once_in_range, numbers_from}
use Rattle.manifest.proofs.CountLemmas.{count_cons, count_hit, count_miss, one}

-- ---- lists in order

module _ {A : Type 0} (key : A → ℕ) where
  -- the key of each element is at most those of all that follow it
  abbrev pub Ascends : List A → Type 0
  Ascends [] = Unit {0}
  Ascends (x ∷ xs) = (list_all (λ y. nat_le (key x) (key y)) xs ≡ true) × Ascends xs

  least : (x : A) (xs : List A) → ((j : ℕ) (d : A) → j < length xs → key x ≤ key (get_or xs j d)) → list_all (λ y. nat_le (key x) (key y)) xs ≡ true
  least x [] h = refl
  least x (y ∷ ys) h =
      and_true (nat_le (key x) (key y)) (list_all (λ z. nat_le (key x) (key z)) ys) (le-leb (key x) (key y) (h 0 y (omega arith))) (least x ys (λ j d lt. h (suc j) d (omega (arith, lt))))

  pub ascends : (xs : List A) → IsNonDecreasingBy key xs → Ascends xs
  ascends [] h = tt
  ascends (x ∷ xs) h = (least x xs (λ j d lt. h 0 (suc j) d (omega arith) (omega (arith, lt))), ascends xs (λ i j d le lt. h (suc i) (suc j) d (omega (arith, le)) (omega (arith, lt))))

module _ {A : Type 0} (p : A → Bool) where
  -- a test that each element passes
  pub none_fails : (xs : List A) → list_all p xs ≡ not (list_any (λ x. not (p x)) xs)
  none_fails [] = refl
  none_fails (x ∷ xs) = by (p x) (none_fails xs)
    where
      by : (b : Bool) → list_all p xs ≡ not (list_any (λ y. not (p y)) xs) → (b && list_all p xs) ≡ not (not b || list_any (λ y. not (p y)) xs)
      by true more = more
      by false more = refl

  pub all_moves : (xs ys : List A) → IsPermutation xs ys → list_all p ys ≡ list_all p xs
  all_moves xs ys same = none_fails ys ∙ ap not (sym (list_any-IsPermutation (λ x. not (p x)) xs ys same)) ∙ sym (none_fails xs)

module _ {A : Type 0} (p q : A → Bool) (gives : (x : A) → p x ≡ true → q x ≡ true) where
  -- a test that follows from another
  pub all_follow : (xs : List A) → list_all p xs ≡ true → list_all q xs ≡ true
  all_follow [] h = refl
  all_follow (x ∷ xs) h = let k = both_true (p x) (list_all p xs) h in and_true (q x) (list_all q xs) (gives x k.0) (all_follow xs k.1)

module _ {A : Type 0} (p q r : A → Bool) (gives : (x : A) → p x ≡ true → q x ≡ true → r x ≡ true) where
  -- a test that follows from two others
  pub both_follow : (xs : List A) → list_all p xs ≡ true → list_all q xs ≡ true → list_all r xs ≡ true
  both_follow [] h k = refl
  both_follow (x ∷ xs) h k =
      let a = both_true (p x) (list_all p xs) h in
      let b = both_true (q x) (list_all q xs) k in
      and_true (r x) (list_all r xs) (gives x a.0 b.0) (both_follow xs a.1 b.1)

-- ---- numbers that stand once

abbrev pub is_number : ℕ → ℕ → Bool
is_number n m = m == n

-- each number stands once at most
abbrev pub AreOnce : List ℕ → Type 0
AreOnce ns = (n : ℕ) → count_by (is_number n) ns ≤ 1

after_distinct : (x : ℕ) (xs : List ℕ) → AreOnce (x ∷ xs) → AreOnce xs
after_distinct x xs h n = omega (arith, h n, count_cons (is_number n) x xs)

removed : (x : ℕ) (xs : List ℕ) → AreOnce (x ∷ xs) → count_by (is_number x) xs ≡ 0
removed x xs h = omega (arith, h x, count_hit (is_number x) x xs (eq-eqb x x refl))

-- a number from a first one to a last one
abbrev pub is_within : ℕ → ℕ → ℕ → Bool
is_within first last n = nat_le first n && nat_le n last

above : (first last x : ℕ) (xs : List ℕ) → list_all (nat_le x) xs ≡ true → list_all (is_within first last) xs ≡ true → count_by (is_number x) xs ≡ 0 → list_all (is_within (x + 1) last) xs ≡ true
above first last x [] a b c = refl
above first last x (y ∷ ys) a b c =
    let l = both_true (nat_le x y) (list_all (nat_le x) ys) a in
    let m = both_true (is_within first last y) (list_all (is_within first last) ys) b in
    let low : x ≤ y = leb-true x y l.0 in
    by (y == x) refl low (both_true (nat_le first y) (nat_le y last) m.0).1 (above first last x ys l.1 m.1 (omega (arith, c, count_cons (is_number x) y ys)))
  where
    by : (b : Bool) → (y == x) ≡ b → x ≤ y → nat_le y last ≡ true → list_all (is_within (x + 1) last) ys ≡ true → list_all (is_within (x + 1) last) (y ∷ ys) ≡ true
    by true e low k more = absurd (let n = count_hit (is_number x) y ys e in omega (arith, c, n))
    by false e low k more =
        and_true (is_within (x + 1) last y) (list_all (is_within (x + 1) last) ys) (and_true (nat_le (x + 1) y) (nat_le y last) (grind (arith, nat_tests)) k) more

-- numbers in order that stand once are no more than there are from the first to the last
length_bound : (first last : ℕ) (xs : List ℕ) → first ≤ last + 1 → Ascends (λ n. n) xs → list_all (is_within first last) xs ≡ true → AreOnce xs → length xs + first ≤ last + 1
length_bound first last [] some up in_range distinct = omega (arith, some)
length_bound first last (x ∷ xs) some up in_range distinct =
    let k = both_true (is_within first last x) (list_all (is_within first last) xs) in_range in
    let l = both_true (nat_le first x) (nat_le x last) k.0 in
    let low : first ≤ x = leb-true first x l.0 in
    let high : x ≤ last = leb-true x last l.1 in
    let more : length xs + (x + 1) ≤ last + 1 =
    length_bound (x + 1) last xs (omega arith) up.1 (above first last x xs up.0 k.1 (removed x xs distinct)) (after_distinct x xs distinct) in
    omega arith

-- where they are as many, they count up
pub counts_up : (first last : ℕ) (xs : List ℕ) → Ascends (λ n. n) xs → list_all (is_within first last) xs ≡ true → AreOnce xs → length xs + first ≡ last + 1 → xs ≡ numbers_from first (length xs)
counts_up first last [] up in_range distinct many = refl
counts_up first last (x ∷ xs) up in_range distinct many =
    let k = both_true (is_within first last x) (list_all (is_within first last) xs) in_range in
    let l = both_true (nat_le first x) (nat_le x last) k.0 in
    let low : first ≤ x = leb-true first x l.0 in
    let high : x ≤ last = leb-true x last l.1 in
    let rest = above first last x xs up.0 k.1 (removed x xs distinct) in
    let most : length xs + (x + 1) ≤ last + 1 = length_bound (x + 1) last xs (omega arith) up.1 rest (after_distinct x xs distinct) in
    let is : x ≡ first = omega arith in
    let more : xs ≡ numbers_from (x + 1) (length xs) = counts_up (x + 1) last xs up.1 rest (after_distinct x xs distinct) (omega arith) in
    λ i. (is i ∷ (more ∙ ap (λ (n : ℕ). numbers_from (n + 1) (length xs)) is) i)

-- ---- numbers that count up

pub count_equals : (first more : ℕ) → length (numbers_from first more) ≡ more
count_equals first zero = refl
count_equals first (suc more) = ap suc (count_equals (first + 1) more)

pub number_at : (first more i d : ℕ) → i < more → get_or (numbers_from first more) i d ≡ first + i
number_at first zero i d lt = absurd (omega (arith, lt))
number_at first (suc more) zero d lt = omega arith
number_at first (suc more) (suc i) d lt = number_at (first + 1) more i d (omega (arith, lt)) ∙ omega arith

pub counting : (first : ℕ) (xs : List ℕ) → ((i d : ℕ) → i < length xs → get_or xs i d ≡ first + i) → xs ≡ numbers_from first (length xs)
counting first [] h = refl
counting first (x ∷ xs) h =
    let here : x ≡ first = h 0 0 (omega arith) ∙ omega arith in
    let more = counting (first + 1) xs (λ i d lt. h (suc i) d (omega (arith, lt)) ∙ omega arith) in
    λ i. (here i ∷ more i)

below_none : (n first more : ℕ) → n < first → count_by (is_number n) (numbers_from first more) ≡ 0
below_none n first zero lt = refl
below_none n first (suc more) lt =
    let other : (first == n) ≡ false = grind (arith, nat_tests) in
    count_miss (is_number n) first (numbers_from (first + 1) more) other ∙ below_none n (first + 1) more (omega (arith, lt))

stands_once : (n first more : ℕ) → first ≤ n → n < first + more → count_by (is_number n) (numbers_from first more) ≡ 1
stands_once n first zero low high = absurd (omega (arith, low, high))
stands_once n first (suc more) low high = by (first == n) refl (λ up. stands_once n (first + 1) more up (omega (arith, high)))
  where
    by : (b : Bool) → (first == n) ≡ b → (first + 1 ≤ n → count_by (is_number n) (numbers_from (first + 1) more) ≡ 1) → count_by (is_number n) (first ∷ numbers_from (first + 1) more) ≡ 1
    by true e behind =
        let is : first ≡ n = eqb-true first n e in
        omega (arith, count_hit (is_number n) first (numbers_from (first + 1) more) e, below_none n (first + 1) more (omega (arith, is)))
    by false e behind =
        let up : first + 1 ≤ n = grind (arith, nat_tests) in
        count_miss (is_number n) first (numbers_from (first + 1) more) e ∙ behind up

each_passes : (p : ℕ → Bool) (first more : ℕ) → ((n : ℕ) → first ≤ n → n < first + more → p n ≡ true) → list_all p (numbers_from first more) ≡ true
each_passes p first zero h = refl
each_passes p first (suc more) h =
    and_true (p first) (list_all p (numbers_from (first + 1) more)) (h first (omega arith) (omega arith)) (each_passes p (first + 1) more (λ n low high. h n (omega (arith, low)) (omega (arith, high))))

up_is_counted : (more : ℕ) → are_one_to_n (numbers_from 1 more) ≡ true
up_is_counted more =
    each_passes (occurs_once_in_range (numbers_from 1 more)) 1 more
    (λ n low high.
    let distinct = stands_once n 1 more low high in
    let len = count_equals 1 more in
    and_true (nat_le 1 n) (nat_le n (length (numbers_from 1 more)) && (count_by (is_number n) (numbers_from 1 more) == 1)) (le-leb 1 n low)
    (and_true (nat_le n (length (numbers_from 1 more))) (count_by (is_number n) (numbers_from 1 more) == 1) (le-leb n (length (numbers_from 1 more)) (omega (arith, high, len))) (eq-eqb (count_by (is_number n) (numbers_from 1 more)) 1 distinct)))

-- ---- what the test says

-- an element that passes one test, where all pass another
one_of : {A : Type 0} (p q : A → Bool) (xs : List A) → list_any p xs ≡ true → list_all q xs ≡ true → (x : A) × (p x ≡ true) × (q x ≡ true)
one_of p q [] h k = absurd (false≢true h)
one_of p q (x ∷ xs) h k = let a = both_true (q x) (list_all q xs) k in by (p x) refl h a.0 (λ e. one_of p q xs e a.1)
  where
    by : (b : Bool) → p x ≡ b → (b || list_any p xs) ≡ true → q x ≡ true → (list_any p xs ≡ true → (y : _) × (p y ≡ true) × (q y ≡ true)) → (y : _) × (p y ≡ true) × (q y ≡ true)
    by true e t here more = (x, e, here)
    by false e t here more = more t

none_counts : {A : Type 0} (p : A → Bool) (xs : List A) → list_any p xs ≡ false → count_by p xs ≡ 0
none_counts p [] h = refl
none_counts p (x ∷ xs) h = by (p x) refl h (none_counts p xs)
  where
    by : (b : Bool) → p x ≡ b → (b || list_any p xs) ≡ false → (list_any p xs ≡ false → count_by p xs ≡ 0) → count_by p (x ∷ xs) ≡ 0
    by true e t more = absurd (false≢true (sym t))
    by false e t more = count_miss p x xs e ∙ more t

module _ (ns : List ℕ) (counted : are_one_to_n ns ≡ true) where
  pub in_range : list_all (is_within 1 (length ns)) ns ≡ true
  in_range =
      all_follow (occurs_once_in_range ns) (is_within 1 (length ns))
      (λ n h.
      let a = both_true (nat_le 1 n) (nat_le n (length ns) && (count_by (is_number n) ns == 1)) h in
      and_true (nat_le 1 n) (nat_le n (length ns)) a.0 (both_true (nat_le n (length ns)) (count_by (is_number n) ns == 1) a.1).0)
      ns counted

  pub each_once : AreOnce ns
  each_once n = by (list_any (is_number n) ns) refl
    where
      by : (b : Bool) → list_any (is_number n) ns ≡ b → count_by (is_number n) ns ≤ 1
      by false e = let z = none_counts (is_number n) ns e in omega (arith, z)
      by true e =
          let r = one_of (is_number n) (occurs_once_in_range ns) ns e counted in
          let m : ℕ = r.0 in
          let same : m ≡ n = eqb-true m n r.1 in
          let a = both_true (nat_le 1 m) (nat_le m (length ns) && (count_by (is_number m) ns == 1)) r.2 in
          let distinct : count_by (is_number m) ns ≡ 1 = eqb-true (count_by (is_number m) ns) 1 (both_true (nat_le m (length ns)) (count_by (is_number m) ns == 1) a.1).1 in
          let is : count_by (is_number n) ns ≡ 1 = ap (λ (k : ℕ). count_by (is_number k) ns) (sym same) ∙ distinct in
          omega (arith, is)

  pub sorted_counts_up : IsNonDecreasing ns → ns ≡ numbers_from 1 (length ns)
  sorted_counts_up up = counts_up 1 (length ns) ns (ascends (λ n. n) ns up) in_range each_once refl

-- numbers that count up pass
pub confirmed : (ns : List ℕ) → ((i d : ℕ) → i < length ns → get_or ns i d ≡ 1 + i) → are_one_to_n ns ≡ true
confirmed ns h = ap are_one_to_n (counting 1 ns h) ∙ up_is_counted (length ns)

-- sorted numbers that do not count up fail
pub refuted : (ns : List ℕ) (i : ℕ) → IsNonDecreasing ns → i < length ns → (get_or ns i 0 ≡ i + 1 → ⊥) → are_one_to_n ns ≡ false
refuted ns i up lt other = by (are_one_to_n ns) refl
  where
    by : (b : Bool) → are_one_to_n ns ≡ b → b ≡ false
    by false e = refl
    by true e =
        let is : get_or ns i 0 ≡ 1 + i = ap (λ (ms : List ℕ). get_or ms i 0) (sorted_counts_up ns e up) ∙ number_at 1 (length ns) i 0 lt in
        absurd (other (omega (arith, is)))

-- the order does not matter
pub counted_moves : (xs ys : List ℕ) → IsPermutation xs ys → are_one_to_n ys ≡ are_one_to_n xs
counted_moves xs ys same =
    let len = length_permutation xs ys same in
    let count = λ (n : ℕ). sum_by-IsPermutation (λ (m : ℕ). one (is_number n m)) xs ys same in
    (λ k. list_all (λ n. nat_le 1 n && (nat_le n (len k) && (count n k == 1))) ys) ∙ all_moves (occurs_once_in_range xs) xs ys same
