-- How often a test passes, and at which elements.
use Rattle.manifest.proofs.Common.{◌≡◌, ◌∙◌, ◌<◌, ◌≤◌, ◌+◌, ◌||◌, ℕ, Bool, true, false, cond, List, [], ◌∷◌, ◌++◌, length, map, suc, arith, refl, sym, ap, None, nat_lt, list_any, list_all, filter, count_by, position, position_or_len, false≢true, nat_tests, sum_by-cons, sum_by-append, both_true}

pub or_first : (a b : Bool) → a ≡ true → (a || b) ≡ true
or_first true b e = refl
or_first false b e = absurd (false≢true e)

pub or_second : (a b : Bool) → b ≡ true → (a || b) ≡ true
or_second true b e = refl
or_second false b e = e

abbrev pub one : Bool → ℕ
one b = cond b 1 0

module _ {A : Type 0} where
  -- a test that all elements pass
  pub all_at : (p : A → Bool) (before : List A) (x : A) (after : List A) → list_all p (before ++ x ∷ after) ≡ true → p x ≡ true
  all_at p [] x after h = (both_true (p x) (list_all p after) h).0
  all_at p (y ∷ before) x after h = all_at p before x after (both_true (p y) (list_all p (before ++ x ∷ after)) h).1

  -- a test that some element passes
  pub found : (f : A → Bool) (xs : List A) → list_any f xs ≡ true → (q : A) × (f q ≡ true) × ((p : A → Bool) → p q ≡ true → list_any p xs ≡ true)
  found f [] h = absurd (false≢true h)
  found f (x ∷ xs) h = by (found f xs) (f x) refl h
    where
      by : (list_any f xs ≡ true → (q : A) × (f q ≡ true) × ((p : A → Bool) → p q ≡ true → list_any p xs ≡ true)) → (b : Bool) → f x ≡ b → (b || list_any f xs) ≡ true
          → (q : A) × (f q ≡ true) × ((p : A → Bool) → p q ≡ true → list_any p (x ∷ xs) ≡ true)
      by more true e k = (x, e, λ p t. or_first (p x) (list_any p xs) t)
      by more false e k = let r = more k in (r.0, r.1, λ p t. or_second (p x) (list_any p xs) (r.2 p t))

  pub count_cons : (p : A → Bool) (x : A) (xs : List A) → count_by p (x ∷ xs) ≡ one (p x) + count_by p xs
  count_cons p x xs = sum_by-cons (λ (y : A). one (p y)) x xs

  pub count_hit : (p : A → Bool) (x : A) (xs : List A) → p x ≡ true → count_by p (x ∷ xs) ≡ 1 + count_by p xs
  count_hit p x xs e = count_cons p x xs ∙ ap (λ b. one b + count_by p xs) e

  pub count_miss : (p : A → Bool) (x : A) (xs : List A) → p x ≡ false → count_by p (x ∷ xs) ≡ count_by p xs
  count_miss p x xs e =
      let z : one (p x) ≡ 0 = ap one e in
      omega (arith, count_cons p x xs, z)

  pub count_append : (p : A → Bool) (xs ys : List A) → count_by p (xs ++ ys) ≡ count_by p xs + count_by p ys
  count_append p xs ys = sum_by-append (λ (y : A). cond (p y) 1 0) xs ys

  pub count_some : (p : A → Bool) (xs : List A) → list_any p xs ≡ true → 1 ≤ count_by p xs
  count_some p [] h = absurd (false≢true h)
  count_some p (x ∷ xs) h = by (count_some p xs) (p x) refl h
    where
      by : (list_any p xs ≡ true → 1 ≤ count_by p xs) → (b : Bool) → p x ≡ b → (b || list_any p xs) ≡ true → 1 ≤ count_by p (x ∷ xs)
      by more true e k = omega (arith, count_hit p x xs e)
      by more false e k = omega (arith, count_miss p x xs e, more k)

  -- an element that passes after another that does
  pub count_two : (p : A → Bool) (before : List A) (x : A) (after : List A) → list_any p before ≡ true → p x ≡ true → 1 < count_by p (before ++ x ∷ after)
  count_two p before x after h e = omega (arith, count_append p before (x ∷ after), count_hit p x after e, count_some p before h)

  pub count_filter : (p q : A → Bool) (xs : List A) → count_by p (filter q xs) ≤ count_by p xs
  count_filter p q [] = omega arith
  count_filter p q (x ∷ xs) = by (count_filter p q xs) (q x) (p x) refl
    where
      by : count_by p (filter q xs) ≤ count_by p xs → (c b : Bool) → p x ≡ b → count_by p (cond c (x ∷ filter q xs) (filter q xs)) ≤ count_by p (x ∷ xs)
      by more true true e = omega (arith, count_hit p x (filter q xs) e, count_hit p x xs e, more)
      by more true false e = omega (arith, count_miss p x (filter q xs) e, count_miss p x xs e, more)
      by more false true e = omega (arith, count_hit p x xs e, more)
      by more false false e = omega (arith, count_miss p x xs e, more)

  all_differ : (p : A → Bool) (xs : List A) → list_any p xs ≡ false → position_or_len p xs ≡ length xs
  all_differ p [] h = refl
  all_differ p (x ∷ xs) h = by (all_differ p xs) (p x) refl h
    where
      by : (list_any p xs ≡ false → position_or_len p xs ≡ length xs) → (b : Bool) → p x ≡ b → (b || list_any p xs) ≡ false → position_or_len p (x ∷ xs) ≡ suc (length xs)
      by more true e k = absurd (false≢true (sym k))
      by more false e k = rw e (omega (arith, more k))

  -- a test that no element passes
  pub nowhere : (p : A → Bool) (xs : List A) → list_any p xs ≡ false → position p xs ≡ None
  nowhere p xs h =
      let e = all_differ p xs h in
      let out : nat_lt (position_or_len p xs) (length xs) ≡ false = rw e (grind (arith, nat_tests)) in
      rw out refl

module _ {A B : Type 0} (f : A → B) where
  pub any_of_map : (p : B → Bool) (xs : List A) → list_any p (map f xs) ≡ list_any (λ x. p (f x)) xs
  any_of_map p [] = refl
  any_of_map p (x ∷ xs) = ap (λ b. p (f x) || b) (any_of_map p xs)

  pub count_of_map : (p : B → Bool) (xs : List A) → count_by p (map f xs) ≡ count_by (λ x. p (f x)) xs
  count_of_map p [] = refl
  count_of_map p (x ∷ xs) = count_cons p (f x) (map f xs) ∙ ap (λ (n : ℕ). one (p (f x)) + n) (count_of_map p xs) ∙ sym (count_cons (λ (y : A). p (f y)) x xs)
