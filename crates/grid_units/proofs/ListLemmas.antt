-- What holds of each element of a list, and of runs of its elements.
use Rattle.std.proofs.Common.{◌≡◌, ℕ, zero, suc, ◌+◌, ◌<◌, Bool, true, false, cond, not, ◌&&◌, List, [], ◌∷◌, ◌++◌, map, length, take, drop, get_or, refl, sym, ap, subst, ◌∙◌, arith}
use Rattle.std.specs.Prelude.{take_while}
use Rattle.std.specs.List.{filter, flat_map, list_all, list_any, prefix_len, Contains}
use Rattle.std.proofs.lemmas.List.{append-nil, length-map, get_or-map, take_at, drop_at}
use Rattle.std.proofs.lemmas.List.Concat.{flat_map-cons}
use Rattle.std.proofs.lemmas.List.Elements.{Contains-append_left, Contains-append_right}
use Rattle.std.proofs.lemmas.List.Folds.{list_all-append}
use Rattle.grid_units.proofs.BoolLemmas.{and_true, both_true}

-- ---- lists without elements

pub map_is_nil : {X Y : Type 0} (f : X → Y) (xs : List X) → map f xs ≡ [] → xs ≡ []
map_is_nil f [] e = refl
map_is_nil f (x ∷ xs) e = absurd cc

pub append_nil_left : {X : Type 0} (xs ys : List X) → xs ++ ys ≡ [] → xs ≡ []
append_nil_left [] ys e = refl
append_nil_left (x ∷ xs) ys e = absurd cc

pub append_nil_right : {X : Type 0} (xs ys : List X) → xs ++ ys ≡ [] → ys ≡ []
append_nil_right [] ys e = e
append_nil_right (x ∷ xs) ys e = absurd cc

-- what an element gives is nothing
pub none_at : {X Y : Type 0} (f : X → List Y) (xs : List X) → flat_map f xs ≡ [] → (k : ℕ) (d : X) → k < length xs → f (get_or xs k d) ≡ []
none_at f [] e k d h = absurd (omega arith)
none_at f (x ∷ xs) e zero d h = append_nil_left (f x) (flat_map f xs) (sym (flat_map-cons f x xs) ∙ e)
none_at f (x ∷ xs) e (suc k) d h = none_at f xs (append_nil_right (f x) (flat_map f xs) (sym (flat_map-cons f x xs) ∙ e)) k d (omega arith)

-- no element passes the test
pub filter_nil_at : {X : Type 0} (p : X → Bool) (xs : List X) → filter p xs ≡ [] → (k : ℕ) (d : X) → k < length xs → p (get_or xs k d) ≡ false
filter_nil_at p [] e k d h = absurd (omega arith)
filter_nil_at {X} p (x ∷ xs) e k d h = by_test (p x) refl k h (λ rest j l. filter_nil_at p xs rest j d l) where
  by_test : (b : Bool) → p x ≡ b → (k : ℕ) → k < length (x ∷ xs) → (filter p xs ≡ [] → (j : ℕ) → j < length xs → p (get_or xs j d) ≡ false) → p (get_or (x ∷ xs) k d) ≡ false
  by_test true t k h rest = absurd (let g : cond (p x) (x ∷ filter p xs) (filter p xs) ≡ [] = e in let f : cond true (x ∷ filter p xs) (filter p xs) ≡ [] = rw t at g in cc)
  by_test false t zero h rest = t
  by_test false t (suc j) h rest = rest (let g : cond (p x) (x ∷ filter p xs) (filter p xs) ≡ [] = e in rw t at g) j (omega arith)

-- what has been taken is all of it where nothing is left
pub done_is_all : (done rest bytes : List ℕ) → length rest ≡ 0 → done ++ rest ≡ bytes → done ≡ bytes
done_is_all done [] bytes e h = sym (append-nil done) ∙ h
done_is_all done (b ∷ bs) bytes e h = absurd (omega arith)

-- ---- elements

-- an element that passes
pub list_any_element : {X : Type 0} (p : X → Bool) (xs : List X) → list_any p xs ≡ true → (x : X) × Contains xs x × (p x ≡ true)
list_any_element p [] e = absurd cc
list_any_element {X} p (x ∷ xs) e = by_test (p x) refl (λ rest. list_any_element p xs rest) where
  by_test : (b : Bool) → p x ≡ b → (list_any p xs ≡ true → (y : X) × Contains xs y × (p y ≡ true)) → (y : X) × Contains (x ∷ xs) y × (p y ≡ true)
  by_test true t rest = (x, (0, omega arith, refl), t)
  by_test false t rest =
      let later : list_any p xs ≡ true = cc in
      let found = rest later in
      (found.0, (suc found.1.0, (let lt = found.1.1 in omega arith), found.1.2), found.2)

pub flat_map_at : {X Y : Type 0} (f : X → List Y) (xs : List X) (x : X) (y : Y) (k : ℕ) → k < length xs → get_or xs k x ≡ x → Contains (f x) y → Contains (flat_map f xs) y
flat_map_at f [] x y k lt e g = absurd (omega arith)
flat_map_at {X} {Y} f (z ∷ zs) x y zero lt e g =
    subst (λ (ys : List Y). Contains ys y) (sym (flat_map-cons f z zs)) (Contains-append_left (f z) (flat_map f zs) y (subst (λ (w : X). Contains (f w) y) (sym e) g))
flat_map_at {X} {Y} f (z ∷ zs) x y (suc k) lt e g =
    subst (λ (ys : List Y). Contains ys y) (sym (flat_map-cons f z zs)) (Contains-append_right (f z) (flat_map f zs) y (flat_map_at f zs x y k (omega arith) e g))

pub map_contains : {X Y : Type 0} (f : X → Y) (xs : List X) (x : X) → Contains xs x → Contains (map f xs) (f x)
map_contains f xs x h = let lt = h.1 in (h.0, omega (arith, lt, length-map xs f), get_or-map f xs h.0 x (f x) lt ∙ ap f h.2)

-- ---- tests of all elements

-- a test that follows from another, over a list
pub list_all_weaker : (p q : ℕ → Bool) → ((b : ℕ) → p b ≡ true → q b ≡ true) → (xs : List ℕ) → list_all p xs ≡ true → list_all q xs ≡ true
list_all_weaker p q h [] e = refl
list_all_weaker p q h (x ∷ xs) e = let k = both_true (p x) (list_all p xs) e in and_true (q x) (list_all q xs) (h x k.0) (list_all_weaker p q h xs k.1)

pub list_all_append : (p : ℕ → Bool) (xs ys : List ℕ) → list_all p xs ≡ true → list_all p ys ≡ true → list_all p (xs ++ ys) ≡ true
list_all_append p xs ys h k = list_all-append p xs ys ∙ and_true (list_all p xs) (list_all p ys) h k

-- ---- runs

-- a run of bytes that pass, followed by one that does not, or by nothing
pub prefix_len_append : (p : ℕ → Bool) (xs ys : List ℕ) → list_all p xs ≡ true → prefix_len p ys ≡ 0 → prefix_len p (xs ++ ys) ≡ length xs
prefix_len_append p [] ys h k = k
prefix_len_append p (x ∷ xs) ys h k =
    let b = both_true (p x) (list_all p xs) h in
    ap (λ t. cond t (1 + prefix_len p (xs ++ ys)) 0) b.0 ∙ omega (arith, prefix_len_append p xs ys b.1 k)

pub take_while_append : (p : ℕ → Bool) (xs ys : List ℕ) → list_all p xs ≡ true → prefix_len p ys ≡ 0 → take_while p (xs ++ ys) ≡ xs
take_while_append p xs ys h k = ap (λ n. take n (xs ++ ys)) (prefix_len_append p xs ys h k) ∙ take_at xs ys (length xs) refl

pub drop_run_append : (p : ℕ → Bool) (xs ys : List ℕ) → list_all p xs ≡ true → prefix_len p ys ≡ 0 → drop (prefix_len p (xs ++ ys)) (xs ++ ys) ≡ ys
drop_run_append p xs ys h k = ap (λ n. drop n (xs ++ ys)) (prefix_len_append p xs ys h k) ∙ drop_at xs ys (length xs) refl

pub take_while_all : (p : ℕ → Bool) (xs : List ℕ) → list_all p xs ≡ true → take_while p xs ≡ xs
take_while_all p xs h = ap (take_while p) (sym (append-nil xs)) ∙ take_while_append p xs [] h refl

pub drop_run_all : (p : ℕ → Bool) (xs : List ℕ) → list_all p xs ≡ true → drop (prefix_len p xs) xs ≡ []
drop_run_all p xs h = ap (λ (x : List ℕ). drop (prefix_len p x) x) (sym (append-nil xs)) ∙ drop_run_append p xs [] h refl
