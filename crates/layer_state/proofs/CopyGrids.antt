-- Sums of lengths, and the copies of a point.
use Rattle.layer_state.proofs.Common.{◌≡◌, ℕ, ◌+◌, ◌*◌, ◌^◌, ◌<◌, ◌≤◌, zero, suc, ℤ, pos, negsuc, ◌+ℤ◌, ◌*ℤ◌, unsigned_abs, FitsSigned, Bool, true, false, List, [], ◌∷◌, ◌++◌, map, length, ◌||◌, nat_lt, refl, sym, ap, ◌∙◌, arith, to_z, of_z, mul-le-mul_right, true≢false, zero-mul, length-append, append-nil, append_assoc, add-one, ints, to_z-of_z, list_any, flat_map, length-map, map-append, ltb-true, ltb-false, is_too_far, numbers_below, copies, copy_at, is_far_point, GridPoint, max_coordinate, w128, w64, back_128}
use Rattle.std.proofs.lemmas.List.Folds.{list_any-append}
use Rattle.std.proofs.lemmas.Grind.{common_steps, flat_map-append}
use Rattle.std.proofs.lemmas.Nat.{mul-add-lt}
use Rattle.layer_state.specs.declared.grid.CopyGrid.{CopyGrid}
use Rattle.layer_state.proofs.SumLemmas.{stepped_fits}

pub fits_i64 : (a : ℤ) → unsigned_abs a ≤ max_coordinate → FitsSigned w64 a
fits_i64 a h = omega (arith, ints)

any-map : {A B : Type 0} (p : B → Bool) (g : A → B) (xs : List A) → list_any p (map g xs) ≡ list_any (λ x. p (g x)) xs
any-map p g [] = refl
any-map p g (x ∷ xs) = ap (λ b. p (g x) || b) (any-map p g xs)

any-flat_map : {A B : Type 0} (p : B → Bool) (f : A → List B) (xs : List A) → list_any p (flat_map f xs) ≡ list_any (λ x. list_any p (f x)) xs
any-flat_map p f [] = refl
any-flat_map p f (x ∷ xs) = list_any-append p (f x) (flat_map f xs) ∙ ap (λ b. list_any p (f x) || b) (any-flat_map p f xs)

any_below_none : (p : ℕ → Bool) (n : ℕ) → ((u : ℕ) → u < n → p u ≡ false) → list_any p (numbers_below n) ≡ false
any_below_none p zero h = refl
any_below_none p (suc n) h =
    let rest : list_any p (numbers_below n) ≡ false = any_below_none p n (λ u l. h u (omega arith)) in
    let last : p n ≡ false = h n (omega arith) in
    list_any-append p (numbers_below n) (n ∷ []) ∙ (λ i. rest i || (last i || false))

or_true : (b : Bool) → (b || true) ≡ true
or_true true = refl
or_true false = refl

any_below_some : (p : ℕ → Bool) (n u : ℕ) → u < n → p u ≡ true → list_any p (numbers_below n) ≡ true
any_below_some p zero u l h = absurd (omega arith)
any_below_some p (suc n) u l h = list_any-append p (numbers_below n) (n ∷ []) ∙ by (λ below. any_below_some p n u below h) (nat_lt u n) refl
  where
    by : (u < n → list_any p (numbers_below n) ≡ true) → (b : Bool) → nat_lt u n ≡ b → (list_any p (numbers_below n) || (p n || false)) ≡ true
    by rest true t = ap (λ b. b || (p n || false)) (rest (ltb-true u n t))
    by rest false t = let same : u ≡ n = omega (arith, ltb-false u n t) in ap (λ k. list_any p (numbers_below n) || (p k || false)) (sym same) ∙ ap (λ b. list_any p (numbers_below n) || (b || false)) h ∙ or_true (list_any p (numbers_below n))

-- a multiple between two near ones is near
pub near_multiple : (x s : ℤ) (u k l : ℕ) → u ≤ k → unsigned_abs x ≤ l → unsigned_abs (x +ℤ pos k *ℤ s) ≤ l → unsigned_abs (x +ℤ pos u *ℤ s) ≤ l
near_multiple x (pos a) u k l h p q = let m : u * a ≤ k * a = mul-le-mul_right a h in omega (arith, ints)
near_multiple x (negsuc a) u k l h p q = let m : u * suc a ≤ k * suc a = mul-le-mul_right (suc a) h in omega (arith, ints)

pub no_multiple : (x s : ℤ) → x +ℤ pos 0 *ℤ s ≡ x
no_multiple x (pos a) = omega (arith, ints)
no_multiple x (negsuc a) = omega (arith, ints)

pub near : (z : ℤ) → is_too_far z ≡ false → unsigned_abs z ≤ max_coordinate
near z h = grind (arith, common_steps)

pub not_far : (z : ℤ) → unsigned_abs z ≤ max_coordinate → is_too_far z ≡ false
not_far z h = grind (arith, common_steps)

pub far_at_end : (x s : ℤ) (u k : ℕ) → u ≤ k → is_too_far x ≡ false → is_too_far (x +ℤ pos k *ℤ s) ≡ false → is_too_far (x +ℤ pos u *ℤ s) ≡ false
far_at_end x s u k h p q = not_far (x +ℤ pos u *ℤ s) (near_multiple x s u k (max_coordinate) h (near x p) (near (x +ℤ pos k *ℤ s) q))

-- whether one of the places passes either test, where each test passes only if it does at an end
pub at_ends : (f g : ℕ → Bool) (c r : ℕ) → ((u : ℕ) → u ≤ c → f 0 ≡ false → f c ≡ false → f u ≡ false) → ((v : ℕ) → v ≤ r → g 0 ≡ false → g r ≡ false → g v ≡ false)
    → list_any (λ u. list_any (λ v. f u || g v) (numbers_below (suc r))) (numbers_below (suc c)) ≡ (f 0 || (g 0 || (f c || g r)))
at_ends f g c r fs gs = by (f 0) (g 0) (f c) (g r) refl refl refl refl
  where
    some : (u v : ℕ) → u ≤ c → v ≤ r → (f u || g v) ≡ true → list_any (λ u. list_any (λ v. f u || g v) (numbers_below (suc r))) (numbers_below (suc c)) ≡ true
    some u v a b h = any_below_some (λ u. list_any (λ v. f u || g v) (numbers_below (suc r))) (suc c) u (omega arith) (any_below_some (λ v. f u || g v) (suc r) v (omega arith) h)

    by : (a b d e : Bool) → f 0 ≡ a → g 0 ≡ b → f c ≡ d → g r ≡ e → list_any (λ u. list_any (λ v. f u || g v) (numbers_below (suc r))) (numbers_below (suc c)) ≡ (f 0 || (g 0 || (f c || g r)))
    by true b d e p q s t = some 0 0 (omega arith) (omega arith) (ap (λ x. x || g 0) p) ∙ sym (ap (λ x. x || (g 0 || (f c || g r))) p)
    by false true d e p q s t = some 0 0 (omega arith) (omega arith) (λ i. p i || q i) ∙ sym (λ i. p i || (q i || (f c || g r)))
    by false false true e p q s t = some c 0 (omega arith) (omega arith) (ap (λ x. x || g 0) s) ∙ sym (λ i. p i || (q i || (s i || g r)))
    by false false false true p q s t = some 0 r (omega arith) (omega arith) (λ i. p i || t i) ∙ sym (λ i. p i || (q i || (s i || t i)))
    by false false false false p q s t =
        any_below_none _ (suc c) (λ u l. any_below_none _ (suc r) (λ v m. λ i. fs u (omega arith) p s i || gs v (omega arith) q t i))
        ∙ sym (λ i. p i || (q i || (s i || t i)))

-- as many as there are columns of as many as there are rows
length_below : (n : ℕ) → length (numbers_below n) ≡ n
length_below zero = refl
length_below (suc n) = simp length-append (omega (arith, length_below n))

pub count_pairs : {A : Type 0} (f : ℕ → ℕ → A) (c r : ℕ) → length (flat_map (λ u. map (f u) (numbers_below r)) (numbers_below c)) ≡ c * r
count_pairs f zero r = sym (zero-mul r)
count_pairs f (suc c) r =
    ap length (flat_map-append (λ u. map (f u) (numbers_below r)) (numbers_below c) (c ∷ []))
    ∙ length-append (flat_map (λ u. map (f u) (numbers_below r)) (numbers_below c)) (map (f c) (numbers_below r) ++ [])
    ∙ (λ i. count_pairs f c r i + (ap length (append-nil (map (f c) (numbers_below r))) ∙ length-map (numbers_below r) (f c) ∙ length_below r) i)
    ∙ grind arith

-- the copies of a point are as many as columns times rows
pub count_copies : (grid : CopyGrid) → length (copies grid) ≡ grid.columns * grid.rows
count_copies grid = count_pairs (copy_at grid) grid.columns grid.rows

-- a copy is too far just where one at the ends is
pub far_copies : (grid : CopyGrid) (c r : ℕ) → grid.columns ≡ suc c → grid.rows ≡ suc r
    → list_any is_far_point (copies grid) ≡ (is_too_far grid.x || (is_too_far grid.y || (is_too_far (grid.x +ℤ pos c *ℤ grid.step_x) || is_too_far (grid.y +ℤ pos r *ℤ grid.step_y))))
far_copies grid c r columns rows =
    any-flat_map is_far_point (λ u. map (copy_at grid u) (numbers_below grid.rows)) (numbers_below grid.columns)
    ∙ (λ i. list_any (λ u. any-map is_far_point (copy_at grid u) (numbers_below (rows i)) i) (numbers_below (columns i)))
    ∙ at_ends f g c r
    (λ u h p q. far_at_end grid.x grid.step_x u c h (sym (ap is_too_far (no_multiple grid.x grid.step_x)) ∙ p) q)
    (λ v h p q. far_at_end grid.y grid.step_y v r h (sym (ap is_too_far (no_multiple grid.y grid.step_y)) ∙ p) q)
    ∙ (λ i. is_too_far (no_multiple grid.x grid.step_x i) || (is_too_far (no_multiple grid.y grid.step_y i) || (f c || g r)))
  where
    f : ℕ → Bool
    f u = is_too_far (grid.x +ℤ pos u *ℤ grid.step_x)

    g : ℕ → Bool
    g v = is_too_far (grid.y +ℤ pos v *ℤ grid.step_y)

-- ---- in 128 bits

-- every copy is near, where none is far
pub near_copy : (grid : CopyGrid) (u v : ℕ) → list_any is_far_point (copies grid) ≡ false → u < grid.columns → v < grid.rows
    → (unsigned_abs (grid.x +ℤ pos u *ℤ grid.step_x) ≤ max_coordinate) × (unsigned_abs (grid.y +ℤ pos v *ℤ grid.step_y) ≤ max_coordinate)
near_copy grid u v none below_columns below_rows = by (is_too_far x) (is_too_far y) refl refl
  where
    x : ℤ
    x = grid.x +ℤ pos u *ℤ grid.step_x

    y : ℤ
    y = grid.y +ℤ pos v *ℤ grid.step_y

    some : is_far_point (copy_at grid u v) ≡ true → list_any is_far_point (copies grid) ≡ true
    some far =
        any-flat_map is_far_point (λ a. map (copy_at grid a) (numbers_below grid.rows)) (numbers_below grid.columns)
        ∙ any_below_some (λ a. list_any is_far_point (map (copy_at grid a) (numbers_below grid.rows))) grid.columns u below_columns
        (any-map is_far_point (copy_at grid u) (numbers_below grid.rows) ∙ any_below_some (λ b. is_far_point (copy_at grid u b)) grid.rows v below_rows far)

    by : (a b : Bool) → is_too_far x ≡ a → is_too_far y ≡ b → (unsigned_abs x ≤ max_coordinate) × (unsigned_abs y ≤ max_coordinate)
    by true b p q = absurd (true≢false (sym (some (ap (λ c. c || is_too_far y) p)) ∙ none))
    by false true p q = absurd (true≢false (sym (some (λ i. p i || q i)) ∙ none))
    by false false p q = (near x p, near y q)

-- no copies where there are no columns, or no rows
pub no_columns : (grid : CopyGrid) → grid.columns ≡ 0 → list_any is_far_point (copies grid) ≡ false
no_columns grid e = λ i. list_any is_far_point (flat_map (λ u. map (copy_at grid u) (numbers_below grid.rows)) (numbers_below (e i)))

pub no_rows : (grid : CopyGrid) → grid.rows ≡ 0 → list_any is_far_point (copies grid) ≡ false
no_rows grid e =
    any-flat_map is_far_point (λ u. map (copy_at grid u) (numbers_below grid.rows)) (numbers_below grid.columns)
    ∙ any_below_none (λ u. list_any is_far_point (map (copy_at grid u) (numbers_below grid.rows))) grid.columns (λ u l. λ i. list_any is_far_point (map (copy_at grid u) (numbers_below (e i))))

-- one row more
pub next_row : {A : Type 0} (f : GridPoint → A) (g : ℕ → GridPoint) (first : List GridPoint) (v : ℕ) → map f (first ++ map g (numbers_below v)) ++ f (g v) ∷ [] ≡ map f (first ++ map g (numbers_below (v + 1)))
next_row f g first v =
    let row : map g (numbers_below (v + 1)) ≡ map g (numbers_below v) ++ g v ∷ [] = ap (λ n. map g (numbers_below n)) (add-one v) ∙ map-append g (numbers_below v) (v ∷ []) in
    sym (ap (λ l. map f (first ++ l)) row ∙ ap (map f) (sym (append_assoc first (map g (numbers_below v)) (g v ∷ []))) ∙ map-append f (first ++ map g (numbers_below v)) (g v ∷ []))

-- one column more
pub next_column : {A : Type 0} (f : GridPoint → A) (grid : CopyGrid) (u v : ℕ) → v ≡ grid.rows
    → map f (flat_map (λ a. map (copy_at grid a) (numbers_below grid.rows)) (numbers_below u) ++ map (copy_at grid u) (numbers_below v))
    ≡ map f (flat_map (λ a. map (copy_at grid a) (numbers_below grid.rows)) (numbers_below (u + 1)))
next_column f grid u v e =
    let column : ℕ → List GridPoint = λ a. map (copy_at grid a) (numbers_below grid.rows) in
    let more : flat_map column (numbers_below (u + 1)) ≡ flat_map column (numbers_below u) ++ column u =
    ap (λ n. flat_map column (numbers_below n)) (add-one u) ∙ flat_map-append column (numbers_below u) (u ∷ []) ∙ ap (λ l. flat_map column (numbers_below u) ++ l) (append-nil (column u)) in
    (λ i. map f (flat_map column (numbers_below u) ++ map (copy_at grid u) (numbers_below (e i)))) ∙ ap (map f) (sym more)

-- the copies before one of them are fewer than all
pub fewer_copies : {A : Type 0} (f : GridPoint → A) (grid : CopyGrid) (u v : ℕ) → u < grid.columns → v < grid.rows
    → length (map f (flat_map (λ a. map (copy_at grid a) (numbers_below grid.rows)) (numbers_below u) ++ map (copy_at grid u) (numbers_below v))) < length (copies grid)
fewer_copies f grid u v column row =
    let first : List GridPoint = flat_map (λ a. map (copy_at grid a) (numbers_below grid.rows)) (numbers_below u) in
    let rest : List GridPoint = map (copy_at grid u) (numbers_below v) in
    omega (arith, length-map (first ++ rest) f, length-append first rest, count_pairs (copy_at grid) u grid.rows, length-map (numbers_below v) (copy_at grid u), length_below v, count_copies grid, mul-add-lt u grid.rows v grid.columns column row)

-- a start and some steps, as they come back from 128 bits
pub back_steps : (x s : ℤ) (k : ℕ) (r : ℤ) → unsigned_abs x ≤ 2 ^ 98 → unsigned_abs s ≤ 2 ^ 71 → k < 2 ^ 32
    → r ≡ to_z w128 (of_z w128 x) +ℤ pos k *ℤ to_z w128 (of_z w128 s) → to_z w128 (of_z w128 r) ≡ x +ℤ pos k *ℤ s
back_steps x s k r a b l e =
    let is : r ≡ x +ℤ pos k *ℤ s = e ∙ (λ i. back_128 x a i +ℤ pos k *ℤ back_128 s (omega arith) i) in
    ap (λ z. to_z w128 (of_z w128 z)) is ∙ to_z-of_z w128 (x +ℤ pos k *ℤ s) (stepped_fits x s k a l b)
