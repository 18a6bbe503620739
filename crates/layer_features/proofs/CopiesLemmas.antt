-- One copy more, and one column more.
use Rattle.layer_features.proofs.Common.{◌≡◌, ◌∙◌, ℕ, ℤ, pos, ◌+◌, ◌*◌, ◌^◌, ◌<◌, ◌≤◌, ◌*ℤ◌, List, [], ◌∷◌, ◌++◌, map, Option, unsigned_abs, FitsSigned, to_z, of_z, ap, sym, arith, add-one, append-nil, append_assoc, mul-le-mul, cons_option, filter_map, flat_map, w128, ints, to_z-of_z, unsigned_abs-mul, map-append, filter_map-append, numbers_below}
use Rattle.std.proofs.lemmas.List.Concat.{flat_map-append}

-- one number more
pub next_copy : {A B : Type 0} (gives : A → Option B) (at : ℕ → A) (n : ℕ) → filter_map gives (map at (numbers_below (n + 1))) ≡ filter_map gives (map at (numbers_below n)) ++ cons_option (gives (at n)) []
next_copy gives at n =
    ap (λ k. filter_map gives (map at (numbers_below k))) (add-one n) ∙ ap (filter_map gives) (map-append at (numbers_below n) (n ∷ [])) ∙ filter_map-append gives (map at (numbers_below n)) (at n ∷ [])

-- one list more
pub next_list : {A B : Type 0} (gives : A → Option B) (column : ℕ → List A) (n : ℕ)
    → filter_map gives (flat_map column (numbers_below (n + 1))) ≡ filter_map gives (flat_map column (numbers_below n)) ++ filter_map gives (column n)
next_list gives column n =
    ap (λ k. filter_map gives (flat_map column (numbers_below k))) (add-one n)
    ∙ ap (filter_map gives) (flat_map-append column (numbers_below n) (n ∷ []) ∙ ap (λ l. flat_map column (numbers_below n) ++ l) (append-nil (column n)))
    ∙ filter_map-append gives (flat_map column (numbers_below n)) (column n)

-- what is mapped of one list after another
mapped : {A B : Type 0} (f : A → B) (all now more : List A) → all ≡ now ++ more → map f all ≡ map f now ++ map f more
mapped f all now more sums = ap (map f) sums ∙ map-append f now more

-- and after others
pub and_mapped : {A B : Type 0} (f : A → B) (start : List B) (all now more : List A) → all ≡ now ++ more → (start ++ map f now) ++ map f more ≡ start ++ map f all
and_mapped f start all now more sums = append_assoc start (map f now) (map f more) ∙ ap (λ l. start ++ l) (sym (mapped f all now more sums))

-- some steps are bounded
pub steps_bound : (s : ℤ) (k : ℕ) → unsigned_abs s ≤ 2 ^ 71 → k < 2 ^ 32 → unsigned_abs (pos k *ℤ s) ≤ 2 ^ 104
steps_bound s k b l =
    let q : k ≤ 2 ^ 32 = omega arith in
    let p : k * unsigned_abs s ≤ 2 ^ 32 * 2 ^ 71 = mul-le-mul q b in
    rw unsigned_abs-mul (omega arith)

pub back : (z : ℤ) → unsigned_abs z ≤ 2 ^ 104 → to_z w128 (of_z w128 z) ≡ z
back z h = to_z-of_z w128 z (fits z h)
  where
    fits : (y : ℤ) → unsigned_abs y ≤ 2 ^ 104 → FitsSigned w128 y
    fits y l = omega (arith, ints)

-- some steps, as they come back from 128 bits
pub stepped_is : (s n : ℤ) (k : ℕ) → n ≡ pos k → unsigned_abs s ≤ 2 ^ 71 → k < 2 ^ 32 → to_z w128 (of_z w128 (to_z w128 (of_z w128 n) *ℤ to_z w128 (of_z w128 s))) ≡ pos k *ℤ s
stepped_is s n k h b l =
    let count : to_z w128 (of_z w128 n) ≡ pos k = ap (λ (z : ℤ). to_z w128 (of_z w128 z)) h ∙ back (pos k) (omega (arith, l)) in
    let step : to_z w128 (of_z w128 s) ≡ s = back s (omega (arith, b)) in
    (λ i. to_z w128 (of_z w128 (count i *ℤ step i))) ∙ back (pos k *ℤ s) (steps_bound s k b l)
