-- The holes of a drill file on a layer, by their radius.
use Rattle.board_report.proofs.Common.{◌≡◌, ◌||◌, ℕ, ◌+◌, ◌-◌, ◌<◌, ◌≤◌, ◌⊎◌, inl, inr, zero, suc, Bool, true, false, cond, List, [], ◌∷◌, ◌++◌, length, get_or, refl, sym, subst, ap, ◌∙◌, arith, All, filter, range_with_len, sum_by, take_all, All-filter, BoardView, hole_count, RowKey, is_in_row, places_of, holes_before, LayerFileHoles, IsLayerFileHoles, is_not_empty, row_of}
use Rattle.std.proofs.lemmas.List.FromFn.{length-range_with_len, get_or-range_with_len}
use Rattle.grid_units.proofs.BoolLemmas.{either}

module _ (p : ℕ → Bool) where
  -- one more number
  kept_more : (a n : ℕ) → p (a + n) ≡ true → filter p (range_with_len a (n + 1)) ≡ filter p (range_with_len a n) ++ (a + n) ∷ []
  kept_more a zero holds =
      let e : a + 0 ≡ a = omega arith in
      let here : p a ≡ true = subst (λ (k : ℕ). p k ≡ true) e holds in
      ap (λ (b : Bool). cond b (a ∷ []) []) here ∙ ap (λ (k : ℕ). k ∷ []) (sym e)
  kept_more a (suc n) holds =
      let e : a + suc n ≡ a + 1 + n = omega arith in
      let rest = kept_more (a + 1) n (subst (λ (k : ℕ). p k ≡ true) e holds) in
      let same : filter p (range_with_len (a + 1) (n + 1)) ≡ filter p (range_with_len (a + 1) n) ++ (a + suc n) ∷ [] = rest ∙ ap (λ (k : ℕ). filter p (range_with_len (a + 1) n) ++ k ∷ []) (sym e) in
      let next : suc n + 1 ≡ suc (n + 1) = omega arith in
      subst (λ (m : ℕ). filter p (range_with_len a m) ≡ filter p (range_with_len a (suc n)) ++ (a + suc n) ∷ []) (sym next)
      (on_head (p a) (a + suc n) (filter p (range_with_len (a + 1) (n + 1))) (filter p (range_with_len (a + 1) n)) same)
    where
      on_head : (b : Bool) (k : ℕ) (xs ys : List ℕ) → xs ≡ ys ++ k ∷ [] → cond b (a ∷ xs) xs ≡ cond b (a ∷ ys) ys ++ k ∷ []
      on_head true k xs ys same = ap (λ (zs : List ℕ). a ∷ zs) same
      on_head false k xs ys same = same

  left_out : (a n : ℕ) → p (a + n) ≡ false → filter p (range_with_len a (n + 1)) ≡ filter p (range_with_len a n)
  left_out a zero fails =
      let e : a + 0 ≡ a = omega arith in
      ap (λ (b : Bool). cond b (a ∷ []) []) (subst (λ (k : ℕ). p k ≡ false) e fails)
  left_out a (suc n) fails =
      let e : a + suc n ≡ a + 1 + n = omega arith in
      let rest = left_out (a + 1) n (subst (λ (k : ℕ). p k ≡ false) e fails) in
      let next : suc n + 1 ≡ suc (n + 1) = omega arith in
      subst (λ (m : ℕ). filter p (range_with_len a m) ≡ filter p (range_with_len a (suc n))) (sym next) (ap (λ (xs : List ℕ). cond (p a) (a ∷ xs) xs) rest)

-- a list with one more place is not empty
with_holes_push : (xs : List ℕ) (y : ℕ) → is_not_empty (xs ++ y ∷ []) ≡ true
with_holes_push [] y = refl
with_holes_push (x ∷ xs) y = refl

module _ (p : ℕ → Bool) (a n place : ℕ) (here : a + n ≡ place) where
  taken : p place ≡ true → filter p (range_with_len a (n + 1)) ≡ filter p (range_with_len a n) ++ place ∷ []
  taken holds = kept_more p a n (subst (λ (k : ℕ). p k ≡ true) (sym here) holds) ∙ ap (λ (k : ℕ). filter p (range_with_len a n) ++ k ∷ []) here

  passed_over : p place ≡ false → filter p (range_with_len a (n + 1)) ≡ filter p (range_with_len a n)
  passed_over fails = left_out p a n (subst (λ (k : ℕ). p k ≡ false) (sym here) fails)

  -- a place is added to those of its radius
  pub items_added : (old new : List ℕ) → old ≡ filter p (range_with_len a n) → new ≡ cond (p place) (old ++ place ∷ []) old → new ≡ filter p (range_with_len a (n + 1))
  items_added old new was is = elim (either (p place)) [
    | inl holds ↦ is ∙ (ap (λ (b : Bool). cond b (old ++ place ∷ []) old) holds ∙ (ap (λ (xs : List ℕ). xs ++ place ∷ []) was ∙ sym (taken holds)))
    | inr fails ↦ is ∙ (ap (λ (b : Bool). cond b (old ++ place ∷ []) old) fails ∙ (was ∙ sym (passed_over fails)))
  ]

  pub there_added : (old new : Bool) → old ≡ is_not_empty (filter p (range_with_len a n)) → new ≡ (p place || old) → new ≡ is_not_empty (filter p (range_with_len a (n + 1)))
  there_added old new was is = elim (either (p place)) [
    | inl holds ↦ is ∙ (ap (λ (b : Bool). b || old) holds ∙ sym (ap is_not_empty (taken holds) ∙ with_holes_push (filter p (range_with_len a n)) place))
    | inr fails ↦ is ∙ (ap (λ (b : Bool). b || old) fails ∙ (was ∙ sym (ap is_not_empty (passed_over fails))))
  ]

-- the places of a row are those holes of its stretch that need the ring
pub places_in_file : (board : BoardView) (file_holes : LayerFileHoles) (radius : ℕ) → IsLayerFileHoles board file_holes
    → places_of board (row_of file_holes radius) ≡ filter (is_in_row board (row_of file_holes radius)) (range_with_len file_holes.start (file_holes.end - file_holes.start))
places_in_file board file_holes radius is = sym (
    ap (λ (n : ℕ). filter (is_in_row board (row_of file_holes radius)) (range_with_len n (file_holes.end - n))) is.starts
    ∙ ap (λ (n : ℕ). filter (is_in_row board (row_of file_holes radius)) (range_with_len (holes_before board.files file_holes.drill) (n - holes_before board.files file_holes.drill))) is.ends)

-- the places of a row lie in its stretch
pub places_inside : (board : BoardView) (file_holes : LayerFileHoles) (radius : ℕ) → IsLayerFileHoles board file_holes → All (λ place. (file_holes.start ≤ place) × (place < file_holes.end)) (places_of board (row_of file_holes radius))
places_inside board file_holes radius is =
    let low = file_holes.start in
    let size = file_holes.end - file_holes.start in
    let every : All (λ place. (file_holes.start ≤ place) × (place < file_holes.end)) (range_with_len low size) = λ k d l.
    let inside : k < size = subst (λ (n : ℕ). k < n) (length-range_with_len low size) l in
    let at : low + k ≡ get_or (range_with_len low size) k d = sym (get_or-range_with_len low size k d inside) in
    let ordered = is.ordered in
    subst (λ (place : ℕ). (file_holes.start ≤ place) × (place < file_holes.end)) at (omega arith, omega (arith, inside, ordered)) in
    subst (All (λ place. (file_holes.start ≤ place) × (place < file_holes.end))) (sym (places_in_file board file_holes radius is)) (All-filter (is_in_row board (row_of file_holes radius)) (λ place. (file_holes.start ≤ place) × (place < file_holes.end)) (range_with_len low size) every)

-- there is no file after the last
pub no_file : (board : BoardView) (key : RowKey) → length board.files ≤ key.drill → 0 < length (places_of board key) → ⊥
no_file board key far some =
    let all : holes_before board.files (key.drill + 1) ≡ holes_before board.files key.drill = ap (sum_by hole_count) (take_all (key.drill + 1) board.files (omega (arith, far)) ∙ sym (take_all key.drill board.files far)) in
    let none : holes_before board.files (key.drill + 1) - holes_before board.files key.drill ≡ 0 = omega (arith, all) in
    let empty : places_of board key ≡ [] = ap (λ (n : ℕ). filter (is_in_row board key) (range_with_len (holes_before board.files key.drill) n)) none in
    let few : 0 < length {A = ℕ} [] = subst (λ (xs : List ℕ). 0 < length xs) empty some in
    omega (arith, few)
