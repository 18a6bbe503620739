-- Spots in the order of their cells: as they are appended, and where those of a row are.
use Rattle.ring_rules.proofs.Common.{◌≡◌, ℕ, ◌+◌, ◌*◌, ◌<◌, ◌≤◌, ◌^◌, inl, inr, List, [], ◌∷◌, ◌++◌, length, get_or, refl, sym, ap, subst, ◌∙◌, arith, cases_lt, get_or_append_left, get_or_push, length_push, get_or_past, GridPoint, hole_at, entry_at, column_of, row_of, cell_of, default_spot, spot_at, point_at, IsSpotOf, HasSpot, AreSpotsOf, AreInCells, IsInRegion, AddsSpots, AreSpotted, Drilled, Spot, Axis}
use Rattle.std.proofs.lemmas.Nat.{mul-le}

pub has_spot_still : (a b : List Spot) → length a ≤ length b → ((i : ℕ) → i < length a → spot_at b i ≡ spot_at a i) → (k : ℕ) → HasSpot a k → HasSpot b k
has_spot_still a b longer kept k has = let inside = has.1 in (has.0, omega (arith, inside, longer), ap (λ (s : Spot). s.place) (kept has.0 has.1) ∙ has.2)

-- the hole of a spot, by the place that it has
pub hole_of : (holes : List Drilled) (spots : List Spot) → AreSpotsOf holes spots → (i k : ℕ) → i < length spots → (spot_at spots i).place ≡ k → (spot_at spots i).hole ≡ hole_at holes k
hole_of holes spots listed i k h e = (listed.each i h).same ∙ ap (hole_at holes) e

module _ (cell : GridPoint → ℕ) (holes : List Drilled) (c : ℕ) where
  pub adds_no_spots : (a : List Spot) → AddsSpots cell holes c a a
  adds_no_spots a = record { longer = omega arith; kept = λ i h. refl; each = λ i h k. absurd (omega (arith, h, k)); here = λ i h k. absurd (omega (arith, h, k)) }

  module _ (a b : List Spot) (s : Spot) where
    same_before : (i : ℕ) → i < length b → spot_at (b ++ s ∷ []) i ≡ spot_at b i
    same_before i h = get_or_append_left b (s ∷ []) default_spot i h

    is_last : (i : ℕ) → length b ≡ i → spot_at (b ++ s ∷ []) i ≡ s
    is_last i e = get_or_push b s default_spot i e

    pub has_spot_more : (k : ℕ) → HasSpot b k → HasSpot (b ++ s ∷ []) k
    has_spot_more k has = has_spot_still b (b ++ s ∷ []) (omega (arith, length_push b s)) same_before k has

    pub has_last_spot : HasSpot (b ++ s ∷ []) s.place
    has_last_spot = (length b, omega (arith, length_push b s), ap (λ (t : Spot). t.place) (is_last (length b) refl))

    pub adds_spot : AddsSpots cell holes c a b → IsSpotOf holes s → cell s.hole.from ≡ c → AddsSpots cell holes c a (b ++ s ∷ [])
    adds_spot was is at = record {
      longer = omega (arith, was.longer, length_push b s);
      kept = λ i h. same_before i (omega (arith, h, was.longer)) ∙ was.kept i h;
      each = λ i h k. elim (cases_lt i (length b)) [
        | inl less ↦ subst (IsSpotOf holes) (sym (same_before i less)) (was.each i h less)
        | inr more ↦ subst (IsSpotOf holes) (sym (is_last i (omega (arith, k, more, length_push b s)))) is
      ];
      here = λ i h k. elim (cases_lt i (length b)) [
        | inl less ↦ ap (λ (t : Spot). cell t.hole.from) (same_before i less) ∙ was.here i h less
        | inr more ↦ ap (λ (t : Spot). cell t.hole.from) (is_last i (omega (arith, k, more, length_push b s))) ∙ at
      ];
    }

abbrev none : ℕ
none = 0

abbrev zeros : List ℕ
zeros = none ∷ []

pub spotted_none : (cell : GridPoint → ℕ) (holes : List Drilled) → AreSpotted cell holes 0 (0 ∷ []) []
spotted_none cell holes = record {
  size = refl;
  last = refl;
  rises = λ i j h k. (let e : i ≡ j = omega (arith, h, k) in let f = ap (λ (n : ℕ). get_or zeros n none) e in omega (arith, f));
  begun = λ i h. absurd (omega (arith, h));
  ended = λ i h. absurd (omega (arith, h));
  each = λ i h. absurd (omega (arith, h));
  all = λ k h l. absurd (omega (arith, l));
}

module _ (cell : GridPoint → ℕ) (holes : List Drilled) (c : ℕ) (starts : List ℕ) (a b : List Spot) (was : AreSpotted cell holes c starts a) (adds : AddsSpots cell holes c a b) where
  abbrev more : List ℕ
  more = starts ++ length b ∷ []

  start_before : (i : ℕ) → i < c + 1 → get_or more i 0 ≡ get_or starts i 0
  start_before i h = get_or_append_left starts (length b ∷ []) 0 i (omega (arith, h, was.size))

  start_last : (i : ℕ) → c + 1 ≤ i → i < length more → get_or more i 0 ≡ length b
  start_last i h k = get_or_push starts (length b) 0 i (omega (arith, h, k, was.size, length_push starts (length b)))

  -- the cell of a spot that was there before
  early : (i : ℕ) → i < length a → cell (point_at a i) < c
  early i h = elim (cases_lt (cell (point_at a i) + 1) (length starts)) [
    | inl less ↦ omega (arith, less, was.size)
    | inr past ↦ absurd (let o = was.ended i h in let e = get_or_past starts (cell (point_at a i) + 1) 0 past in omega (arith, o, e))
  ]

  rises_more : (i j : ℕ) → i ≤ j → j < length more → get_or more i 0 ≤ get_or more j 0
  rises_more i j h k = elim (cases_lt j (c + 1)) [
    | inl less ↦ (let o = was.rises i j h (omega (arith, less, was.size)) in let e = start_before i (omega (arith, h, less)) in let f = start_before j less in omega (arith, o, e, f))
    | inr past ↦ elim (cases_lt i (c + 1)) [
      | inl less ↦ (let o = was.rises i c (omega (arith, less)) (omega (arith, was.size)) in let e = start_before i less in let f = start_last j past k in omega (arith, o, e, f, was.last, adds.longer))
      | inr later ↦ (let e = start_last i later (omega (arith, h, k)) in let f = start_last j past k in omega (arith, e, f))
    ]
  ]

  cell_kept : (i : ℕ) → i < length a → cell (point_at b i) ≡ cell (point_at a i)
  cell_kept i h = ap (λ (s : Spot). cell s.hole.from) (adds.kept i h)

  begun_more : (i : ℕ) → i < length b → get_or more (cell (point_at b i)) 0 ≤ i
  begun_more i h = elim (cases_lt i (length a)) [
    | inl less ↦
        let f : get_or more (cell (point_at b i)) 0 ≡ get_or starts (cell (point_at a i)) 0 = ap (λ (n : ℕ). get_or more n 0) (cell_kept i less) ∙ start_before (cell (point_at a i)) (let l = early i less in omega (arith, l)) in
        let o = was.begun i less in
        omega (arith, f, o)
    | inr past ↦
        let f : get_or more (cell (point_at b i)) 0 ≡ get_or starts c 0 = ap (λ (n : ℕ). get_or more n 0) (adds.here i past h) ∙ start_before c (omega arith) in
        omega (arith, f, was.last, past)
  ]

  ended_more : (i : ℕ) → i < length b → i < get_or more (cell (point_at b i) + 1) 0
  ended_more i h = elim (cases_lt i (length a)) [
    | inl less ↦
        let f : get_or more (cell (point_at b i) + 1) 0 ≡ get_or starts (cell (point_at a i) + 1) 0 = ap (λ (n : ℕ). get_or more (n + 1) 0) (cell_kept i less) ∙ start_before (cell (point_at a i) + 1) (let l = early i less in omega (arith, l)) in
        let o = was.ended i less in
        omega (arith, f, o)
    | inr past ↦
        let f : get_or more (cell (point_at b i) + 1) 0 ≡ length b = ap (λ (n : ℕ). get_or more (n + 1) 0) (adds.here i past h) ∙ start_last (c + 1) (omega arith) (omega (arith, was.size, length_push starts (length b))) in
        omega (arith, f, h)
  ]

  -- one more cell
  pub spotted_more : ((k : ℕ) → k < length holes → cell (entry_at holes k) ≡ c → HasSpot b k) → AreSpotted cell holes (c + 1) (starts ++ length b ∷ []) b
  spotted_more all = record {
    size = omega (arith, was.size, length_push starts (length b));
    last = start_last (c + 1) (omega arith) (omega (arith, was.size, length_push starts (length b)));
    rises = rises_more;
    begun = begun_more;
    ended = ended_more;
    each = λ i h. elim (cases_lt i (length a)) [
      | inl less ↦ subst (IsSpotOf holes) (sym (adds.kept i less)) (was.each i less)
      | inr past ↦ adds.each i past h
    ];
    all = λ k h l. elim (cases_lt (cell (entry_at holes k)) c) [
      | inl less ↦ has_spot_still a b adds.longer adds.kept k (was.all k h less)
      | inr past ↦ all k h (omega (arith, l, past))
    ];
  }

module _ (x y : Axis) (holes : List Drilled) (count : ℕ) (starts : List ℕ) (spots : List Spot) (are : AreSpotted (cell_of x y) holes count starts spots) where
  pub in_cells : count ≡ (y.last + 1) * (x.last + 1) → (y.last + 1) * (x.last + 1) ≤ 2 ^ 62 → AreInCells x y starts spots
  in_cells is fits = record {
    size = are.size ∙ ap (λ (n : ℕ). n + 1) is;
    rises = are.rises;
    within = λ c. elim (cases_lt c (length starts)) [
      | inl inside ↦ (let o = are.rises c count (omega (arith, inside, are.size)) (omega (arith, are.size)) in omega (arith, o, are.last))
      | inr past ↦ (let e = get_or_past starts c 0 past in omega (arith, e))
    ];
    begun = are.begun;
    ended = are.ended;
    fits = fits;
  }

  pub spots_of : ((k : ℕ) → k < length holes → cell_of x y (entry_at holes k) < count) → AreSpotsOf holes spots
  spots_of inside = record { each = are.each; all = λ k h. are.all k h (inside k h) }

pub in_last_row : (row last width right : ℕ) → row ≤ last → right ≤ width → row * width + right < (last + 1) * width + 1
in_last_row row last width right h k = let m = mul-le row width last width h (omega arith) in omega (arith, m, k)

-- a column of a row of some cells, or the one after the last column
pub in_cells_of : (x y : Axis) (row column count : ℕ) → row ≤ y.last → column ≤ x.last + 1 → count ≡ (y.last + 1) * (x.last + 1) + 1 → row * (x.last + 1) + column < count
in_cells_of x y row column count low within is = let l = in_last_row row y.last (x.last + 1) column low within in omega (arith, l, is)

-- the spots of some columns of a row follow each other
module _ (x y : Axis) (starts : List ℕ) (spots : List Spot) (cells : AreInCells x y starts spots) (row left right : ℕ) (low : row ≤ y.last) (within : right ≤ x.last + 1) (i : ℕ) (h : i < length spots) (inside : IsInRegion x y row (row + 1) left right (point_at spots i)) where
  at_row : row_of y (point_at spots i) ≡ row
  at_row = omega (arith, inside.row_from, inside.row_below)

  at_cell : cell_of x y (point_at spots i) ≡ row * (x.last + 1) + column_of x (point_at spots i)
  at_cell = ap (λ (r : ℕ). r * (x.last + 1) + column_of x (point_at spots i)) at_row

  there : cell_of x y (point_at spots i) < length starts
  there = elim (cases_lt (cell_of x y (point_at spots i) + 1) (length starts)) [
    | inl less ↦ omega (arith, less)
    | inr past ↦ absurd (let o = cells.ended i h in let e = get_or_past starts (cell_of x y (point_at spots i) + 1) 0 past in omega (arith, o, e))
  ]

  pub run_begins : get_or starts (row * (x.last + 1) + left) 0 ≤ i
  run_begins =
      let o = cells.rises (row * (x.last + 1) + left) (cell_of x y (point_at spots i)) (omega (arith, at_cell, inside.column_from)) there in
      let b = cells.begun i h in
      omega (arith, o, b)

  pub run_ends : i < get_or starts (row * (x.last + 1) + right) 0
  run_ends =
      let o = cells.rises (cell_of x y (point_at spots i) + 1) (row * (x.last + 1) + right) (omega (arith, at_cell, inside.column_below)) (let l = in_last_row row y.last (x.last + 1) right low within in omega (arith, l, cells.size)) in
      let e = cells.ended i h in
      omega (arith, o, e)
