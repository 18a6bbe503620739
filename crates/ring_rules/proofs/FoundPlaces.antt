-- Indices of spots that are appended for a zone, and the places that they stand for.
use Rattle.ring_rules.proofs.Common.{◌≡◌, ℕ, ◌+◌, ◌<◌, ◌≤◌, inl, inr, List, [], ◌∷◌, ◌++◌, length, get_or, set, sym, ap, subst, ◌∙◌, arith, All, Contains, cases_lt, cases_eq, get_or_default, get_or-set_same, get_or-set_other, Contains-append_left, All-from_get_or, All-get_or, GridHole, IsInZone, entry_at, spot_at, point_at, AreSpotsOf, row_of, IsInRegion, IsSpotInZone, AddsFound, ListsFound, Drilled, Spot, Axis}
use Rattle.pad_shapes.specs.declared.zone.Zone.{Zone}
use Rattle.ring_rules.specs.Index.{IsEntryInZone}
use Rattle.ring_rules.proofs.AddedClashes.{contains_last}
use Rattle.ring_rules.proofs.SpotLemmas.{hole_of}

module _ (spots : List Spot) (zone : Zone) where
  pub found_both : (a b c : List ℕ) → AddsFound spots zone a b → AddsFound spots zone b c → AddsFound spots zone a c
  found_both a b c first second = record { kept = λ i h. second.kept i (first.kept i h); sound = λ i h. elim (second.sound i h) [ inl early ↦ first.sound i early | inr new ↦ inr new ] }

  pub found_one : (a : List ℕ) (q : ℕ) → IsSpotInZone spots zone q → AddsFound spots zone a (a ++ q ∷ [])
  found_one a q goes = record {
    kept = λ i h. Contains-append_left a (q ∷ []) i h;
    sound = λ i h. elim (contains_last a q i h) [ inl early ↦ inl early | inr same ↦ inr (subst (IsSpotInZone spots zone) same goes) ];
  }

  pub listed_still : (i : ℕ) (a b : List ℕ) → AddsFound spots zone a b → ListsFound spots zone i a → ListsFound spots zone i b
  listed_still i a b adds was = record { there = λ within. adds.kept i (was.there within) }

  module _ (a b : List ℕ) (adds : AddsFound spots zone a b) where
    -- one spot more
    pub listed_more : (start n : ℕ) → ((i : ℕ) → start ≤ i → i < n → ListsFound spots zone i a) → ListsFound spots zone n b → (i : ℕ) → start ≤ i → i < n + 1 → ListsFound spots zone i b
    listed_more start n was new i from below = elim (cases_lt i n) [
      | inl less ↦ listed_still i a b adds (was i from less)
      | inr more ↦ subst (λ (j : ℕ). ListsFound spots zone j b) (let is : n ≡ i = omega (arith, below, more) in is) new
    ]

    -- one row more
    pub listed_row : (x y : Axis) (top row left right : ℕ) → ((i : ℕ) → i < length spots → IsInRegion x y top row left right (point_at spots i) → ListsFound spots zone i a)
        → ((i : ℕ) → i < length spots → IsInRegion x y row (row + 1) left right (point_at spots i) → ListsFound spots zone i b)
        → (i : ℕ) → i < length spots → IsInRegion x y top (row + 1) left right (point_at spots i) → ListsFound spots zone i b
    listed_row x y top row left right was here i h inside = elim (cases_lt (row_of y (point_at spots i)) row) [
      | inl less ↦ listed_still i a b adds (was i h (record { row_from = inside.row_from; row_below = less; column_from = inside.column_from; column_below = inside.column_below }))
      | inr more ↦ here i h (record { row_from = more; row_below = inside.row_below; column_from = inside.column_from; column_below = inside.column_below })
    ]

  -- where the list was empty before, each index is of a spot with its entry point in the zone
  pub all_found : (b : List ℕ) → AddsFound spots zone [] b → All (IsSpotInZone spots zone) b
  all_found b adds =
      All-from_get_or (IsSpotInZone spots zone) b 0 (λ i h. elim (adds.sound (get_or b i 0) (i, h, get_or_default b i (get_or b i 0) 0 h)) [
        | inl none ↦ absurd (let l = none.1 in omega (arith, l))
        | inr goes ↦ goes
      ])

  -- what is found, once each index is replaced by its place
  module _ (holes : List Drilled) (listed : AreSpotsOf holes spots) (found places : List ℕ) (size : length places ≡ length found) (named : (n : ℕ) → n < length found → get_or places n 0 ≡ (spot_at spots (get_or found n 0)).place) where
    pub all_named : ((i : ℕ) → i < length spots → IsInZone zone (point_at spots i) → Contains found i) → (k : ℕ) → k < length holes → IsInZone zone (entry_at holes k) → Contains places k
    all_named all k h within =
        let has = listed.all k h in
        let inside : has.0 < length spots = has.1 in
        let among = all has.0 has.1 (subst (λ (g : GridHole). IsInZone zone g.from) (sym (hole_of holes spots listed has.0 k has.1 has.2)) within) in
        let early : among.0 < length found = among.1 in
        let at : among.0 < length places = omega (arith, early, size) in
        let is : get_or found among.0 0 ≡ has.0 = get_or_default found among.0 0 has.0 early ∙ among.2 in
        (among.0, at, get_or_default places among.0 k 0 at ∙ (named among.0 early ∙ (ap (λ (i : ℕ). (spot_at spots i).place) is ∙ has.2)))

    pub all_within : All (IsSpotInZone spots zone) found → All (IsEntryInZone holes zone) places
    all_within each =
        All-from_get_or (IsEntryInZone holes zone) places 0 (λ n h.
        let early : n < length found = omega (arith, h, size) in
        let goes = All-get_or (IsSpotInZone spots zone) found n 0 early each in
        let of_list = listed.each (get_or found n 0) goes.inside in
        subst (IsEntryInZone holes zone) (sym (named n early)) (record { listed = of_list.listed; within = subst (λ (g : GridHole). IsInZone zone g.from) of_list.same goes.within }))

-- one index more that is replaced by its place
module _ (spots : List Spot) (initial found : List ℕ) (n place : ℕ) (is : place ≡ (spot_at spots (get_or found n 0)).place) (inside : n < length found) (rest : (m : ℕ) → n ≤ m → get_or found m 0 ≡ get_or initial m 0) where
  place_is : place ≡ (spot_at spots (get_or initial n 0)).place
  place_is = is ∙ ap (λ (i : ℕ). (spot_at spots i).place) (rest n (omega arith))

  pub named_more : ((m : ℕ) → m < n → get_or found m 0 ≡ (spot_at spots (get_or initial m 0)).place) → (m : ℕ) → m < n + 1 → get_or (set found n place) m 0 ≡ (spot_at spots (get_or initial m 0)).place
  named_more named m h = elim (cases_eq m n) [
    | inl same ↦ ap (λ (k : ℕ). get_or (set found n place) k 0) same ∙ (get_or-set_same found n place 0 inside ∙ (place_is ∙ ap (λ (k : ℕ). (spot_at spots (get_or initial k 0)).place) (sym same)))
    | inr differs ↦ get_or-set_other found n m place 0 differs ∙ named m (omega (arith, h, differs))
  ]

  pub rest_less : (m : ℕ) → n + 1 ≤ m → get_or (set found n place) m 0 ≡ get_or initial m 0
  rest_less m h = get_or-set_other found n m place 0 (λ same. omega (arith, same, h)) ∙ rest m (omega (arith, h))
