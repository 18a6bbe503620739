-- Spots that are put in another order: none comes or goes.
use Rattle.ring_rules.proofs.Common.{◌≡◌, ℕ, ◌+◌, ◌-◌, ◌<◌, ◌≤◌, inl, inr, List, length, get_or, map, take, drop, sym, ap, subst, ◌∙◌, arith, All, Contains, IsPermutation, cases_lt, get_or-map, get_or-drop, get_or-take, length-drop, length-map, drop-map, get_or_default, All-get_or, All-from_get_or, Contains-get_or, All-permutation, Contains-permutation, IsPermutation-map, IsPermutation-put_mid, length_permutation, GridPoint, GridHole, default_spot, spot_at, IsSpotOf, HasSpot, AddsSpots, Regroups, spot_of, HasForm, default_entry, HaveForms, Drilled, Spot, Entry}
use borrow.Rule.Slice.PartMut.{put_mid, mid_of}
use Rattle.std.proofs.lemmas.Slice.{take-put_mid_below, between-put_mid, between_to_end}

-- an element by its place from the start of the rest
at_rest : {X : Type 0} (n : ℕ) (xs : List X) (i : ℕ) (d : X) → n ≤ i → get_or (drop n xs) (i - n) d ≡ get_or xs i d
at_rest n xs i d h = (let is : n + (i - n) ≡ i = omega (arith, h) in get_or-drop n xs (i - n) d ∙ ap (λ (k : ℕ). get_or xs k d) is)

module _ (start : ℕ) (b d : List Spot) (puts : Regroups start b d) where
  -- what holds of each spot from the start on
  still_each : (P : Spot → Type 0) → ((i : ℕ) → start ≤ i → i < length b → P (spot_at b i)) → (i : ℕ) → start ≤ i → i < length d → P (spot_at d i)
  still_each P each i h k =
      let all : All P (drop start b) = All-from_get_or P (drop start b) default_spot (λ n inside.
      subst P (sym (get_or-drop start b n default_spot)) (each (start + n) (omega arith) (omega (arith, inside, length-drop start b)))) in
      subst P (at_rest start d i default_spot h)
      (All-get_or P (drop start d) (i - start) default_spot (omega (arith, h, k, length-drop start d)) (All-permutation P (drop start b) (drop start d) puts.same all))

  found_in_rest : (k : ℕ) (s : Spot) → s.place ≡ k → Contains (drop start d) s → HasSpot d k
  found_in_rest k s is at =
      let inside = at.1 in
      let same : spot_at d (start + at.0) ≡ s = sym (get_or-drop start d at.0 default_spot) ∙ (get_or_default (drop start d) at.0 default_spot s at.1 ∙ at.2) in
      (start + at.0, omega (arith, inside, length-drop start d), ap (λ (t : Spot). t.place) same ∙ is)

  pub has_spot_regrouped : (k : ℕ) → HasSpot b k → HasSpot d k
  has_spot_regrouped k has = elim (cases_lt has.0 start) [
    | inl less ↦ (let inside = has.1 in (has.0, omega (arith, inside, puts.size), ap (λ (t : Spot). t.place) (puts.kept has.0 less) ∙ has.2))
    | inr past ↦ (let inside = has.1 in
        found_in_rest k (spot_at b has.0) has.2 (Contains-permutation (drop start b) (drop start d) (spot_at b has.0) puts.same
        (subst (Contains (drop start b)) (at_rest start b has.0 default_spot past) (Contains-get_or (drop start b) (has.0 - start) default_spot (omega (arith, past, inside, length-drop start b))))))
  ]

-- the spots of a cell in another order
pub adds_regrouped : (cell : GridPoint → ℕ) (holes : List Drilled) (c : ℕ) (a b d : List Spot) → AddsSpots cell holes c a b → Regroups (length a) b d → AddsSpots cell holes c a d
adds_regrouped cell holes c a b d adds puts = record {
  longer = omega (arith, adds.longer, puts.size);
  kept = λ i h. puts.kept i h ∙ adds.kept i h;
  each = still_each (length a) b d puts (IsSpotOf holes) adds.each;
  here = still_each (length a) b d puts (λ (s : Spot). cell s.hole.from ≡ c) adds.here;
}

-- the part of a list from an index on, in another order
module _ {X : Type 0} (a k : ℕ) (xs ys : List X) (at : a ≤ length xs) (whole : a + k ≡ length xs) (same : IsPermutation (mid_of a k xs) ys) where
  moves : IsPermutation xs (put_mid a k xs ys)
  moves = IsPermutation-put_mid a k xs ys same

  as_long : length (put_mid a k xs ys) ≡ length xs
  as_long = length_permutation xs (put_mid a k xs ys) moves

  rest_is : mid_of a k xs ≡ drop a xs
  rest_is = (let is : k ≡ a + k - a = omega arith in ap (λ (n : ℕ). take n (drop a xs)) is ∙ between_to_end xs a (a + k) (omega (arith, whole)))

  rest_long : length ys ≡ k
  rest_long = (let e = length_permutation (mid_of a k xs) ys same in let f = ap (λ (zs : List X). length zs) rest_is in omega (arith, e, f, length-drop a xs, whole))

  rest_now : drop a (put_mid a k xs ys) ≡ ys
  rest_now = sym (between_to_end (put_mid a k xs ys) a (length xs) (omega (arith, as_long))) ∙ between-put_mid a k xs ys (length xs) at (omega (arith, rest_long, whole))

  rest_moves : IsPermutation (drop a xs) (drop a (put_mid a k xs ys))
  rest_moves = subst (λ (zs : List X). IsPermutation zs (drop a (put_mid a k xs ys))) rest_is (subst (IsPermutation (mid_of a k xs)) (sym rest_now) same)

  kept_before : (i : ℕ) (d : X) → i < a → get_or (put_mid a k xs ys) i d ≡ get_or xs i d
  kept_before i d h = sym (get_or-take a (put_mid a k xs ys) i d h) ∙ (ap (λ (zs : List X). get_or zs i d) (take-put_mid_below a k xs ys a (omega arith) at) ∙ get_or-take a xs i d h)

-- so are the spots that the entries stand for
module _ (forms : List GridHole) (a k : ℕ) (xs ys : List Entry) (at : a ≤ length xs) (whole : a + k ≡ length xs) (same : IsPermutation (mid_of a k xs) ys) where
  abbrev now : List Entry
  now = put_mid a k xs ys

  pub still_have_forms : HaveForms forms xs → HaveForms forms now
  still_have_forms have i h =
      All-get_or (HasForm forms) now i default_entry h (All-permutation (HasForm forms) xs now (moves a k xs ys at whole same) (All-from_get_or (HasForm forms) xs default_entry have))

  spot_now : (i : ℕ) → i < length now → spot_at (map (spot_of forms) now) i ≡ spot_of forms (get_or now i default_entry)
  spot_now i h = get_or-map (spot_of forms) now i default_entry default_spot h

  pub size : length now ≡ length xs
  size = as_long a k xs ys at whole same

  pub spots_regrouped : Regroups a (map (spot_of forms) xs) (map (spot_of forms) now)
  spots_regrouped = record {
    size = length-map now (spot_of forms) ∙ (size ∙ sym (length-map xs (spot_of forms)));
    kept = λ i h.
        spot_now i (omega (arith, h, at, size)) ∙ (ap (spot_of forms) (kept_before a k xs ys at whole same i default_entry h)
        ∙ sym (get_or-map (spot_of forms) xs i default_entry default_spot (omega (arith, h, at))));
    same = subst (λ (zs : List Spot). IsPermutation zs (drop a (map (spot_of forms) now))) (sym (drop-map (spot_of forms) a xs))
        (subst (IsPermutation (map (spot_of forms) (drop a xs))) (sym (drop-map (spot_of forms) a now))
        (IsPermutation-map (spot_of forms) (drop a xs) (drop a now) (rest_moves a k xs ys at whole same)));
  }
