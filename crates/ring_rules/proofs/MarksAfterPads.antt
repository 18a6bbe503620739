-- The marks that are left after all pads.
use Rattle.ring_rules.proofs.Common.{◌≡◌, ℕ, ◌+◌, ◌<◌, inl, inr, Bool, true, false, List, [], ◌∷◌, ◌++◌, length, get_or, set, take, take_more, map, refl, sym, ap, subst, ◌∙◌, arith, ◌&&◌, ◌||◌, not, list_any, cases_eq, cases_lt, get_or_default, get_or-map, length-map, same_lists, get_or-set_same, get_or-set_other, get_or_append_left, get_or_push, GridPoint, GridHole, Profile, is_in_span, is_ring_finding, default_hole, spot_at, AreSpotsOf, drilled_at, is_marked, gives_ring, Drilled, Spot}
use Rattle.std.proofs.lemmas.List.Folds.{list_any-append}
use Rattle.ring_rules.proofs.GivesRingLemmas.{given_by_none}

and_true : (b : Bool) → (b && true) ≡ b
and_true true = refl
and_true false = refl

and_nor : (n a b : Bool) → ((n && not a) && not b) ≡ (n && not (a || b))
and_nor true true b = refl
and_nor true false b = refl
and_nor false a b = refl

or_false : (b : Bool) → (b || false) ≡ b
or_false true = refl
or_false false = refl

kept_unless : (now was t : Bool) → (now ≡ true → was ≡ true) → (was ≡ true → now ≡ false → t ≡ true) → (now ≡ true → t ≡ false) → now ≡ (was && not t)
kept_unless true true true kept passed tried = absurd (let e : true ≡ false = tried refl in cc)
kept_unless true true false kept passed tried = refl
kept_unless true false t kept passed tried = absurd (let e : false ≡ true = kept refl in cc)
kept_unless false true true kept passed tried = refl
kept_unless false true false kept passed tried = absurd (let e : false ≡ true = passed refl refl in cc)
kept_unless false false t kept passed tried = refl

-- a mark after one pad more
module _ {S : Type 0} (gives : S → Bool) (pads : List S) (n : ℕ) (pad : S) (h : n < length pads) (is : pad ≡ get_or pads n pad) where
  any_more : list_any gives (take (n + 1) pads) ≡ (list_any gives (take n pads) || gives pad)
  any_more =
      ap (list_any gives) (take_more pads n pad h) ∙ (list_any-append gives (take n pads) (get_or pads n pad ∷ [])
      ∙ (ap (λ (q : S). list_any gives (take n pads) || (gives q || false)) (sym is) ∙ ap (λ (b : Bool). list_any gives (take n pads) || b) (or_false (gives pad))))

  pub marked_by_more : (first was now : Bool) → was ≡ (first && not (list_any gives (take n pads))) → (now ≡ true → was ≡ true) → (was ≡ true → now ≡ false → gives pad ≡ true) → (now ≡ true → gives pad ≡ false)
      → now ≡ (first && not (list_any gives (take (n + 1) pads)))
  marked_by_more first was now before kept passed tried =
      kept_unless now was (gives pad) kept passed tried ∙ (ap (λ (b : Bool). b && not (gives pad)) before
      ∙ (and_nor first (list_any gives (take n pads)) (gives pad) ∙ ap (λ (b : Bool). first && not b) (sym any_more)))

module _ {S : Type 0} (covers : S → GridPoint → ℕ → Bool) (profile : Profile) (ring layer : ℕ) where
  -- a hole lacks its ring among more pads if it lacked it, and none of the others gives it
  lacks_among_more : (d : Drilled) (pads more : List S) → (is_ring_finding covers profile ring layer pads d && not (list_any (gives_ring covers profile ring d.hole) more)) ≡ is_ring_finding covers profile ring layer (pads ++ more) d
  lacks_among_more d pads more =
      ap (λ (b : Bool). ((d.plated && is_in_span layer d.span) && b) && not (list_any (gives_ring covers profile ring d.hole) more)) (sym (given_by_none covers profile ring d.hole pads))
      ∙ (and_nor (d.plated && is_in_span layer d.span) (list_any (gives_ring covers profile ring d.hole) pads) (list_any (gives_ring covers profile ring d.hole) more)
      ∙ (ap (λ (b : Bool). (d.plated && is_in_span layer d.span) && not b) (sym (list_any-append (gives_ring covers profile ring d.hole) pads more))
      ∙ ap (λ (b : Bool). (d.plated && is_in_span layer d.span) && b) (given_by_none covers profile ring d.hole (pads ++ more))))

  module _ (holes : List Drilled) (spots : List Spot) (listed : AreSpotsOf holes spots) where
    -- the marks after more pads
    pub marked_more : (before after : List Bool) (pads more : List S) → ((i : ℕ) → i < length spots → is_marked before i ≡ is_ring_finding covers profile ring layer pads (drilled_at holes (spot_at spots i).place))
        → ((i : ℕ) → i < length spots → is_marked after i ≡ (is_marked before i && not (list_any (gives_ring covers profile ring (spot_at spots i).hole) more)))
        → (i : ℕ) → i < length spots → is_marked after i ≡ is_ring_finding covers profile ring layer (pads ++ more) (drilled_at holes (spot_at spots i).place)
    marked_more before after pads more was now i h =
        now i h ∙ (ap (λ (m : Bool). m && not (list_any (gives_ring covers profile ring (spot_at spots i).hole) more)) (was i h)
        ∙ (ap (λ (g : GridHole). is_ring_finding covers profile ring layer pads (drilled_at holes (spot_at spots i).place) && not (list_any (gives_ring covers profile ring g) more)) (listed.each i h).same
        ∙ lacks_among_more (drilled_at holes (spot_at spots i).place) pads more))

-- each hole has a spot
pub marked_places : (test : Drilled → Bool) (holes : List Drilled) (spots : List Spot) → AreSpotsOf holes spots → (lacking : List Bool) → length lacking ≡ length holes
    → ((i : ℕ) → i < length spots → is_marked lacking (spot_at spots i).place ≡ test (drilled_at holes (spot_at spots i).place)) → lacking ≡ map test holes
marked_places test holes spots listed lacking size put =
    same_lists lacking (map test holes) (size ∙ sym (length-map holes test)) (λ k d h.
    let inside : k < length holes = omega (arith, h, size) in
    let has = listed.all k inside in
    get_or_default lacking k d false h ∙ (subst (λ (n : ℕ). is_marked lacking n ≡ test (drilled_at holes n)) has.2 (put has.0 has.1) ∙ sym (get_or-map test holes k default_hole d inside)))

-- one spot more that puts its mark at its place
pub put_more : (spots : List Spot) (own marks : List Bool) (n place : ℕ) → place ≡ (spot_at spots n).place → place < length marks → (test : ℕ → Bool) → is_marked own n ≡ test (spot_at spots n).place
    → ((i : ℕ) → i < n → is_marked marks (spot_at spots i).place ≡ test (spot_at spots i).place)
    → (i : ℕ) → i < n + 1 → is_marked (set marks place (get_or own n false)) (spot_at spots i).place ≡ test (spot_at spots i).place
put_more spots own marks n place is inside test stands done i below = elim (cases_eq (spot_at spots i).place place) [
  | inl same ↦ ap (is_marked (set marks place (get_or own n false))) same ∙ (get_or-set_same marks place (get_or own n false) false inside ∙ (stands ∙ ap test (sym (same ∙ is))))
  | inr differs ↦ elim (cases_lt i n) [
    | inl less ↦ get_or-set_other marks place (spot_at spots i).place (get_or own n false) false differs ∙ done i less
    | inr more ↦ absurd (differs (ap (λ (m : ℕ). (spot_at spots m).place) (let e : i ≡ n = omega (arith, below, more) in e) ∙ sym is))
  ]
]

-- one spot more that takes the mark of its place
pub own_more : (spots : List Spot) (marks own : List Bool) (n place : ℕ) → place ≡ (spot_at spots n).place → length own ≡ n → ((i : ℕ) → i < n → is_marked own i ≡ is_marked marks (spot_at spots i).place)
    → (i : ℕ) → i < n + 1 → is_marked (own ++ get_or marks place false ∷ []) i ≡ is_marked marks (spot_at spots i).place
own_more spots marks own n place is size same i below = elim (cases_lt i n) [
  | inl less ↦ get_or_append_left own (get_or marks place false ∷ []) false i (omega (arith, less, size)) ∙ same i less
  | inr more ↦
      let e : i ≡ n = omega (arith, below, more) in
      get_or_push own (get_or marks place false) false i (omega (arith, e, size)) ∙ (ap (is_marked marks) is ∙ ap (λ (m : ℕ). is_marked marks (spot_at spots m).place) (sym e))
]
