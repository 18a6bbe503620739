-- What is met, pair by pair.
use Rattle.board.proofs.Common.{◌≡◌, ℕ, ℤ, pos, ◌+◌, ◌<◌, ◌-ℤ◌, ◌≤ℤ◌, ◌⊎◌, inl, inr, Bool, true, false, Option, Some, None, List, [], length, get_or, refl, sym, subst, ap, ◌∙◌, arith, if◌then◌else◌, int_min, ints, clamps, cases_lt, get_or_default, GridPoint, GridHole, Profile, either, is_refused_slot, default_hole, hole_at, Drilled, HasLeast, IsLeast, LacksAll, HasLeastInPads, IsLeastInPads, AreLeast, NeedsRing, HasRing, IsRingOf, needs_ring, ring_from_best, with_length_in_pads, NeedsRingOn, NeedsRingBefore, with_length, IsBestPad, AreBestPads, BestPad}
use Rattle.board.specs.declared.met.Met.{Met}
use Rattle.board.specs.declared.met.RingsMet.{RingsMet}
use Rattle.board.specs.declared.met.Met.TheVariants as mets
use Rattle.ring_rules.proofs.CoreLemmas.{by_order}

-- one pair more
abbrev pub Or : (ℕ → ℕ → Type 0) → ℕ → ℕ → ℕ → ℕ → Type 0
Or required a b i j = required i j ⊎ ((i ≡ a) × (j ≡ b))

module _ (required : ℕ → ℕ → Type 0) (has : ℕ → ℕ → Option ℤ → Type 0) (a b : ℕ) where
  -- what the new pair has
  at_pair : (i j : ℕ) (r : Option ℤ) → i ≡ a → j ≡ b → has a b r → has i j r
  at_pair i j r x y h = subst (λ (n : ℕ). has n j r) (sym x) (subst (λ (n : ℕ). has a n r) (sym y) h)

  old_least : (m r : ℤ) → HasLeast required has m → has a b (Some r) → m ≤ℤ r → HasLeast (Or required a b) has m
  old_least m r so h le = record {
    i = so.i;
    j = so.j;
    there = inl so.there;
    reached = so.reached;
    least = λ k l choice. elim choice [ inl before ↦ so.least k l before | inr new ↦ (r, at_pair k l (Some r) new.0 new.1 h, le) ];
  }

  new_least : (r : ℤ) → ((k l : ℕ) → required k l → (other : ℤ) × has k l (Some other) × (r ≤ℤ other)) → has a b (Some r) → HasLeast (Or required a b) has r
  new_least r so h = record {
    i = a;
    j = b;
    there = inr (refl, refl);
    reached = h;
    least = λ k l choice. elim choice [ inl before ↦ so k l before | inr new ↦ (r, at_pair k l (Some r) new.0 new.1 h, omega (arith, ints)) ];
  }

  lesser_least : (m r : ℤ) → HasLeast required has m → has a b (Some r) → HasLeast (Or required a b) has (int_min m r)
  lesser_least m r so h = by_order m r (λ le. subst (HasLeast (Or required a b) has) (let e : m ≡ int_min m r = omega (arith, ints, clamps, le) in e) (old_least m r so h le))
      (λ ge. subst (HasLeast (Or required a b) has) (let e : r ≡ int_min m r = omega (arith, ints, clamps, ge) in e)
      (new_least r (λ k l before. let w = so.least k l before in (w.0, w.1, (let q : m ≤ℤ w.0 = w.2 in omega (arith, ints, ge, q)))) h))

  held_still : (m : ℤ) → HasLeastInPads required has m → has a b None → HasLeastInPads (Or required a b) has m
  held_still m so h = record {
    i = so.i;
    j = so.j;
    there = inl so.there;
    reached = so.reached;
    least = λ k l choice. elim choice [ inl before ↦ so.least k l before | inr new ↦ inl (at_pair k l None new.0 new.1 h) ];
  }

  held_old : (m r : ℤ) → HasLeastInPads required has m → has a b (Some r) → m ≤ℤ r → HasLeastInPads (Or required a b) has m
  held_old m r so h le = record {
    i = so.i;
    j = so.j;
    there = inl so.there;
    reached = so.reached;
    least = λ k l choice. elim choice [ inl before ↦ so.least k l before | inr new ↦ inr (r, at_pair k l (Some r) new.0 new.1 h, le) ];
  }

  held_new : (r : ℤ) → ((k l : ℕ) → required k l → has k l None ⊎ ((other : ℤ) × has k l (Some other) × (r ≤ℤ other))) → has a b (Some r) → HasLeastInPads (Or required a b) has r
  held_new r so h = record {
    i = a;
    j = b;
    there = inr (refl, refl);
    reached = h;
    least = λ k l choice. elim choice [ inl before ↦ so k l before | inr new ↦ inr (r, at_pair k l (Some r) new.0 new.1 h, omega (arith, ints)) ];
  }

  held_lesser : (m r : ℤ) → HasLeastInPads required has m → has a b (Some r) → HasLeastInPads (Or required a b) has (int_min m r)
  held_lesser m r so h = by_order m r (λ le. subst (HasLeastInPads (Or required a b) has) (let e : m ≡ int_min m r = omega (arith, ints, clamps, le) in e) (held_old m r so h le))
      (λ ge. subst (HasLeastInPads (Or required a b) has) (let e : r ≡ int_min m r = omega (arith, ints, clamps, ge) in e) (held_new r (λ k l before. elim (so.least k l before) [
        | inl none ↦ inl none
        | inr w ↦ inr (w.0, w.1, (let q : m ≤ℤ w.0 = w.2 in omega (arith, ints, ge, q)))
      ]) h))

  all_lack : ((k l : ℕ) → required k l → has k l None) → has a b None → LacksAll (Or required a b) has
  all_lack so h = record { i = a; j = b; there = inr (refl, refl); nothing = λ k l choice. elim choice [ inl before ↦ so k l before | inr new ↦ at_pair k l None new.0 new.1 h ] }

  one_more_in_pads : (met : Met) (r : Option ℤ) → IsLeastInPads required has met → has a b r → IsLeastInPads (Or required a b) has (with_length_in_pads met r)
  one_more_in_pads mets.Any None so h = all_lack (λ k l before. absurd (so k l before)) h
  one_more_in_pads (mets.UpTo m) None so h = held_still m so h
  one_more_in_pads mets.None None so h = all_lack so.nothing h
  one_more_in_pads mets.Any (Some r) so h = held_new r (λ k l before. absurd (so k l before)) h
  one_more_in_pads (mets.UpTo m) (Some r) so h = held_lesser m r so h
  one_more_in_pads mets.None (Some r) so h = held_new r (λ k l before. inl (so.nothing k l before)) h

  one_more : (met : Met) (r : Option ℤ) → IsLeast required has met → has a b r → IsLeast (Or required a b) has (with_length met r)
  one_more met None so h = record { i = a; j = b; there = inr (refl, refl); nothing = h }
  one_more mets.Any (Some r) so h = new_least r (λ k l before. absurd (so k l before)) h
  one_more (mets.UpTo m) (Some r) so h = lesser_least m r so h
  one_more mets.None (Some r) so h = record { i = so.i; j = so.j; there = inl so.there; nothing = so.nothing }

-- two conditions that hold of the same pairs
same_required : (p q : ℕ → ℕ → Type 0) (has : ℕ → ℕ → Option ℤ → Type 0) → ((i j : ℕ) → p i j → q i j) → ((i j : ℕ) → q i j → p i j) → (met : Met) → IsLeast p has met → IsLeast q has met
same_required p q has to from mets.Any so = λ i j h. so i j (from i j h)
same_required p q has to from (mets.UpTo m) so = record { i = so.i; j = so.j; there = to so.i so.j so.there; reached = so.reached; least = λ k l h. so.least k l (from k l h) }
same_required p q has to from mets.None so = record { i = so.i; j = so.j; there = to so.i so.j so.there; nothing = so.nothing }

same_in_pads : (p q : ℕ → ℕ → Type 0) (has : ℕ → ℕ → Option ℤ → Type 0) → ((i j : ℕ) → p i j → q i j) → ((i j : ℕ) → q i j → p i j) → (met : Met) → IsLeastInPads p has met → IsLeastInPads q has met
same_in_pads p q has to from mets.Any so = λ i j h. so i j (from i j h)
same_in_pads p q has to from (mets.UpTo m) so = record { i = so.i; j = so.j; there = to so.i so.j so.there; reached = so.reached; least = λ k l h. so.least k l (from k l h) }
same_in_pads p q has to from mets.None so = record { i = so.i; j = so.j; there = to so.i so.j so.there; nothing = λ k l h. so.nothing k l (from k l h) }

same_both : (p q : ℕ → ℕ → Type 0) (has : ℕ → ℕ → Option ℤ → Type 0) → ((i j : ℕ) → p i j → q i j) → ((i j : ℕ) → q i j → p i j) → (met : RingsMet) → AreLeast p has met → AreLeast q has met
same_both p q has to from met so = record { ring = same_required p q has to from met.ring so.ring; held = same_in_pads p q has to from met.in_pads so.held }

-- one more hole that needs a ring on a layer
pub hole_needs_ring : (required : ℕ → ℕ → Type 0) (has : ℕ → ℕ → Option ℤ → Type 0) (at count : ℕ) (holes : List Drilled) (met next : RingsMet) (r : Option ℤ) → count < length holes → needs_ring at (get_or holes count default_hole) ≡ true
    → has at count r → next.ring ≡ with_length met.ring r → next.in_pads ≡ with_length_in_pads met.in_pads r → AreLeast (λ i j. required i j ⊎ NeedsRingOn at count holes i j) has met → AreLeast (λ i j. required i j ⊎ NeedsRingOn at (count + 1) holes i j) has next
hole_needs_ring required has at count holes met next r inside needs h ring held so =
    same_both (Or (λ i j. required i j ⊎ NeedsRingOn at count holes i j) at count) (λ i j. required i j ⊎ NeedsRingOn at (count + 1) holes i j) has (λ i j choice. elim choice [
      | inl before ↦ elim before [
        | inl earlier ↦ inl earlier
        | inr here ↦ inr (record { here = here.here; below = (let l : j < count = here.below in omega (arith, l)); in_holes = here.in_holes; needs = here.needs })
      ]
      | inr new ↦ inr (record {
        here = new.0;
        below = (let y : j ≡ count = new.1 in omega (arith, y));
        in_holes = (let y : j ≡ count = new.1 in omega (arith, y, inside));
        needs = ap (λ (n : ℕ). needs_ring at (get_or holes n default_hole)) new.1 ∙ needs;
      })
    ]) (λ i j choice. elim choice [
      | inl earlier ↦ inl (inl earlier)
      | inr here ↦ elim (cases_lt j count) [
        | inl less ↦ inl (inr (record { here = here.here; below = less; in_holes = here.in_holes; needs = here.needs }))
        | inr more ↦ inr (here.here, (let l : j < count + 1 = here.below in omega (arith, l, more)))
      ]
    ])
    next (record {
      ring = subst (IsLeast (Or (λ i j. required i j ⊎ NeedsRingOn at count holes i j) at count) has) (sym ring) (one_more (λ i j. required i j ⊎ NeedsRingOn at count holes i j) has at count met.ring r so.ring h);
      held = subst (IsLeastInPads (Or (λ i j. required i j ⊎ NeedsRingOn at count holes i j) at count) has) (sym held) (one_more_in_pads (λ i j. required i j ⊎ NeedsRingOn at count holes i j) has at count met.in_pads r so.held h);
    })

-- one more hole that needs none
pub hole_needs_none : (required : ℕ → ℕ → Type 0) (has : ℕ → ℕ → Option ℤ → Type 0) (at count : ℕ) (holes : List Drilled) (met : RingsMet) → needs_ring at (get_or holes count default_hole) ≡ false
    → AreLeast (λ i j. required i j ⊎ NeedsRingOn at count holes i j) has met → AreLeast (λ i j. required i j ⊎ NeedsRingOn at (count + 1) holes i j) has met
hole_needs_none required has at count holes met none so =
    same_both (λ i j. required i j ⊎ NeedsRingOn at count holes i j) (λ i j. required i j ⊎ NeedsRingOn at (count + 1) holes i j) has (λ i j choice. elim choice [
      | inl earlier ↦ inl earlier
      | inr here ↦ inr (record { here = here.here; below = (let l : j < count = here.below in omega (arith, l)); in_holes = here.in_holes; needs = here.needs })
    ]) (λ i j choice. elim choice [
      | inl earlier ↦ inl earlier
      | inr here ↦ elim (cases_lt j count) [
        | inl less ↦ inr (record { here = here.here; below = less; in_holes = here.in_holes; needs = here.needs })
        | inr more ↦ absurd (
            let is : j ≡ count = (let l : j < count + 1 = here.below in omega (arith, l, more)) in
            let f : true ≡ false = sym here.needs ∙ (ap (λ (n : ℕ). needs_ring at (get_or holes n default_hole)) is ∙ none) in cc)
      ]
    ])
    met so

-- no hole was asked yet
pub no_hole : (required : ℕ → ℕ → Type 0) (has : ℕ → ℕ → Option ℤ → Type 0) (at : ℕ) (holes : List Drilled) (met : RingsMet) → AreLeast required has met → AreLeast (λ i j. required i j ⊎ NeedsRingOn at 0 holes i j) has met
no_hole required has at holes met so =
    same_both required (λ i j. required i j ⊎ NeedsRingOn at 0 holes i j) has (λ i j h. inl h)
    (λ i j choice. elim choice [ inl earlier ↦ earlier | inr here ↦ absurd (let l : j < 0 = here.below in omega (arith, l)) ])
    met so

-- one more layer
pub layer_needs_rings : (has : ℕ → ℕ → Option ℤ → Type 0) (count : ℕ) (holes : List Drilled) (met : RingsMet) → AreLeast (λ i j. NeedsRing count holes i j ⊎ NeedsRingOn count (length holes) holes i j) has met → AreLeast (NeedsRing (count + 1) holes) has met
layer_needs_rings has count holes met so =
    same_both (λ i j. NeedsRing count holes i j ⊎ NeedsRingOn count (length holes) holes i j) (NeedsRing (count + 1) holes) has (λ i j choice. elim choice [
      | inl earlier ↦ record { in_layers = (let l : i < count = earlier.in_layers in omega (arith, l)); in_holes = earlier.in_holes; needs = earlier.needs }
      | inr here ↦ record {
        in_layers = (let x : i ≡ count = here.here in omega (arith, x));
        in_holes = here.in_holes;
        needs = ap (λ (n : ℕ). needs_ring n (get_or holes j default_hole)) here.here ∙ here.needs;
      }
    ]) (λ i j h. elim (cases_lt i count) [
      | inl less ↦ inl (record { in_layers = less; in_holes = h.in_holes; needs = h.needs })
      | inr more ↦
          let is : i ≡ count = (let l : i < count + 1 = h.in_layers in omega (arith, l, more)) in
          inr (record { here = is; below = h.in_holes; in_holes = h.in_holes; needs = ap (λ (n : ℕ). needs_ring n (get_or holes j default_hole)) (sym is) ∙ h.needs })
    ])
    met so

-- no layer was asked yet
pub no_layer : (has : ℕ → ℕ → Option ℤ → Type 0) (holes : List Drilled) (met : RingsMet) → met.ring ≡ mets.Any → met.in_pads ≡ mets.Any → AreLeast (NeedsRing 0 holes) has met
no_layer has holes met ring held = record { ring = subst (IsLeast (NeedsRing 0 holes) has) (sym ring) none; held = subst (IsLeastInPads (NeedsRing 0 holes) has) (sym held) none } where
  none : (i j : ℕ) → NeedsRing 0 holes i j → ⊥
  none i j h = let l : i < 0 = h.in_layers in absurd (omega (arith, l))

-- the ring of a hole by its best pad
pub ring_of_best : {S : Type 0} (covers : S → GridPoint → ℕ → Bool) (profile : Profile) (pads : List S) (hole : GridHole) (best : Option BestPad) → IsBestPad covers pads hole best → IsRingOf covers profile pads hole (ring_from_best profile best hole)
ring_of_best covers profile pads hole None is = inr is
ring_of_best covers profile pads hole (Some best) is = elim (either (is_refused_slot profile hole)) [
  | inl refused ↦
      subst (IsRingOf covers profile pads hole) (sym (ap (λ b. if b then None else Some (pos best.depth -ℤ pos hole.radius)) refused)) (inl refused)
  | inr judged ↦
      subst (IsRingOf covers profile pads hole) (sym (ap (λ b. if b then None else Some (pos best.depth -ℤ pos hole.radius)) judged)) (record { best = best; judged = judged; deepest = is; less = refl })
]

-- one more hole that needs a ring, by its best pad
pub hole_by_best : {S : Type 0} (covers : S → GridPoint → ℕ → Bool) (profile : Profile) (layers : List (List S)) (pads : List S) (holes : List Drilled) (bests : List (Option BestPad)) (at count : ℕ) (d : Drilled) (best : Option BestPad) (met next : RingsMet)
    → get_or layers at [] ≡ pads → AreBestPads covers pads holes bests → count < length holes → d ≡ get_or holes count d → best ≡ get_or bests count best → needs_ring at d ≡ true
    → next.ring ≡ with_length met.ring (ring_from_best profile best d.hole) → next.in_pads ≡ with_length_in_pads met.in_pads (ring_from_best profile best d.hole)
    → AreLeast (NeedsRingBefore at count holes) (HasRing covers profile layers holes) met → AreLeast (NeedsRingBefore at (count + 1) holes) (HasRing covers profile layers holes) next
hole_by_best {S} covers profile layers pads holes bests at count d best met next at_layer are inside here is needs ring_is held_is so =
    let d_is : d ≡ get_or holes count default_hole = here ∙ get_or_default holes count d default_hole inside in
    let best_is : best ≡ get_or bests count None = is ∙ get_or_default bests count best None (let s : length bests ≡ length holes = are.size in omega (arith, s, inside)) in
    let ring : IsRingOf covers profile pads (hole_at holes count) (ring_from_best profile best (hole_at holes count)) =
    ring_of_best covers profile pads (hole_at holes count) best (subst (IsBestPad covers pads (hole_at holes count)) (sym best_is) (are.each count inside)) in
    let has : HasRing covers profile layers holes at count (ring_from_best profile best d.hole) =
    subst (λ (ps : List S). IsRingOf covers profile ps (hole_at holes count) (ring_from_best profile best d.hole)) (sym at_layer)
    (subst (λ (x : Drilled). IsRingOf covers profile pads (hole_at holes count) (ring_from_best profile best x.hole)) (sym d_is) ring) in
    hole_needs_ring (NeedsRing at holes) (HasRing covers profile layers holes) at count holes met next (ring_from_best profile best d.hole) inside (ap (needs_ring at) (sym d_is) ∙ needs) has ring_is held_is so
