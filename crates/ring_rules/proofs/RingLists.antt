-- What the definition of the findings of rings lists, and what follows for slots in the strict and in the wide profile.
use Rattle.ring_rules.proofs.Common.{◌≡◌, ℕ, ◌+◌, ◌<◌, zero, suc, inl, inr, Bool, true, false, cond, List, [], ◌∷◌, length, get_or, refl, sym, ap, subst, ◌∙◌, arith, ◌&&◌, ◌||◌, ⊤, not, All, filter, enumerate_from, list_any, Contains, All-map, All-filter, All-weaker, All-contains, filter_passes, IsPermutation-refl, GridPoint, is_in_span, Profile, covers_hole, is_oblique, is_ring_finding, finding_of, layer_findings, ring_findings, FindsOblique, FindsNoObliqueInWide, AreAmong, WideFindsNoMore, Drilled, Finding, Ring, Oblique, Gap, both_true, either, not_true}
use Rattle.std.specs.Prelude.{◌⊎◌}
use Rattle.std.proofs.lemmas.List.Folds.{list_any_at}
use Rattle.grid_units.specs.declared.profile.Profile.TheVariants.{Strict, Wide}
use Rattle.ring_rules.proofs.ClashLemmas.{IsPlaced, placed_right, all_flat_map, enumerated_at}
use Rattle.grid_units.proofs.ListLemmas.{flat_map_at, list_any_element, map_contains}

-- an element of a list is also one of the list with one more at its start
contains_after : {X : Type 0} (z : X) (xs : List X) (x : X) → Contains xs x → Contains (z ∷ xs) x
contains_after z xs x h = let lt = h.1 in (suc h.0, omega (arith, lt), h.2)

-- an element that passes is kept
filter_at : {X : Type 0} (p : X → Bool) (xs : List X) (x : X) (k : ℕ) → k < length xs → get_or xs k x ≡ x → p x ≡ true → Contains (filter p xs) x
filter_at p [] x k lt e t = absurd (omega arith)
filter_at {X} p (z ∷ zs) x zero lt e t =
    let here : p z ≡ true = ap p e ∙ t in
    let first : Contains (z ∷ filter p zs) x = (0, omega arith, e) in
    subst (λ (b : Bool). Contains (cond b (z ∷ filter p zs) (filter p zs)) x) (sym here) first
filter_at {X} p (z ∷ zs) x (suc k) lt e t = by_test (p z) (filter_at p zs x k (omega arith) e t) where
  by_test : (b : Bool) → Contains (filter p zs) x → Contains (cond b (z ∷ filter p zs) (filter p zs)) x
  by_test true rest = contains_after z (filter p zs) x rest
  by_test false rest = rest

module _ {S : Type 0} (covers : S → GridPoint → ℕ → Bool) (profile : Profile) (ring : ℕ) (layers : List (List S)) (holes : List Drilled) where
  -- each hole that is a finding of a layer is listed
  ring_found : (l h : ℕ) (d : Drilled) → l < length layers → h < length holes → is_ring_finding covers profile ring l (get_or layers l []) (get_or holes h d) ≡ true
      → Contains (ring_findings covers profile ring layers holes) (finding_of profile l (h, get_or holes h d))
  ring_found l h d in_layers in_holes wants =
      let placed : Contains (enumerate_from 0 holes) (h, get_or holes h d) = enumerated_at holes h d in_holes in
      let kept : Contains (filter (λ (hole : ℕ × Drilled). is_ring_finding covers profile ring l (get_or layers l []) hole.1) (enumerate_from 0 holes)) (h, get_or holes h d) =
      filter_at (λ (hole : ℕ × Drilled). is_ring_finding covers profile ring l (get_or layers l []) hole.1) (enumerate_from 0 holes) (h, get_or holes h d) placed.0 placed.1 placed.2 wants in
      let found : Contains (layer_findings covers profile ring holes l (get_or layers l [])) (finding_of profile l (h, get_or holes h d)) =
      map_contains (finding_of profile l) (filter (λ (hole : ℕ × Drilled). is_ring_finding covers profile ring l (get_or layers l []) hole.1) (enumerate_from 0 holes)) (h, get_or holes h d) kept in
      let at : Contains (enumerate_from 0 layers) (l, get_or layers l []) = enumerated_at layers l [] in_layers in
      flat_map_at (λ (layer : ℕ × List S). layer_findings covers profile ring holes layer.0 layer.1) (enumerate_from 0 layers) (l, get_or layers l []) (finding_of profile l (h, get_or holes h d)) at.0 at.1 at.2 found

  -- what holds of the finding at each hole that is one, on each layer, holds of each finding of the list
  pub all_found : (P : Finding → Type 0)
      → ((layer : ℕ × List S) (hole : ℕ × Drilled) → layer.0 < length layers → layer.1 ≡ get_or layers layer.0 [] → IsPlaced holes hole → is_ring_finding covers profile ring layer.0 layer.1 hole.1 ≡ true → P (finding_of profile layer.0 hole))
      → All P (ring_findings covers profile ring layers holes)
  all_found P each =
      all_flat_map P (λ (layer : ℕ × List S). layer_findings covers profile ring holes layer.0 layer.1) (enumerate_from 0 layers)
      (All-weaker (λ (layer : ℕ × List S). (layer.0 < length layers) × ((d : List S) → layer.1 ≡ get_or layers layer.0 d)) (λ (layer : ℕ × List S). All P (layer_findings covers profile ring holes layer.0 layer.1))
      (λ layer here. All-map P (finding_of profile layer.0) (filter (λ (hole : ℕ × Drilled). is_ring_finding covers profile ring layer.0 layer.1 hole.1) (enumerate_from 0 holes))
      (λ k d h. each layer (get_or (filter (λ (hole : ℕ × Drilled). is_ring_finding covers profile ring layer.0 layer.1 hole.1) (enumerate_from 0 holes)) k d) here.0 (here.1 [])
      (All-filter (λ (hole : ℕ × Drilled). is_ring_finding covers profile ring layer.0 layer.1 hole.1) (IsPlaced holes) (enumerate_from 0 holes) (placed_right holes (enumerate_from 0 holes) (IsPermutation-refl (enumerate_from 0 holes))) k d h)
      (filter_passes (λ (hole : ℕ × Drilled). is_ring_finding covers profile ring layer.0 layer.1 hole.1) (enumerate_from 0 holes) k d h)))
      (enumerate_from 0 layers) (placed_right layers (enumerate_from 0 layers) (IsPermutation-refl (enumerate_from 0 layers))))

pub oblique_found : {S : Type 0} (covers : S → GridPoint → ℕ → Bool) → FindsOblique covers
oblique_found covers ring layers holes l h d in_layers in_holes plated through oblique =
    let wants : is_ring_finding covers Strict ring l (get_or layers l []) (get_or holes h d) ≡ true = rw (plated, through, oblique) refl in
    let kind : finding_of Strict l (h, get_or holes h d) ≡ Oblique l h = rw oblique refl in
    subst (λ (f : Finding). Contains (ring_findings covers Strict ring layers holes) f) kind (ring_found covers Strict ring layers holes l h d in_layers in_holes wants)

-- a finding is of any kind but `Oblique`
abbrev IsNotOblique : Finding → Type 0
IsNotOblique (Ring layer hole) = ⊤
IsNotOblique (Oblique layer hole) = ⊥
IsNotOblique (Gap first second) = ⊤

pub no_oblique_in_wide : {S : Type 0} (covers : S → GridPoint → ℕ → Bool) → FindsNoObliqueInWide covers
no_oblique_in_wide covers ring layers holes l h found =
    All-contains IsNotOblique (ring_findings covers Wide ring layers holes) (Oblique l h) (all_found covers Wide ring layers holes IsNotOblique (λ layer hole in_layers same placed wants. tt)) found

or_true_right : (a b : Bool) → b ≡ true → (a || b) ≡ true
or_true_right true b e = refl
or_true_right false b e = e

and_both : (a b : Bool) → a ≡ true → b ≡ true → (a && b) ≡ true
and_both true b e f = f
and_both false b e f = absurd cc

module _ {S W : Type 0} (covers : S → GridPoint → ℕ → Bool) (wide : W → GridPoint → ℕ → Bool) (into : S → W) (ring : ℕ) (layers : List (List S)) (more : List (List W)) (holes : List Drilled) (among : AreAmong covers wide into layers more) where
  -- a hole that a pad covers is covered by its image among the other pads
  covered_by_image : (l : ℕ) (d : Drilled) → l < length layers → list_any (covers_hole covers ring d.hole) (get_or layers l []) ≡ true → list_any (covers_hole wide ring d.hole) (get_or more l []) ≡ true
  covered_by_image l d inside any =
      let found = list_any_element (covers_hole covers ring d.hole) (get_or layers l []) any in
      let there = among.among l found.0 inside found.1 in
      let same : covers_hole wide ring d.hole (into found.0) ≡ covers_hole covers ring d.hole found.0 = λ j. among.same found.0 d.hole.from (d.hole.radius + ring) j && among.same found.0 d.hole.to (d.hole.radius + ring) j in
      list_any_at (covers_hole wide ring d.hole) (get_or more l []) there.0 (into found.0) there.1 (ap (covers_hole wide ring d.hole) there.2 ∙ (same ∙ found.2))

  -- so a hole that is a finding among all pads in the wide profile is one among some of them in the strict profile
  strict_wants : (l : ℕ) (d : Drilled) → l < length layers → is_ring_finding wide Wide ring l (get_or more l []) d ≡ true → is_ring_finding covers Strict ring l (get_or layers l []) d ≡ true
  strict_wants l d inside wants =
      let parts = both_true (d.plated && is_in_span l d.span) (not (list_any (covers_hole wide ring d.hole) (get_or more l []))) wants in
      let uncovered : not (list_any (covers_hole covers ring d.hole) (get_or layers l [])) ≡ true = elim (either (list_any (covers_hole covers ring d.hole) (get_or layers l []))) [
        | inl any ↦ absurd (let e : true ≡ false = sym (covered_by_image l d inside any) ∙ not_true (list_any (covers_hole wide ring d.hole) (get_or more l [])) parts.1 in cc)
        | inr none ↦ ap not none
      ] in
      and_both (d.plated && is_in_span l d.span) (is_oblique d.hole || not (list_any (covers_hole covers ring d.hole) (get_or layers l []))) parts.0
      (or_true_right (is_oblique d.hole) (not (list_any (covers_hole covers ring d.hole) (get_or layers l []))) uncovered)

  -- the list of the strict profile has the finding, of one kind or the other
  abbrev HasEither : ℕ → ℕ → Type 0
  HasEither l h = Contains (ring_findings covers Strict ring layers holes) (Ring l h) ⊎ Contains (ring_findings covers Strict ring layers holes) (Oblique l h)

  by_kind : (l h : ℕ) (d : Drilled) (b : Bool) → is_oblique d.hole ≡ b → Contains (ring_findings covers Strict ring layers holes) (finding_of Strict l (h, d)) → HasEither l h
  by_kind l h d true e found = inr (subst (λ (f : Finding). Contains (ring_findings covers Strict ring layers holes) f) (let kind : finding_of Strict l (h, d) ≡ Oblique l h = rw e refl in kind) found)
  by_kind l h d false e found = inl (subst (λ (f : Finding). Contains (ring_findings covers Strict ring layers holes) f) (let kind : finding_of Strict l (h, d) ≡ Ring l h = rw e refl in kind) found)

  abbrev IsInStrict : Finding → Type 0
  IsInStrict (Ring layer hole) = HasEither layer hole
  IsInStrict (Oblique layer hole) = ⊤
  IsInStrict (Gap first second) = ⊤

  each_in_strict : (layer : ℕ × List W) (hole : ℕ × Drilled) → layer.0 < length more → layer.1 ≡ get_or more layer.0 [] → IsPlaced holes hole → is_ring_finding wide Wide ring layer.0 layer.1 hole.1 ≡ true → HasEither layer.0 hole.0
  each_in_strict layer hole in_more same placed wants =
      let inside : layer.0 < length layers = omega (arith, in_more, among.as_many) in
      let here = strict_wants layer.0 hole.1 inside (subst (λ (pads : List W). is_ring_finding wide Wide ring layer.0 pads hole.1 ≡ true) same wants) in
      let at : hole.1 ≡ get_or holes hole.0 hole.1 = placed.1 hole.1 in
      by_kind layer.0 hole.0 hole.1 (is_oblique hole.1.hole) refl (subst (λ (d : Drilled). Contains (ring_findings covers Strict ring layers holes) (finding_of Strict layer.0 (hole.0, d))) (sym at)
      (ring_found covers Strict ring layers holes layer.0 hole.0 hole.1 inside placed.0 (subst (λ (d : Drilled). is_ring_finding covers Strict ring layer.0 (get_or layers layer.0 []) d ≡ true) at here)))

  in_strict : (l h : ℕ) → Contains (ring_findings wide Wide ring more holes) (Ring l h) → HasEither l h
  in_strict l h found = All-contains IsInStrict (ring_findings wide Wide ring more holes) (Ring l h) (all_found wide Wide ring more holes IsInStrict each_in_strict) found

pub wide_no_more : {S W : Type 0} (covers : S → GridPoint → ℕ → Bool) (wide : W → GridPoint → ℕ → Bool) → WideFindsNoMore covers wide
wide_no_more covers wide into ring layers more holes l h among = in_strict covers wide into ring layers more holes among l h
