-- Pads by what they cover: lists of pads of any type, and pads of one type that stand for those of another.
use Rattle.ring_rules.proofs.Common.{◌≡◌, ℕ, ◌<◌, Bool, List, [], ◌∷◌, ◌++◌, map, length, refl, sym, ap, subst, ◌∙◌, ◌&&◌, ◌||◌, not, list_any, filter, enumerate_from, map-append, GridPoint, GridHole, is_in_span, Profile, covers_hole, finding_of, is_refused_slot, layer_findings, spot_at, Covering, HasTriedCoverings, HasTried, JudgesByCoverings, gives_ring, is_marked, Drilled, Spot}
use Rattle.ring_rules.specs.declared.layer_search.LayerSearch.{LayerSearch}
use Rattle.ring_rules.specs.declared.ring_index.RingIndex.{RingIndex}

-- a test of the elements' images
pub any_mapped : {X Y : Type 0} (test : Y → Bool) (f : X → Y) (xs : List X) → list_any test (map f xs) ≡ list_any (λ x. test (f x)) xs
any_mapped test f [] = refl
any_mapped test f (x ∷ xs) = ap (λ (b : Bool). test (f x) || b) (any_mapped test f xs)

-- the findings on a layer by lists of pads that cover each hole alike
layer_by_covered : {X Y : Type 0} (covers : X → GridPoint → ℕ → Bool) (other : Y → GridPoint → ℕ → Bool) (profile : Profile) (ring layer : ℕ) (holes : List Drilled) (xs : List X) (ys : List Y)
    → ((h : GridHole) → list_any (covers_hole covers ring h) xs ≡ list_any (covers_hole other ring h) ys)
    → layer_findings covers profile ring holes layer xs ≡ layer_findings other profile ring holes layer ys
layer_by_covered covers other profile ring layer holes xs ys alike =
    λ j. map (finding_of profile layer)
    (filter (λ (hole : ℕ × Drilled). (hole.1.plated && is_in_span layer hole.1.span) && (is_refused_slot profile hole.1.hole || not (alike hole.1.hole j))) (enumerate_from 0 holes))

-- the findings by what each pad covers are those by the pads
pub layer_by_coverings : {S : Type 0} (covers : S → GridPoint → ℕ → Bool) → JudgesByCoverings covers
layer_by_coverings covers profile ring layer holes pads =
    layer_by_covered {X = Covering} (λ covering. covering) covers profile ring layer holes (map covers pads) pads (λ h. any_mapped {Y = Covering} (covers_hole (λ covering. covering) ring h) covers pads)

-- the marks after more pads are those after what these pads cover
pub marked_by_coverings : {S : Type 0} (covers : S → GridPoint → ℕ → Bool) (profile : Profile) (ring : ℕ) (spots : List Spot) (before after : List Bool) (more : List S)
    → ((i : ℕ) → i < length spots → is_marked after i ≡ (is_marked before i && not (list_any (gives_ring covers profile ring (spot_at spots i).hole) more)))
    → (i : ℕ) → i < length spots → is_marked after i ≡ (is_marked before i && not (list_any (gives_ring {S = Covering} (λ covering. covering) profile ring (spot_at spots i).hole) (map covers more)))
unfolding gives_ring
marked_by_coverings covers profile ring spots before after more now i h =
    now i h ∙ ap (λ (b : Bool). is_marked before i && not b) (sym (any_mapped {Y = Covering} (gives_ring {S = Covering} (λ covering. covering) profile ring (spot_at spots i).hole) covers more))

-- so it is with more pads of the same type
pub tried_more : {S : Type 0} (covers : S → GridPoint → ℕ → Bool) (holes : List Drilled) (layer : ℕ) (pads more : List S) (index : RingIndex) (search : LayerSearch)
    → HasTriedCoverings holes layer (map covers pads ++ map covers more) index search → HasTried covers holes layer (pads ++ more) index search
tried_more covers holes layer pads more index search = subst (λ (coverings : List Covering). HasTriedCoverings holes layer coverings index search) (sym (map-append covers pads more))
