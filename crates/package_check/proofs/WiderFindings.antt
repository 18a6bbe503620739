-- Which findings are those of gaps.
use Rattle.package_check.proofs.Common.{◌≡◌, ◌<◌, ◌++◌, ℕ, zero, suc, Bool, true, false, cond, List, [], ◌∷◌, length, map, get_or, arith, refl, ap, sym, subst, ◌∙◌, AllByRecursion, Contains, enumerate_from, filter, flat_map, flat_map-cons, Profile, finding_of, gap_findings, hole_findings, is_refused_slot, is_ring_finding, layer_findings, ring_findings, Drilled, Finding, is_gap, GridPoint, Ring, Oblique, Gap}

-- each of some findings is that of a gap, or none is, as `t` says
abbrev pub Are : Bool → List Finding → Type 0
Are t fs = AllByRecursion (λ (f : Finding). is_gap f ≡ t) fs

are_both : (t : Bool) (xs ys : List Finding) → Are t xs → Are t ys → Are t (xs ++ ys)
are_both t [] ys h k = k
are_both t (x ∷ xs) ys h k = (h.0, are_both t xs ys h.1 k)

are_all : {X : Type 0} (t : Bool) (f : X → List Finding) (xs : List X) → ((x : X) → Are t (f x)) → Are t (flat_map f xs)
are_all t f [] each = tt
are_all t f (x ∷ xs) each = subst (Are t) (sym (flat_map-cons f x xs)) (are_both t (f x) (flat_map f xs) (each x) (are_all t f xs each))

are_made : {X : Type 0} (t : Bool) (f : X → Finding) (xs : List X) → ((x : X) → is_gap (f x) ≡ t) → Are t (map f xs)
are_made t f [] each = tt
are_made t f (x ∷ xs) each = (each x, are_made t f xs each)

by_slot : (t : Bool) (layer hole : ℕ) → is_gap (cond t (Oblique layer hole) (Ring layer hole)) ≡ false
by_slot true layer hole = refl
by_slot false layer hole = refl

-- no finding of a ring is that of a gap
pub rings_are : {S : Type 0} (covers : S → GridPoint → ℕ → Bool) (profile : Profile) (ring : ℕ) (layers : List (List S)) (holes : List Drilled) → Are false (ring_findings covers profile ring layers holes)
rings_are {S} covers profile ring layers holes =
    are_all false (λ (layer : ℕ × List S). layer_findings covers profile ring holes layer.0 layer.1) (enumerate_from 0 layers)
    (λ layer. are_made false (finding_of profile layer.0) (filter (λ (hole : ℕ × Drilled). is_ring_finding covers profile ring layer.0 layer.1 hole.1) (enumerate_from 0 holes)) (λ hole. by_slot (is_refused_slot profile hole.1.hole) layer.0 hole.0))

-- and those of gaps are
pub gaps_are : (gap : ℕ) (holes : List Drilled) → Are true (gap_findings gap holes)
gaps_are gap holes = are_all true (λ (hole : ℕ × Drilled). hole_findings gap holes hole.0 hole.1) (enumerate_from 0 holes) (λ hole. are_made true (λ (other : ℕ × Drilled). Gap hole.0 other.0) _ (λ other. refl))

first_kept : (t : Bool) (x : Finding) (xs ys : List Finding) → is_gap x ≡ t → xs ≡ ys → cond (is_gap x) (x ∷ xs) xs ≡ cond t (x ∷ ys) ys
first_kept t x xs ys is same = (λ i. cond (is i) (x ∷ same i) (same i))

kept_none : (xs ys : List Finding) → Are false xs → filter is_gap (xs ++ ys) ≡ filter is_gap ys
kept_none [] ys h = refl
kept_none (x ∷ xs) ys h = first_kept false x (filter is_gap (xs ++ ys)) (filter is_gap ys) h.0 (kept_none xs ys h.1)

kept_all : (xs : List Finding) → Are true xs → filter is_gap xs ≡ xs
kept_all [] h = refl
kept_all (x ∷ xs) h = first_kept true x (filter is_gap xs) xs h.0 (kept_all xs h.1)

-- the gaps among rings and gaps
pub gaps_among : (rings gaps : List Finding) → Are false rings → Are true gaps → filter is_gap (rings ++ gaps) ≡ gaps
gaps_among rings gaps h k = kept_none rings gaps h ∙ kept_all gaps k

-- what is among findings of one kind is of this kind
pub is_among : (t : Bool) (xs : List Finding) (x : Finding) → Are t xs → Contains xs x → is_gap x ≡ t
is_among t xs x h c = by xs c.0 h c.1 c.2
  where
    by : (ys : List Finding) (k : ℕ) → Are t ys → k < length ys → get_or ys k x ≡ x → is_gap x ≡ t
    by [] k h lt e = absurd (omega arith)
    by (y ∷ ys) zero h lt e = ap is_gap (sym e) ∙ h.0
    by (y ∷ ys) (suc k) h lt e = by ys k h.1 (omega arith) e
