-- Files that are sorted as references are sorted as files.
use Rattle.manifest.proofs.Common.{◌≡◌, ◌∙◌, ℕ, Bool, true, false, List, [], ◌∷◌, length, map, Bor, ap, sym, refl, subst, arith, if◌then◌else◌, filter, IsPermutation, IsNonDecreasingBy, IsStableByKey, ties, nat_cmp, is_lt, get_or-map, length-map, IsPermutation-map, Proposal, IsManifestOrder, rank}

pub filter_map_to : {X Y : Type 0} (p : Y → Bool) (f : X → Y) (xs : List X) → filter p (map f xs) ≡ map f (filter (λ x. p (f x)) xs)
filter_map_to p f [] = refl
filter_map_to {X} {Y} p f (x ∷ xs) = by (p (f x)) (filter_map_to p f xs)
  where
    by : (b : Bool) → filter p (map f xs) ≡ map f (filter (λ z. p (f z)) xs)
        → (if b then f x ∷ filter p (map f xs) else filter p (map f xs)) ≡ map f (if b then x ∷ filter (λ z. p (f z)) xs else filter (λ z. p (f z)) xs)
    by true e = ap (λ ys. f x ∷ ys) e
    by false e = e

-- the file of a reference
abbrev pub now : Bor Proposal → Proposal
now b = b.now

-- the rank of the file of a reference
abbrev pub key : Bor Proposal → ℕ
key b = rank b.now.role

-- a reference to a file
abbrev at : Proposal → Bor Proposal
at p = record { ref_ptr = (0, 0); now = p }

module _ (xs ys : List (Bor Proposal)) where
  ranked : IsNonDecreasingBy key ys → IsNonDecreasingBy (λ (p : Proposal). rank p.role) (map now ys)
  ranked h i j d le lt =
      let n : length (map now ys) ≡ length ys = length-map ys now in
      let a = ap (λ (p : Proposal). rank p.role) (get_or-map now ys i (at d) d (omega arith)) in
      let b = ap (λ (p : Proposal). rank p.role) (get_or-map now ys j (at d) d (omega arith)) in
      omega (arith, h i j (at d) le (omega arith), a, b)

  stable : IsStableByKey key nat_cmp xs ys → IsStableByKey (λ (p : Proposal). rank p.role) nat_cmp (map now xs) (map now ys)
  stable h x =
      let test = ties (λ (p q : Proposal). is_lt (nat_cmp (rank p.role) (rank q.role))) x in
      filter_map_to test now ys ∙ ap (map now) (h (at x)) ∙ sym (filter_map_to test now xs)

  pub is_in_order : (files : List Proposal) → map now xs ≡ files → IsPermutation xs ys → IsNonDecreasingBy key ys → IsStableByKey key nat_cmp xs ys → IsManifestOrder files (map now ys)
  is_in_order files e p r s = subst (λ fs. IsManifestOrder fs (map now ys)) e (record { permutation = IsPermutation-map now xs ys p; ranked = ranked r; stable = stable s })
