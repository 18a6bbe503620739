-- Chains of places by their cells: none, one more, and what a step along a chain passes over.
use Rattle.ring_rules.proofs.Common.{◌≡◌, ◌≢◌, ℕ, ◌+◌, ◌<◌, ◌≤◌, ◌⊎◌, inl, inr, List, [], ◌∷◌, ◌++◌, length, get_or, set, zero, suc, refl, sym, ap, subst, ◌∙◌, arith, cases_eq, cases_lt, get_or-set_same, get_or-set_other, get_or_append_left, get_or_push, length_push, get_or-replicate, get_or_past, length-replicate, IsChained}
use lib.ListN.{replicate}

abbrev pub zeros : ℕ → List ℕ
zeros count = replicate count 0

none_at : (count c : ℕ) → get_or (zeros count) c 0 ≡ 0
none_at count c = elim (cases_lt c count) [
  | inl inside ↦ get_or-replicate count c 0 0 inside
  | inr past ↦ get_or_past (zeros count) c 0 (omega (arith, past, length-replicate {A = ℕ} count 0))
]

module _ (cell : ℕ → ℕ) (n : ℕ) (head next : List ℕ) (was : IsChained cell n head next) (inside : cell n < length head) where
  here : get_or (set head (cell n) (n + 1)) (cell n) 0 ≡ n + 1
  here = get_or-set_same head (cell n) (n + 1) 0 inside

  elsewhere : (c : ℕ) → c ≢ cell n → get_or (set head (cell n) (n + 1)) c 0 ≡ get_or head c 0
  elsewhere c differs = get_or-set_other head (cell n) c (n + 1) 0 differs

  before : (j : ℕ) → j < n → get_or (next ++ get_or head (cell n) 0 ∷ []) j 0 ≡ get_or next j 0
  before j h = get_or_append_left next (get_or head (cell n) 0 ∷ []) 0 j (omega (arith, h, was.size))

  last : get_or (next ++ get_or head (cell n) 0 ∷ []) n 0 ≡ get_or head (cell n) 0
  last = get_or_push next (get_or head (cell n) 0) 0 n was.size

  below : (k : ℕ) → k < n + 1 → (k < n) ⊎ (k ≡ n)
  below k h = elim (cases_lt k n) [ inl less ↦ inl less | inr more ↦ inr (omega (arith, h, more)) ]

  heads_more : (k : ℕ) → k < n + 1 → k < get_or (set head (cell n) (n + 1)) (cell k) 0
  heads_more k h = elim (cases_eq (cell k) (cell n)) [
    | inl same ↦ (let e : get_or (set head (cell n) (n + 1)) (cell k) 0 ≡ n + 1 = ap (λ c. get_or (set head (cell n) (n + 1)) c 0) same ∙ here in omega (arith, e, h))
    | inr differs ↦ elim (below k h) [
      | inl less ↦ (let e = elsewhere (cell k) differs in let o = was.heads k less in omega (arith, e, o))
      | inr is ↦ absurd (differs (ap cell is))
    ]
  ]

  heads_in_more : (c m : ℕ) → get_or (set head (cell n) (n + 1)) c 0 ≡ m + 1 → (m < n + 1) × (cell m ≡ c)
  heads_in_more c m e = elim (cases_eq c (cell n)) [
    | inl same ↦
        let f : n + 1 ≡ m + 1 = sym here ∙ (ap (λ (x : ℕ). get_or (set head (cell n) (n + 1)) x 0) (sym same) ∙ e) in
        let g : m ≡ n = omega (arith, f) in
        (omega (arith, g), ap cell g ∙ sym same)
    | inr differs ↦ let o = was.heads_in c m (sym (elsewhere c differs) ∙ e) in (omega (arith, o.0), o.1)
  ]

  links_more : (j k : ℕ) → j < n + 1 → k < j → cell k ≡ cell j → k < get_or (next ++ get_or head (cell n) 0 ∷ []) j 0
  links_more j k h l e = elim (below j h) [
    | inl less ↦ (let o = was.links j k less l e in let f = before j less in omega (arith, o, f))
    | inr is ↦
        let o : k < get_or head (cell k) 0 = was.heads k (omega (arith, l, is)) in
        let f : get_or head (cell k) 0 ≡ get_or head (cell n) 0 = ap (λ (x : ℕ). get_or head x 0) (e ∙ ap cell is) in
        let g : get_or (next ++ get_or head (cell n) 0 ∷ []) j 0 ≡ get_or head (cell n) 0 = ap (λ (x : ℕ). get_or (next ++ get_or head (cell n) 0 ∷ []) x 0) is ∙ last in
        omega (arith, o, f, g)
  ]

  links_in_more : (j m : ℕ) → j < n + 1 → get_or (next ++ get_or head (cell n) 0 ∷ []) j 0 ≡ m + 1 → (m < j) × (cell m ≡ cell j)
  links_in_more j m h e = elim (below j h) [
    | inl less ↦ was.links_in j m less (sym (before j less) ∙ e)
    | inr is ↦
        let g : get_or head (cell n) 0 ≡ m + 1 = sym last ∙ (ap (λ (x : ℕ). get_or (next ++ get_or head (cell n) 0 ∷ []) x 0) (sym is) ∙ e) in
        let o = was.heads_in (cell n) m g in
        (omega (arith, o.0, is), o.1 ∙ ap cell (sym is))
  ]

  pub chained_more : IsChained cell (n + 1) (set head (cell n) (n + 1)) (next ++ get_or head (cell n) 0 ∷ [])
  chained_more = record {
    size = length_push next (get_or head (cell n) 0) ∙ ap (λ (x : ℕ). x + 1) was.size;
    heads = heads_more;
    heads_in = heads_in_more;
    links = links_more;
    links_in = links_in_more;
  }

-- a link leads to a lower place
pub chain_falls : (cell : ℕ → ℕ) (n : ℕ) (head next : List ℕ) → IsChained cell n head next → (j : ℕ) → j < n → get_or next j 0 ≤ j
chain_falls cell n head next chained j h = by_link (get_or next j 0) refl where
  by_link : (x : ℕ) → get_or next j 0 ≡ x → get_or next j 0 ≤ j
  by_link zero e = omega (arith, e)
  by_link (suc m) e = (let f : get_or next j 0 ≡ m + 1 = e ∙ (let s : suc m ≡ m + 1 = omega arith in s) in let o = (chained.links_in j m h f).0 in omega (arith, o, f))

-- what holds of a place, and of the places of its cell that were passed, holds of those that the next step passes
pub chain_passed : (cell : ℕ → ℕ) (n : ℕ) (head next : List ℕ) → IsChained cell n head next → (P : ℕ → Type 0) (c p : ℕ) → p < n → cell p ≡ c → P p
    → ((k : ℕ) → k < n → cell k ≡ c → p + 1 ≤ k → P k) → (k : ℕ) → k < n → cell k ≡ c → get_or next p 0 ≤ k → P k
chain_passed cell n head next chained P c p inside at holds passed k h e past = elim (cases_lt k p) [
  | inl less ↦ absurd (let l : k < get_or next p 0 = chained.links p k inside less (e ∙ sym at) in omega (arith, l, past))
  | inr more ↦ elim (cases_eq k p) [
    | inl is ↦ subst P (sym is) holds
    | inr differs ↦ passed k h e (omega (arith, more, differs))
  ]
]

-- each place is in a cell that there is
pub cell_inside : (cell : ℕ → ℕ) (n : ℕ) (head next : List ℕ) → IsChained cell n head next → (k : ℕ) → k < n → cell k < length head
cell_inside cell n head next chained k h = elim (cases_lt (cell k) (length head)) [
  | inl inside ↦ inside
  | inr past ↦ absurd (let l = chained.heads k h in let e = get_or_past head (cell k) 0 past in omega (arith, l, e))
]
