-- Pairs of places that are added, and that these are the clashes of the list.
use Rattle.ring_rules.proofs.Common.{◌≡◌, ℕ, ◌+◌, ◌<◌, ◌⊎◌, inl, inr, List, [], ◌∷◌, ◌++◌, min, max, zero, suc, length, get_or, false, refl, sym, ap, subst, ◌∙◌, arith, Contains, get_or_default, Contains-append_left, cases_lt, are_clear, default_hole, hole_at, size_of, spot_at, AreSpotsOf, in_order, IsClash, AreClashing, AddsClashes, ListsClash, ListsClashes, Spot, GridHole, Drilled}
use Rattle.ring_rules.proofs.ClashLemmas.{clash_of, clear_flips}
use Rattle.ring_rules.proofs.SpotLemmas.{hole_of}

-- what is in a list with one more at its end is in the list, or is that one
pub contains_last : {X : Type 0} (xs : List X) (y x : X) → Contains (xs ++ y ∷ []) x → Contains xs x ⊎ (y ≡ x)
contains_last {X} [] y x among = inr (first among.0 among.1 among.2) where
  first : (k : ℕ) → k < 1 → get_or (y ∷ []) k x ≡ x → y ≡ x
  first zero h e = e
  first (suc k) h e = absurd (omega (arith, h))
contains_last {X} (z ∷ xs) y x among = by_place (contains_last xs y x) among.0 among.1 among.2 where
  by_place : (Contains (xs ++ y ∷ []) x → Contains xs x ⊎ (y ≡ x)) → (k : ℕ) → k < length (z ∷ (xs ++ y ∷ [])) → get_or (z ∷ (xs ++ y ∷ [])) k x ≡ x → Contains (z ∷ xs) x ⊎ (y ≡ x)
  by_place rest zero h e = inl (0, omega arith, e)
  by_place rest (suc k) h e = elim (rest (k, omega (arith, h), e)) [
    | inl later ↦ inl (suc later.0, omega (arith, later.1), later.2)
    | inr last ↦ inr last
  ]

pub adds_none : (gap : ℕ) (spots : List Spot) (a : List (ℕ × ℕ)) → AddsClashes gap spots a a
adds_none gap spots a = record { kept = λ p h. h; sound = λ p h. inl h }

pub adds_both : (gap : ℕ) (spots : List Spot) (a b c : List (ℕ × ℕ)) → AddsClashes gap spots a b → AddsClashes gap spots b c → AddsClashes gap spots a c
adds_both gap spots a b c first second = record { kept = λ p h. second.kept p (first.kept p h); sound = λ p h. elim (second.sound p h) [ inl early ↦ first.sound p early | inr clash ↦ inr clash ] }

pub adds_one : (gap : ℕ) (spots : List Spot) (a : List (ℕ × ℕ)) (i j : ℕ) (q : ℕ × ℕ) → AreClashing gap spots i j q → AddsClashes gap spots a (a ++ q ∷ [])
adds_one gap spots a i j q clash = record {
  kept = λ p h. Contains-append_left a (q ∷ []) p h;
  sound = λ p h. elim (contains_last a q p h) [ inl early ↦ inl early | inr same ↦ inr (i, j, subst (AreClashing gap spots i j) same clash) ];
}

pub lists_clash_still : (gap : ℕ) (spots : List Spot) (i j : ℕ) (a b : List (ℕ × ℕ)) → AddsClashes gap spots a b → ListsClash gap spots i j a → ListsClash gap spots i j b
lists_clash_still gap spots i j a b adds found = record { there = λ differ near. adds.kept (in_order (spot_at spots j).place (spot_at spots i).place) (found.there differ near) }

-- the pairs of a spot with one more of a list of others
pub lists_clash_of_more : (gap : ℕ) (spots : List Spot) (i : ℕ) (others : List ℕ) (count : ℕ) (a b : List (ℕ × ℕ)) → AddsClashes gap spots a b
    → ((n : ℕ) → n < count → ListsClash gap spots i (get_or others n 0) a) → ListsClash gap spots i (get_or others count 0) b
    → (n : ℕ) → n < count + 1 → ListsClash gap spots i (get_or others n 0) b
lists_clash_of_more gap spots i others count a b adds before here n h = elim (cases_lt n count) [
  | inl less ↦ lists_clash_still gap spots i (get_or others n 0) a b adds (before n less)
  | inr more ↦ subst (λ (m : ℕ). ListsClash gap spots i (get_or others m 0) b) (let is : count ≡ n = omega (arith, h, more) in is) here
]

-- the pairs of one spot more
pub lists_clashes_more : (gap : ℕ) (spots : List Spot) (count : ℕ) (a b : List (ℕ × ℕ)) → AddsClashes gap spots a b
    → ((i : ℕ) → i < count → ListsClashes gap spots i a) → ListsClashes gap spots count b → (i : ℕ) → i < count + 1 → ListsClashes gap spots i b
lists_clashes_more gap spots count a b adds before here i h j inside size = elim (cases_lt i count) [
  | inl less ↦ lists_clash_still gap spots i j a b adds (before i less j inside size)
  | inr more ↦ subst (λ (m : ℕ). ListsClashes gap spots m b) (let is : count ≡ i = omega (arith, h, more) in is) here j inside size
]

-- two holes at places that differ, as read from the list
pub clash_at : (gap : ℕ) (holes : List Drilled) (other place : ℕ) (d e : Drilled) → other < length holes → place < length holes → ¬ (other ≡ place) → are_clear gap (get_or holes other d).hole (get_or holes place e).hole ≡ false → IsClash gap holes (in_order other place)
clash_at gap holes other place d e h k differ near =
    clash_of gap holes (other, get_or holes other d) (place, get_or holes place e) (h, λ x. get_or_default holes other d x h) (k, λ x. get_or_default holes place e x k) differ near

module _ (gap : ℕ) (holes : List Drilled) (spots : List Spot) (listed : AreSpotsOf holes spots) where
  -- whether two spots are clear, by the places that they have
  clear_same : (i j k o : ℕ) → i < length spots → j < length spots → (spot_at spots i).place ≡ k → (spot_at spots j).place ≡ o → are_clear gap (spot_at spots i).hole (spot_at spots j).hole ≡ are_clear gap (hole_at holes k) (hole_at holes o)
  clear_same i j k o h l e f =
      ap (λ (g : GridHole). are_clear gap g (spot_at spots j).hole) (hole_of holes spots listed i k h e) ∙ ap (are_clear gap (hole_at holes k)) (hole_of holes spots listed j o l f)

  clashing_is : (i j : ℕ) (p : ℕ × ℕ) → AreClashing gap spots i j p → IsClash gap holes p
  clashing_is i j p clash =
      subst (IsClash gap holes) clash.pair
      (clash_at gap holes (spot_at spots i).place (spot_at spots j).place default_hole default_hole (listed.each i clash.inside_i).listed (listed.each j clash.inside_j).listed clash.differ
      (sym (clear_same i j (spot_at spots i).place (spot_at spots j).place clash.inside_i clash.inside_j refl refl) ∙ clash.near))

  pub all_clashes : (b : List (ℕ × ℕ)) → AddsClashes gap spots [] b → (p : ℕ × ℕ) → Contains b p → IsClash gap holes p
  all_clashes b adds p h = elim (adds.sound p h) [
    | inl early ↦ absurd (let l = early.1 in omega (arith, l))
    | inr clash ↦ clashing_is clash.0 clash.1 p clash.2
  ]

  -- of two spots one is no larger than the other
  pub clash_found : (pairs : List (ℕ × ℕ)) (p : ℕ × ℕ) → IsClash gap holes p → ((i : ℕ) → i < length spots → ListsClashes gap spots i pairs) → Contains pairs p
  clash_found pairs p clash found =
      let first = listed.all p.0 (omega (arith, clash.ordered, clash.inside)) in
      let second = listed.all p.1 clash.inside in
      by_size first.0 second.0 first.1 second.1 first.2 second.2 where
        by_size : (i j : ℕ) → i < length spots → j < length spots → (spot_at spots i).place ≡ p.0 → (spot_at spots j).place ≡ p.1 → Contains pairs p
        by_size i j h l e f = elim (cases_lt (size_of (spot_at spots i).hole) (size_of (spot_at spots j).hole)) [
          | inl less ↦ subst (Contains pairs) (λ n. (least n, most n)) ((found j l i h (omega (arith, less))).there (λ same. omega (arith, same, e, f, clash.ordered)) (clear_same i j p.0 p.1 h l e f ∙ clash.near default_hole))
          | inr more ↦ subst (Contains pairs) (λ n. (least' n, most' n)) ((found i h j l more).there (λ same. omega (arith, same, e, f, clash.ordered)) (clear_same j i p.1 p.0 l h f e ∙ (clear_flips gap (hole_at holes p.1) (hole_at holes p.0) ∙ clash.near default_hole)))
        ] where
          least : min (spot_at spots i).place (spot_at spots j).place ≡ p.0
          least = omega (arith, e, f, clash.ordered)

          most : max (spot_at spots i).place (spot_at spots j).place ≡ p.1
          most = omega (arith, e, f, clash.ordered)

          least' : min (spot_at spots j).place (spot_at spots i).place ≡ p.0
          least' = omega (arith, e, f, clash.ordered)

          most' : max (spot_at spots j).place (spot_at spots i).place ≡ p.1
          most' = omega (arith, e, f, clash.ordered)
