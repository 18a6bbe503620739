-- The least ring of some holes, hole by hole.
use Rattle.board.proofs.Common.{◌≡◌, ℕ, ℤ, ◌+◌, ◌<◌, ◌≤ℤ◌, ◌<ℤ◌, inl, inr, true, false, Option, Some, None, List, length, take, get_or, refl, sym, subst, ap, ◌∙◌, arith, count_by, ints, cases_lt, Profile, Drilled, ring_at, has_no_ring, IsLeastRing, IsLeastRingOf, BestPad}
use Rattle.std.proofs.lemmas.List.Sums.{count_by_more_yes, count_by_more_no}
use Rattle.board.specs.Inner.Rows.{IsLesser}
use Rattle.board.specs.declared.row.RowLeast.{RowLeast}

-- how many holes are bare, with one hole more
pub bare_more : (profile : Profile) (bests : List (Option BestPad)) (holes : List Drilled) (chosen : List ℕ) (count bare : ℕ) → count < length chosen → has_no_ring (ring_at profile bests holes (get_or chosen count 0)) ≡ true
    → bare ≡ count_by (λ k. has_no_ring (ring_at profile bests holes k)) (take count chosen) → bare + 1 ≡ count_by (λ k. has_no_ring (ring_at profile bests holes k)) (take (count + 1) chosen)
bare_more profile bests holes chosen count bare inside none was = ap (λ (n : ℕ). n + 1) was ∙ sym (count_by_more_yes (λ k. has_no_ring (ring_at profile bests holes k)) chosen count 0 inside none)

pub bare_still : (profile : Profile) (bests : List (Option BestPad)) (holes : List Drilled) (chosen : List ℕ) (count bare : ℕ) → count < length chosen → has_no_ring (ring_at profile bests holes (get_or chosen count 0)) ≡ false
    → bare ≡ count_by (λ k. has_no_ring (ring_at profile bests holes k)) (take count chosen) → bare ≡ count_by (λ k. has_no_ring (ring_at profile bests holes k)) (take (count + 1) chosen)
bare_still profile bests holes chosen count bare inside some was = was ∙ sym (count_by_more_no (λ k. has_no_ring (ring_at profile bests holes k)) chosen count 0 inside some)

some_same : {X : Type 0} (a b : X) → Some a ≡ Some b → a ≡ b
some_same a b e = cc

module _ (profile : Profile) (bests : List (Option BestPad)) (holes : List Drilled) (chosen : List ℕ) (count hole : ℕ) (ring : Option ℤ) (here : get_or chosen count 0 ≡ hole) (has : ring_at profile bests holes hole ≡ ring) where
  -- the ring of the next hole
  next_ring : (j : ℕ) → j ≡ count → ring_at profile bests holes (get_or chosen j 0) ≡ ring
  next_ring j is = ap (λ (n : ℕ). ring_at profile bests holes (get_or chosen n 0)) is ∙ (ap (ring_at profile bests holes) here ∙ has)

  none_more : IsLeastRingOf profile bests holes chosen count None → ring ≡ None → IsLeastRingOf profile bests holes chosen (count + 1) None
  none_more was none j l = elim (cases_lt j count) [ inl less ↦ was j less | inr more ↦ next_ring j (omega (arith, l, more)) ∙ none ]

  same_more : (held : RowLeast) → IsLeastRing profile bests holes chosen count held → ((r : ℤ) → ring ≡ Some r → held.ring ≤ℤ r) → IsLeastRing profile bests holes chosen (count + 1) held
  same_more held was no_less = record {
    i = was.i;
    inside = (let l = was.inside in omega (arith, l));
    there = was.there;
    has = was.has;
    least = λ j r l e. elim (cases_lt j count) [ inl less ↦ was.least j r less e | inr more ↦ no_less r (sym (next_ring j (omega (arith, l, more))) ∙ e) ];
    first = was.first;
  }

  new_more : (now : RowLeast) → now.hole ≡ hole → ring ≡ Some now.ring → ((j : ℕ) (r : ℤ) → j < count → ring_at profile bests holes (get_or chosen j 0) ≡ Some r → now.ring <ℤ r) → IsLeastRing profile bests holes chosen (count + 1) now
  new_more now at is less = record {
    i = count;
    inside = omega arith;
    there = here ∙ sym at;
    has = ap (ring_at profile bests holes) at ∙ (has ∙ is);
    least = λ j r l e. elim (cases_lt j count) [
      | inl before ↦ (let f = less j r before e in omega (arith, ints, f))
      | inr more ↦ (let f : now.ring ≡ r = some_same now.ring r (sym is ∙ (sym (next_ring j (omega (arith, l, more))) ∙ e)) in omega (arith, ints, f))
    ];
    first = less;
  }

  -- the rings before are all greater
  greater : (least : Option RowLeast) (now : RowLeast) → IsLeastRingOf profile bests holes chosen count least → ((held : RowLeast) → least ≡ Some held → now.ring <ℤ held.ring) → (j : ℕ) (r : ℤ) → j < count → ring_at profile bests holes (get_or chosen j 0) ≡ Some r → now.ring <ℤ r
  greater None now was less j r l e = absurd (let f : None ≡ Some r = sym (was j l) ∙ e in cc)
  greater (Some held) now was less j r l e = (let f = was.least j r l e in let d = less held refl in omega (arith, ints, f, d))

  by_same : (least : Option RowLeast) → IsLeastRingOf profile bests holes chosen count least → (rest : Option ℤ) → ring ≡ rest → ((r : ℤ) → rest ≡ Some r → (held : RowLeast) × (least ≡ Some held) × (held.ring ≤ℤ r)) → IsLeastRingOf profile bests holes chosen (count + 1) least
  by_same None was None e no_less = none_more was e
  by_same None was (Some r) e no_less = absurd (let w = no_less r refl in let f : None ≡ Some w.0 = w.1 in cc)
  by_same (Some held) was rest e no_less = same_more held was (λ r f.
      let w = no_less r (sym e ∙ f) in
      let is : held ≡ w.0 = some_same held w.0 w.1 in subst (λ (x : RowLeast). x.ring ≤ℤ r) (sym is) w.2)

  pub next_least : (least result : Option RowLeast) → IsLeastRingOf profile bests holes chosen count least → IsLesser least hole ring result → IsLeastRingOf profile bests holes chosen (count + 1) result
  next_least least result was (inl same) = subst (IsLeastRingOf profile bests holes chosen (count + 1)) (sym same.same) (by_same least was ring refl same.no_less)
  next_least least result was (inr new) = subst (IsLeastRingOf profile bests holes chosen (count + 1)) (sym new.is) (new_more new.now new.at new.has (greater least new.now was new.less))
