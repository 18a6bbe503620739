-- A round hole is bare just where no pad covers its centre.
use Rattle.report.proofs.Common.{◌≡◌, ◌↔◌, ℕ, ℤ, ◌+◌, ◌<◌, ◌&&◌, not, Bool, true, false, Option, Some, None, List, length, take, get_or, refl, sym, subst, ap, ◌∙◌, arith, int_eq, count_by, list_any, Decides-int_eq, get_or_default, GridPoint, GridHole, is_round, wide_pad_covers, covers_both_ends, WidePad, is_oblique, hole_at, default_hole, Drilled, AreBestPads, AreBare, NoneCovers, IsBare, IsBestPad, wide_pad_covers_less, BestPad, BareIsUncovered, is_bare, is_uncovered}
use Rattle.std.proofs.lemmas.List.Folds.{list_any_at, list_any_none}
use Rattle.std.proofs.lemmas.List.Sums.{count_by_more_yes, count_by_more_no}
use Rattle.grid_units.proofs.BoolLemmas.{and_true, both_true, not_true}

not_false : (a : Bool) → a ≡ false → not a ≡ true
not_false true e = absurd cc
not_false false e = refl

either_way : (a : Bool) → a ≡ true → a ≡ false → ⊥
either_way true e f = cc
either_way false e f = cc

pub refused : (b : Bool) → (b ≡ true → ⊥) → b ≡ false
refused true f = absurd (f refl)
refused false f = refl

first_false : (a b : Bool) → (a && b) ≡ false → b ≡ true → a ≡ false
first_false true true e f = absurd cc
first_false true false e f = absurd cc
first_false false b e f = refl

-- a round hole is no oblique slot, and its ends are one point
not_oblique : (a b : Bool) → (a && b) ≡ true → (not a && not b) ≡ true → ⊥
not_oblique true true e f = cc
not_oblique true false e f = cc
not_oblique false b e f = cc

straight : (h : GridHole) → is_round h ≡ true → is_oblique h ≡ true → ⊥
straight h round oblique = not_oblique (int_eq h.from.x h.to.x) (int_eq h.from.y h.to.y) round oblique

equal : (x y : ℤ) → int_eq x y ≡ true → x ≡ y
equal x y e = (Decides-int_eq x y).0 e

one_point : (h : GridHole) → is_round h ≡ true → h.from ≡ h.to
one_point h round =
    let e = both_true (int_eq h.from.x h.to.x) (int_eq h.from.y h.to.y) round in
    let x = equal h.from.x h.to.x e.0 in
    let y = equal h.from.y h.to.y e.1 in
    λ i. record { x = x i; y = y i }

module _ (pads : List WidePad) (h : GridHole) (round : is_round h ≡ true) where
  -- what covers a round hole covers its centre with a reach of 0
  covered : (p : WidePad) (reach : ℕ) → covers_both_ends wide_pad_covers p h.from h.to reach ≡ true → wide_pad_covers p h.from 0 ≡ true
  covered p reach e = wide_pad_covers_less p h.from 0 reach (omega arith) (both_true (wide_pad_covers p h.from reach) (wide_pad_covers p h.to reach) e).0

  ends : (p : WidePad) → wide_pad_covers p h.from 0 ≡ true → covers_both_ends wide_pad_covers p h.from h.to 0 ≡ true
  ends p e = and_true (wide_pad_covers p h.from 0) (wide_pad_covers p h.to 0) e (subst (λ (q : GridPoint). wide_pad_covers p q 0 ≡ true) (one_point h round) e)

  shallow : is_uncovered pads h.from ≡ true → NoneCovers wide_pad_covers pads (length pads) h
  shallow none p k reach inside =
      let nothing = not_true (list_any (λ (pad : WidePad). wide_pad_covers pad h.from 0) pads) none in
      refused (covers_both_ends wide_pad_covers (get_or pads k p) h.from h.to reach) (λ e.
      either_way (list_any (λ (pad : WidePad). wide_pad_covers pad h.from 0) pads) (list_any_at (λ (pad : WidePad). wide_pad_covers pad h.from 0) pads k p inside (covered (get_or pads k p) reach e)) nothing)

  uncovered : IsBare wide_pad_covers pads h → is_uncovered pads h.from ≡ true
  uncovered none = not_false (list_any (λ (pad : WidePad). wide_pad_covers pad h.from 0) pads) (list_any_none (λ (pad : WidePad). wide_pad_covers pad h.from 0) pads (λ k d inside.
      refused (wide_pad_covers (get_or pads k d) h.from 0) (λ e. either_way (covers_both_ends wide_pad_covers (get_or pads k d) h.from h.to 0) (ends (get_or pads k d) e) (none d k 0 inside))))

pub bare_is_uncovered : BareIsUncovered
bare_is_uncovered pads h round = (λ bare. uncovered pads h round bare, λ none. shallow pads h round none)

-- whether a round hole is bare
given_bare : (pads : List WidePad) (h : GridHole) (b : Bool) → is_round h ≡ true → (b ≡ true) ↔ IsBare wide_pad_covers pads h → is_uncovered pads h.from ≡ b
given_bare pads h true round is = uncovered pads h round (is.0 refl)
given_bare pads h false round is = refused (is_uncovered pads h.from) (λ e. either_way false (is.1 (shallow pads h round e)) refl)

by_bare : (pads : List WidePad) (h : GridHole) (b : Bool) → (b ≡ true) ↔ IsBare wide_pad_covers pads h → (is_round h && is_uncovered pads h.from) ≡ (is_round h && b)
by_bare pads h b is = by (is_round h) refl
  where
    by : (t : Bool) → is_round h ≡ t → (t && is_uncovered pads h.from) ≡ (t && b)
    by true e = given_bare pads h b e is
    by false e = refl

module _ (pads : List WidePad) (holes : List Drilled) (bare : List Bool) (all : AreBare wide_pad_covers pads holes bare) (k : ℕ) (d : Drilled) (b : Bool) (inside : k < length holes) where
  at_hole : is_bare pads (get_or holes k d) ≡ (is_round (get_or holes k d).hole && get_or bare k b)
  at_hole =
      let size = all.size in
      let same : get_or bare k b ≡ get_or bare k false = get_or_default bare k b false (omega (arith, inside, size)) in
      let there : get_or holes k d ≡ get_or holes k default_hole = get_or_default holes k d default_hole inside in
      ap (is_bare pads) there ∙ (by_bare pads (hole_at holes k) (get_or bare k false) (all.each k inside) ∙ (ap (λ (t : Bool). is_round (hole_at holes k) && t) (sym same) ∙ ap (λ (e : Drilled). is_round e.hole && get_or bare k b) (sym there)))

  pub given_more : (count : ℕ) (t : Bool) → t ≡ (is_round (get_or holes k d).hole && get_or bare k b) → t ≡ true → count ≡ count_by (is_bare pads) (take k holes) → count + 1 ≡ count_by (is_bare pads) (take (k + 1) holes)
  given_more count t is e was = ap (λ (n : ℕ). n + 1) was ∙ sym (count_by_more_yes (is_bare pads) holes k d inside (at_hole ∙ (sym is ∙ e)))

  pub given_still : (count : ℕ) (t : Bool) → t ≡ (is_round (get_or holes k d).hole && get_or bare k b) → t ≡ false → count ≡ count_by (is_bare pads) (take k holes) → count ≡ count_by (is_bare pads) (take (k + 1) holes)
  given_still count t is e was = was ∙ sym (count_by_more_no (is_bare pads) holes k d inside (at_hole ∙ (sym is ∙ e)))
