-- Where nothing is found, each element passes.
use Rattle.ring_rules.proofs.Common.{◌≡◌, ℕ, ℤ, ◌+◌, ◌<◌, inl, inr, Bool, true, false, List, [], length, get_or, refl, sym, ap, ◌∙◌, arith, not, ◌&&◌, nat_lt, filter, flat_map, enumerate_from, list_any, Contains, int_eq, nat_tests, Decides-int_eq, get_or-enumerate_from, length-enumerate_from, GridPoint, GridHole, AreClear, Profile, covers_hole, HoldsCoveredHoles, are_clear, is_oblique, is_refused_slot, lacks_ring, is_ring_finding, ring_findings, layer_findings, hole_findings, is_in_span, RingsHoldWithoutFindings, SlotsHoldWithoutFindings, HolesHoldWithoutFindings, StraightWithoutFindings, ApartWithoutFindings, Drilled, not_false, or_is_false, and_false_right}
use Rattle.grid_units.specs.declared.profile.Profile.TheVariants.{Strict}
use Rattle.pad_shapes.specs.Shapes.{IsAxisAligned, ContainsCovered, ContainsCoveredSlots}
use Rattle.ring_rules.proofs.CoreLemmas.{clear_from_test, clear_holes_are_apart}
use Rattle.grid_units.proofs.ListLemmas.{map_is_nil, none_at, filter_nil_at, list_any_element}

-- a test of the elements with their places, at one of them
pub fails_placed : {X : Type 0} (p : ℕ × X → Bool) (xs : List X) → filter p (enumerate_from 0 xs) ≡ [] → (k : ℕ) (d : X) → k < length xs → p (k, get_or xs k d) ≡ false
fails_placed p xs e k d h =
    let inside : k < length (enumerate_from 0 xs) = omega (arith, length-enumerate_from 0 xs) in
    let z : 0 + k ≡ k = omega arith in
    sym (ap p (get_or-enumerate_from 0 xs k (k, d) h ∙ ap (λ n. (n, get_or xs k d)) z)) ∙ filter_nil_at p (enumerate_from 0 xs) e k (k, d) inside

pub none_placed : {X Y : Type 0} (f : ℕ × X → List Y) (xs : List X) → flat_map f (enumerate_from 0 xs) ≡ [] → (k : ℕ) (d : X) → k < length xs → f (k, get_or xs k d) ≡ []
none_placed f xs e k d h =
    let inside : k < length (enumerate_from 0 xs) = omega (arith, length-enumerate_from 0 xs) in
    let z : 0 + k ≡ k = omega arith in
    sym (ap f (get_or-enumerate_from 0 xs k (k, d) h ∙ ap (λ n. (n, get_or xs k d)) z)) ∙ none_at f (enumerate_from 0 xs) e k (k, d) inside

both_not : (a b : Bool) → a ≡ true → (a && not b) ≡ false → b ≡ true
both_not true true t e = refl
both_not true false t e = absurd cc
both_not false b t e = absurd cc

int_same : (a b : ℤ) → int_eq a b ≡ true → a ≡ b
int_same a b e = (Decides-int_eq a b).0 e

-- and where it is not oblique they do
pub not_oblique_along : (h : GridHole) → is_oblique h ≡ false → IsAxisAligned h.from h.to
not_oblique_along h e = by_x (int_eq h.from.x h.to.x) refl where
  by_y : (b : Bool) → int_eq h.from.y h.to.y ≡ b → int_eq h.from.x h.to.x ≡ false → IsAxisAligned h.from h.to
  by_y true y x = inr (int_same h.from.y h.to.y y)
  by_y false y x = absurd (let f : (not (int_eq h.from.x h.to.x) && not (int_eq h.from.y h.to.y)) ≡ false = e in let g : (not false && not false) ≡ false = rw (x, y) at f in cc)

  by_x : (b : Bool) → int_eq h.from.x h.to.x ≡ b → IsAxisAligned h.from h.to
  by_x true x = inl (int_same h.from.x h.to.x x)
  by_x false x = by_y (int_eq h.from.y h.to.y) refl x

both_so : (a b : Bool) → a ≡ true → b ≡ true → (a && b) ≡ true
both_so true true s t = refl
both_so true false s t = absurd cc
both_so false b s t = absurd cc

-- a plated hole that goes through the layer and is not lacking is not refused as a slot, and is covered
module _ {S : Type 0} (covers : S → GridPoint → ℕ → Bool) (profile : Profile) (ring : ℕ) (layers : List (List S)) (holes : List Drilled) where
  not_lacking : (l : ℕ) (d : Drilled) → ring_findings covers profile ring layers holes ≡ [] → l < length layers → Contains holes d → d.plated ≡ true → is_in_span l d.span ≡ true
      → (is_refused_slot profile d.hole ≡ false) × (not (list_any (covers_hole covers ring d.hole) (get_or layers l [])) ≡ false)
  not_lacking l d none in_layers in_holes plated through =
      let at_layer : layer_findings covers profile ring holes l (get_or layers l []) ≡ [] =
      none_placed (λ layer. layer_findings covers profile ring holes layer.0 layer.1) layers none l [] in_layers in
      let tests : filter (λ hole. is_ring_finding covers profile ring l (get_or layers l []) hole.1) (enumerate_from 0 holes) ≡ [] = map_is_nil _ _ at_layer in
      let fails : is_ring_finding covers profile ring l (get_or layers l []) (get_or holes in_holes.0 d) ≡ false =
      fails_placed (λ hole. is_ring_finding covers profile ring l (get_or layers l []) hole.1) holes tests in_holes.0 d in_holes.1 in
      let here : is_ring_finding covers profile ring l (get_or layers l []) d ≡ false = ap (is_ring_finding covers profile ring l (get_or layers l [])) (sym in_holes.2) ∙ fails in
      or_is_false (is_refused_slot profile d.hole) (not (list_any (covers_hole covers ring d.hole) (get_or layers l [])))
      (and_false_right (d.plated && is_in_span l d.span) (lacks_ring covers profile ring (get_or layers l []) d.hole) (both_so d.plated (is_in_span l d.span) plated through) here)

pub straight : {S : Type 0} (covers : S → GridPoint → ℕ → Bool) → StraightWithoutFindings covers
straight covers ring layers holes none l d in_layers in_holes plated through = not_oblique_along d.hole (not_lacking covers Strict ring layers holes l d none in_layers in_holes plated through).0

pub slots_held : {S : Type 0} (points : S → GridPoint → Type 0) (covers : S → GridPoint → ℕ → Bool) → ContainsCoveredSlots points covers → SlotsHoldWithoutFindings points covers
slots_held points covers holds profile ring layers holes none l d in_layers in_holes plated through along =
    let t = not_lacking covers profile ring layers holes l d none in_layers in_holes plated through in
    let found = list_any_element (covers_hole covers ring d.hole) (get_or layers l []) (not_false _ t.1) in
    record { pad = found.0; flashed = found.1; holds = λ c p inside near. holds found.0 d.hole.from d.hole.to (d.hole.radius + ring) along found.2 c p inside near }

first_so : (a b : Bool) → (a && b) ≡ true → a ≡ true
first_so true b e = refl
first_so false b e = absurd cc

pub held : {S : Type 0} (points : S → GridPoint → Type 0) (covers : S → GridPoint → ℕ → Bool) → ContainsCovered points covers → RingsHoldWithoutFindings points covers
held points covers holds profile ring layers holes none l d in_layers in_holes plated through round =
    let t = not_lacking covers profile ring layers holes l d none in_layers in_holes plated through in
    let found = list_any_element (covers_hole covers ring d.hole) (get_or layers l []) (not_false _ t.1) in
    record { pad = found.0; flashed = found.1; holds = holds found.0 d.hole.from (d.hole.radius + ring) (first_so (covers found.0 d.hole.from (d.hole.radius + ring)) (covers found.0 d.hole.to (d.hole.radius + ring)) found.2) }

pub holes_held : {S : Type 0} (points : S → GridPoint → Type 0) (covers : S → GridPoint → ℕ → Bool) → HoldsCoveredHoles points covers → HolesHoldWithoutFindings points covers
holes_held points covers holds profile ring layers holes none l d in_layers in_holes plated through =
    let t = not_lacking covers profile ring layers holes l d none in_layers in_holes plated through in
    let found = list_any_element (covers_hole covers ring d.hole) (get_or layers l []) (not_false _ t.1) in
    record { pad = found.0; flashed = found.1; holds = holds found.0 ring d.hole found.2 }

pub apart : ApartWithoutFindings
apart gap holes none i j d first inside =
    let at_first : hole_findings gap holes i (get_or holes i d) ≡ [] = none_placed (λ hole. hole_findings gap holes hole.0 hole.1) holes none i d (omega (arith, first, inside)) in
    let tests : filter (λ hole. nat_lt i hole.0 && not (are_clear gap (get_or holes i d).hole hole.1.hole)) (enumerate_from 0 holes) ≡ [] = map_is_nil _ _ at_first in
    let fails : (nat_lt i j && not (are_clear gap (get_or holes i d).hole (get_or holes j d).hole)) ≡ false =
    fails_placed (λ hole. nat_lt i hole.0 && not (are_clear gap (get_or holes i d).hole hole.1.hole)) holes tests j d inside in
    let order : nat_lt i j ≡ true = grind (arith, nat_tests) in
    let clear : AreClear gap (get_or holes i d).hole (get_or holes j d).hole = clear_from_test gap (get_or holes i d).hole (get_or holes j d).hole (both_not (nat_lt i j) _ order fails) in
    (clear, clear_holes_are_apart gap (get_or holes i d).hole (get_or holes j d).hole clear)
