-- What a board meets decides under which rules nothing is found.
use Rattle.board.proofs.Common.{◌≡◌, ℕ, ℤ, pos, suc, ◌+◌, ◌<◌, ◌≤◌, ◌+ℤ◌, ◌-ℤ◌, ◌≤ℤ◌, inl, inr, Bool, true, false, cond, Option, Some, None, List, [], ◌∷◌, ◌++◌, map, length, get_or, refl, sym, ap, ◌∙◌, arith, ◌&&◌, ◌||◌, nat_lt, int_lt, filter, flat_map, enumerate_from, list_any, Contains, ints, nat_tests, get_or_default, GridPoint, square, GridHole, Profile, square_of_cores, are_clear, default_hole, hole_at, is_refused_slot, lacks_ring, is_ring_finding, finding_of, layer_findings, ring_findings, hole_findings, gap_findings, Drilled, CoversLess, IsGap, needs_ring, IsRing, IsRingOf, RingsPassExactly, GapsPassExactly, both_true, or_is_false, not_false, and_false_right}
use Rattle.std.specs.Prelude.{not}
use Rattle.std.proofs.lemmas.List.Concat.{flat_map-cons}
use Rattle.std.proofs.lemmas.List.FromFn.{get_or-enumerate_from, length-enumerate_from}
use Rattle.std.proofs.lemmas.List.Folds.{list_any_at}
use Rattle.pad_shapes.specs.Holding.{covers_hole}
use Rattle.ring_rules.specs.declared.finding.Finding.TheVariants.{Gap}
use Rattle.board.specs.Inner.Lacking.{is_short}
use Rattle.board.specs.declared.met.Met.TheVariants as mets
use Rattle.grid_units.proofs.ListLemmas.{map_is_nil, list_any_element}
use Rattle.ring_rules.proofs.SoundnessLemmas.{fails_placed, none_placed}

-- ---- lists in which nothing is found

all_none : {X Y : Type 0} (f : X → List Y) (xs : List X) → ((k : ℕ) (d : X) → k < length xs → f (get_or xs k d) ≡ []) → flat_map f xs ≡ []
all_none f [] h = refl
all_none f (x ∷ xs) h = flat_map-cons f x xs ∙ (ap (λ ys. ys ++ flat_map f xs) (h 0 x (omega arith)) ∙ all_none f xs (λ k d l. h (suc k) d (omega (arith, l))))

all_fail : {X : Type 0} (p : X → Bool) (xs : List X) → ((k : ℕ) (d : X) → k < length xs → p (get_or xs k d) ≡ false) → filter p xs ≡ []
all_fail p [] h = refl
all_fail p (x ∷ xs) h =
    let first : p x ≡ false = h 0 x (omega arith) in
    let g : cond (p x) (x ∷ filter p xs) (filter p xs) ≡ [] = ap (λ b. cond b (x ∷ filter p xs) (filter p xs)) first ∙ all_fail p xs (λ k d l. h (suc k) d (omega (arith, l))) in g

-- an element with its place
pub placed : {X : Type 0} (xs : List X) (k : ℕ) (d : ℕ × X) → k < length xs → get_or (enumerate_from 0 xs) k d ≡ (k, get_or xs k d.1)
placed xs k d h = let z : 0 + k ≡ k = omega arith in get_or-enumerate_from 0 xs k d h ∙ ap (λ n. (n, get_or xs k d.1)) z

all_fail_placed : {X : Type 0} (p : ℕ × X → Bool) (xs : List X) → ((k : ℕ) (d : X) → k < length xs → p (k, get_or xs k d) ≡ false) → filter p (enumerate_from 0 xs) ≡ []
all_fail_placed p xs h = all_fail p (enumerate_from 0 xs) (λ k d l.
    let inside : k < length xs = omega (arith, l, length-enumerate_from 0 xs) in ap p (placed xs k d inside) ∙ h k d.1 inside)

all_none_placed : {X Y : Type 0} (f : ℕ × X → List Y) (xs : List X) → ((k : ℕ) (d : X) → k < length xs → f (k, get_or xs k d) ≡ []) → flat_map f (enumerate_from 0 xs) ≡ []
all_none_placed f xs h = all_none f (enumerate_from 0 xs) (λ k d l.
    let inside : k < length xs = omega (arith, l, length-enumerate_from 0 xs) in ap f (placed xs k d inside) ∙ h k d.1 inside)

-- ---- tests

-- a test that fails where another one passed
unless : (a b : Bool) → (a ≡ true → b ≡ false) → (a && b) ≡ false
unless true b h = h refl
unless false b h = refl

true_not : (b : Bool) → b ≡ true → not b ≡ false
true_not true e = refl
true_not false e = absurd cc

-- some element of a list that is not empty
some : {X : Type 0} (xs : List X) (k : ℕ) → k < length xs → X
some [] k h = absurd (omega arith)
some (x ∷ xs) k h = x

-- ---- one hole among the pads of a layer

module _ {S : Type 0} (covers : S → GridPoint → ℕ → Bool) (profile : Profile) (pads : List S) (h : GridHole) (q : ℕ) where
  -- the pad that covers a hole that does not lack its ring
  covering : lacks_ring covers profile q pads h ≡ false → (is_refused_slot profile h ≡ false) × ((x : S) × Contains pads x × (covers_hole covers q h x ≡ true))
  covering e =
      let t = or_is_false (is_refused_slot profile h) (not (list_any (covers_hole covers q h) pads)) e in
      (t.0, list_any_element (covers_hole covers q h) pads (not_false (list_any (covers_hole covers q h) pads) t.1))

  ring_covers : CoversLess covers → (ring : ℤ) → IsRing covers profile pads h ring → pos q ≤ℤ ring → lacks_ring covers profile q pads h ≡ false
  ring_covers less ring is le =
      let p : S = some pads is.best.pad is.deepest.inside in
      let pad : S = get_or pads is.best.pad p in
      let e : ring ≡ pos is.best.depth -ℤ pos h.radius = is.less in
      let within : h.radius + q ≤ is.best.depth = omega (arith, ints, e, le) in
      let ends = both_true (covers (get_or pads is.best.pad p) h.from is.best.depth) (covers (get_or pads is.best.pad p) h.to is.best.depth) (is.deepest.covered p) in
      let from : covers (get_or pads is.best.pad p) h.from (h.radius + q) ≡ true = less (get_or pads is.best.pad p) h.from (h.radius + q) is.best.depth within ends.0 in
      let to : covers (get_or pads is.best.pad p) h.to (h.radius + q) ≡ true = less (get_or pads is.best.pad p) h.to (h.radius + q) is.best.depth within ends.1 in
      let test : covers_hole covers q h (get_or pads is.best.pad p) ≡ true = ap (λ b. b && covers (get_or pads is.best.pad p) h.to (h.radius + q)) from ∙ to in
      let any : list_any (covers_hole covers q h) pads ≡ true = list_any_at (covers_hole covers q h) pads is.best.pad p is.deepest.inside test in
      ap (λ b. b || not (list_any (covers_hole covers q h) pads)) is.judged ∙ true_not (list_any (covers_hole covers q h) pads) any

  covers_ring : (ring : ℤ) → IsRing covers profile pads h ring → lacks_ring covers profile q pads h ≡ false → pos q ≤ℤ ring
  covers_ring ring is none =
      let found = (covering none).1 in
      let there = found.1 in
      let within : h.radius + q ≤ is.best.depth = is.deepest.deepest found.0 there.0 (h.radius + q) there.1 (ap (λ (x : S). covers_hole covers q h x) there.2 ∙ found.2) in
      let e : ring ≡ pos is.best.depth -ℤ pos h.radius = is.less in omega (arith, ints, e, within)

  bare_lacks : IsRingOf covers profile pads h None → lacks_ring covers profile q pads h ≡ false → ⊥
  bare_lacks (inl refused) none = let f : true ≡ false = sym refused ∙ (covering none).0 in cc
  bare_lacks (inr shallow) none =
      let found = (covering none).1 in
      let there = found.1 in
      let f : true ≡ false = sym (ap (λ (x : S). covers_hole covers q h x) there.2 ∙ found.2) ∙ shallow found.0 there.0 (h.radius + q) there.1 in cc

  same_tests : (a b : Bool) → (b ≡ false → a ≡ true → ⊥) → (a ≡ false → b ≡ false) → a ≡ b
  same_tests true true f g = refl
  same_tests true false f g = absurd (f refl refl)
  same_tests false true f g = let e : true ≡ false = g refl in cc
  same_tests false false f g = refl

  -- a hole has less than a rule just where it lacks that ring
  pub short_lacks : CoversLess covers → (ring : Option ℤ) → IsRingOf covers profile pads h ring → is_short q ring ≡ lacks_ring covers profile q pads h
  short_lacks less None is = same_tests true (lacks_ring covers profile q pads h) (λ none e. bare_lacks is none) (λ e. absurd cc)
  short_lacks less (Some ring) is = same_tests (int_lt ring (pos q)) (lacks_ring covers profile q pads h)
      (λ none e. let within : pos q ≤ℤ ring = covers_ring ring is none in omega (arith, ints, within, e))
      (λ e. ring_covers less ring is (let within : pos q ≤ℤ ring = omega (arith, ints, e) in within))

-- ---- all rings

module _ {S : Type 0} (covers : S → GridPoint → ℕ → Bool) (profile : Profile) (q : ℕ) (layers : List (List S)) (holes : List Drilled) where
  lacking_none : ring_findings covers profile q layers holes ≡ [] → (l k : ℕ) → l < length layers → k < length holes → is_ring_finding covers profile q l (get_or layers l []) (get_or holes k default_hole) ≡ false
  lacking_none none l k in_layers in_holes =
      let at_layer : layer_findings covers profile q holes l (get_or layers l []) ≡ [] = none_placed (λ layer. layer_findings covers profile q holes layer.0 layer.1) layers none l [] in_layers in
      fails_placed (λ hole. is_ring_finding covers profile q l (get_or layers l []) hole.1) holes (map_is_nil (finding_of profile l) _ at_layer) k default_hole in_holes

  none_lacking : ((l k : ℕ) → l < length layers → k < length holes → is_ring_finding covers profile q l (get_or layers l []) (get_or holes k default_hole) ≡ false) → ring_findings covers profile q layers holes ≡ []
  none_lacking none = all_none_placed (λ layer. layer_findings covers profile q holes layer.0 layer.1) layers (λ l d in_layers.
      ap (λ pads. layer_findings covers profile q holes l pads) (get_or_default layers l d [] in_layers)
      ∙ ap (map (finding_of profile l)) (all_fail_placed (λ hole. is_ring_finding covers profile q l (get_or layers l []) hole.1) holes (λ k e in_holes.
      ap (is_ring_finding covers profile q l (get_or layers l [])) (get_or_default holes k e default_hole in_holes) ∙ none l k in_layers in_holes)))

pub rings_pass : {S : Type 0} (covers : S → GridPoint → ℕ → Bool) → CoversLess covers → RingsPassExactly covers
rings_pass covers less profile layers holes mets.Any so q = (
  λ e. tt,
  λ u. none_lacking covers profile q layers holes (λ l k in_layers in_holes.
      unless (needs_ring l (get_or holes k default_hole)) (lacks_ring covers profile q (get_or layers l []) (hole_at holes k)) (λ needs. absurd (so l k (record { in_layers = in_layers; in_holes = in_holes; needs = needs })))),
)
rings_pass covers less profile layers holes (mets.UpTo m) so q = (
  λ e. covers_ring covers profile (get_or layers so.i []) (hole_at holes so.j) q m so.reached
      (and_false_right (needs_ring so.i (get_or holes so.j default_hole)) (lacks_ring covers profile q (get_or layers so.i []) (hole_at holes so.j)) so.there.needs (lacking_none covers profile q layers holes e so.i so.j so.there.in_layers so.there.in_holes)),
  λ le. none_lacking covers profile q layers holes (λ l k in_layers in_holes.
      unless (needs_ring l (get_or holes k default_hole)) (lacks_ring covers profile q (get_or layers l []) (hole_at holes k)) (λ needs.
      let w = so.least l k (record { in_layers = in_layers; in_holes = in_holes; needs = needs }) in
      ring_covers covers profile (get_or layers l []) (hole_at holes k) q less w.0 w.1 (let n : m ≤ℤ w.0 = w.2 in omega (arith, ints, le, n)))),
)
rings_pass covers less profile layers holes mets.None so q = (
  λ e. bare_lacks covers profile (get_or layers so.i []) (hole_at holes so.j) q so.nothing
      (and_false_right (needs_ring so.i (get_or holes so.j default_hole)) (lacks_ring covers profile q (get_or layers so.i []) (hole_at holes so.j)) so.there.needs (lacking_none covers profile q layers holes e so.i so.j so.there.in_layers so.there.in_holes)),
  λ h. absurd h,
)

-- ---- all gaps

module _ (q : ℕ) (holes : List Drilled) where
  clear_none : gap_findings q holes ≡ [] → (i j : ℕ) → i < j → j < length holes → are_clear q (hole_at holes i) (hole_at holes j) ≡ true
  clear_none none i j less inside =
      let row : hole_findings q holes i (get_or holes i default_hole) ≡ [] = none_placed (λ hole. hole_findings q holes hole.0 hole.1) holes none i default_hole (omega (arith, less, inside)) in
      let test : (nat_lt i j && not (are_clear q (hole_at holes i) (hole_at holes j))) ≡ false =
      fails_placed (λ hole. nat_lt i hole.0 && not (are_clear q (hole_at holes i) hole.1.hole)) holes (map_is_nil (λ (hole : ℕ × Drilled). Gap i hole.0) _ row) j default_hole inside in
      let order : nat_lt i j ≡ true = grind (arith, nat_tests) in
      not_false (are_clear q (hole_at holes i) (hole_at holes j)) (and_false_right (nat_lt i j) (not (are_clear q (hole_at holes i) (hole_at holes j))) order test)

  none_clear : ((i j : ℕ) → i < j → j < length holes → are_clear q (hole_at holes i) (hole_at holes j) ≡ true) → gap_findings q holes ≡ []
  none_clear clear = all_none_placed (λ hole. hole_findings q holes hole.0 hole.1) holes (λ i d in_first.
      ap (hole_findings q holes i) (get_or_default holes i d default_hole in_first)
      ∙ ap (map (λ (hole : ℕ × Drilled). Gap i hole.0)) (all_fail_placed (λ hole. nat_lt i hole.0 && not (are_clear q (hole_at holes i) hole.1.hole)) holes (λ j e in_second.
      ap (λ (x : Drilled). nat_lt i j && not (are_clear q (hole_at holes i) x.hole)) (get_or_default holes j e default_hole in_second)
      ∙ unless (nat_lt i j) (not (are_clear q (hole_at holes i) (hole_at holes j))) (λ order.
      true_not (are_clear q (hole_at holes i) (hole_at holes j)) (clear i j (let o : nat_lt i j ≡ true = order in grind (arith, nat_tests)) in_second)))))

pub clear_gap : (a b : GridHole) (gap : ℤ) (q : ℕ) → IsGap a b gap → are_clear q a b ≡ true → pos q ≤ℤ gap
clear_gap a b gap q is e =
    let far : square (a.radius + b.radius + q) ≤ square_of_cores a b = grind (arith, nat_tests) in
    let t : pos (a.radius + b.radius + q) ≤ℤ (gap +ℤ pos (a.radius + b.radius)) = (is (a.radius + b.radius + q)).0 far in omega (arith, ints, t)

gap_clear : (a b : GridHole) (gap : ℤ) (q : ℕ) → IsGap a b gap → pos q ≤ℤ gap → are_clear q a b ≡ true
gap_clear a b gap q is le =
    let t : pos (a.radius + b.radius + q) ≤ℤ (gap +ℤ pos (a.radius + b.radius)) = omega (arith, ints, le) in
    let far : square (a.radius + b.radius + q) ≤ square_of_cores a b = (is (a.radius + b.radius + q)).1 t in grind (arith, nat_tests)

pub gaps_pass : GapsPassExactly
gaps_pass holes mets.Any so q = (
  λ e. tt,
  λ u. none_clear q holes (λ i j less inside. absurd (so i j (record { ordered = less; inside = inside }))),
)
gaps_pass holes (mets.UpTo m) so q = (
  λ e. clear_gap (hole_at holes so.i) (hole_at holes so.j) m q so.reached (clear_none q holes e so.i so.j so.there.ordered so.there.inside),
  λ le. none_clear q holes (λ i j less inside.
      let w = so.least i j (record { ordered = less; inside = inside }) in
      gap_clear (hole_at holes i) (hole_at holes j) w.0 q w.1 (let n : m ≤ℤ w.0 = w.2 in omega (arith, ints, le, n))),
)
gaps_pass holes mets.None so q = (λ e. absurd so.nothing, λ h. absurd h)
