-- Proofs of what rounded polygons are: discs, sets that grow with the radius, and areas to the left of each edge.
use Rattle.std.proofs.Common.{◌≡◌, ℕ, ℤ, pos, ◌+◌, ◌-◌, ◌*◌, ◌≤◌, ◌+ℤ◌, ◌-ℤ◌, ◌*ℤ◌, ◌≤ℤ◌, unsigned_abs, Bool, true, false, List, [], ◌∷◌, refl, sym, ap, subst, ◌∙◌, arith, le_trans, mul-le-mul_left}
use Rattle.std.specs.Prelude.{◌&&◌, ◌||◌, nat_le, int_le, int_lt}
use Rattle.std.specs.List.{All, Contains, list_all}
use Rattle.std.proofs.lemmas.Bool.{and_parts, and_from, le-leb}
use Rattle.std.proofs.lemmas.Int.{ints}
use borrow.Author.Differences.{true_is_le}
use Rattle.std.proofs.lemmas.List.Elements.{All-nil, All-cons, All-contains}
use Rattle.std.proofs.lemmas.Nat.{mul-le}
use Rattle.grid_units.specs.Laws.{square_length}
use Rattle.grid_units.specs.Points.{GridPoint, square, square_distance}
use Rattle.grid_units.proofs.TriangleInequalities.{le_of_squares}
use Rattle.pad_shapes.specs.Shapes.{IsInDisc}
use Rattle.pad_shapes.specs.Rounded.{GridRounded, WeightedPoint, total_weight, weighted_sum, IsNear, IsInRounded, corners, Edge, edges_back, cross, along, square_edge, is_deep_left, is_deep_left_of_all, has_area, is_deep_inside, is_beside, OneCornerIsDisc, OneCornerCovers, GreaterRadiusHolds, PolygonIsLeftOfEdges}
use Rattle.pad_shapes.specs.Inner.Identities.{is_z, is_n, is_add, is_sub, is_mul, same, unscaled-le, untimes-le}
use Rattle.pad_shapes.specs.Inner.Means.{length_same}
use Rattle.pad_shapes.specs.Inner.Fan.{edge, EachEdge, each_edge, map_each, no_area}
use Rattle.pad_shapes.specs.Inner.RoundedLaws.{sum-ge, sum-le, one_point, inside_is_near, left_of}

-- ---- one corner

-- the mean of one point, any number of times, is that point
sum_of_one : (f : GridPoint → ℤ) (c : GridPoint) (ws : List WeightedPoint) → All (λ w. Contains (c ∷ []) w.point) ws → weighted_sum f ws ≡ pos (total_weight ws) *ℤ f c
sum_of_one f c ws all =
    equal (weighted_sum f ws) (pos (total_weight ws) *ℤ f c)
    (sum-le (Contains (c ∷ [])) f (f c) (λ v among. at_most (f v) (f c) (ap f (only v among))) ws all)
    (sum-ge (Contains (c ∷ [])) f (f c) (λ v among. at_most (f c) (f v) (sym (ap f (only v among)))) ws all)
  where
    only : (v : GridPoint) → Contains (c ∷ []) v → v ≡ c
    only v among = All-contains (λ u. u ≡ c) (c ∷ []) v (All-cons (λ u. u ≡ c) c [] refl (All-nil (λ u. u ≡ c))) among

    at_most : (a b : ℤ) → a ≡ b → a ≤ℤ b
    at_most a b e = omega (arith, ints)

    equal : (a b : ℤ) → a ≤ℤ b → b ≤ℤ a → a ≡ b
    equal a b h k = omega (arith, ints)

from_one : (n : ℕ) (p c s : ℤ) → s ≡ pos n *ℤ c → pos n *ℤ (p -ℤ c) ≡ pos n *ℤ p -ℤ s
from_one n p c s e =
    same (is_mul (is_n n) (is_sub (is_z p) (is_z c))) (is_sub (is_mul (is_n n) (is_z p)) (is_mul (is_n n) (is_z c))) (omega arith) ∙ ap (λ z. pos n *ℤ p -ℤ z) (sym e)

pub one_corner_is_disc : OneCornerIsDisc
one_corner_is_disc centre radius p = (inward, outward)
  where
    inward : IsInRounded (record { first = centre; others = []; radius = radius }) p → IsInDisc (record { centre = centre; radius = radius }) p
    inward h =
        let n = total_weight h.parts in
        unscaled-le n radius (p.x -ℤ centre.x) (p.y -ℤ centre.y) h.some
        (length_same _ _ _ _ (n * radius) (n * radius)
        (from_one n p.x centre.x (weighted_sum (λ v. v.x) h.parts) (sum_of_one (λ v. v.x) centre h.parts h.of_points))
        (from_one n p.y centre.y (weighted_sum (λ v. v.y) h.parts) (sum_of_one (λ v. v.y) centre h.parts h.of_points)) refl h.near)

    outward : IsInDisc (record { centre = centre; radius = radius }) p → IsInRounded (record { first = centre; others = []; radius = radius }) p
    outward h = record {
      parts = record { weight = 1; point = centre } ∷ [];
      of_points = All-cons (λ w. Contains (centre ∷ []) w.point) (record { weight = 1; point = centre }) [] (0, omega arith, refl) (All-nil (λ w. Contains (centre ∷ []) w.point));
      some = omega arith;
      near = length_same _ _ _ _ (1 * radius) radius (one_point p.x centre.x) (one_point p.y centre.y) (omega arith) h;
    }

no_way : (c p : GridPoint) → along (edge c c) p ≡ pos 0
no_way c p = flat c.x c.y (p.x -ℤ c.x) (p.y -ℤ c.y)
  where
    flat : (a b u v : ℤ) → (a -ℤ a) *ℤ u +ℤ (b -ℤ b) *ℤ v ≡ pos 0
    flat a b u v = same (is_add (is_mul (is_sub (is_z a) (is_z a)) (is_z u)) (is_mul (is_sub (is_z b) (is_z b)) (is_z v))) (is_n 0) (omega arith)

or_false : (b : Bool) → (b || false) ≡ b
or_false true = refl
or_false false = refl

pub one_corner_covers : OneCornerCovers
one_corner_covers centre radius c reach =
    by (int_lt (pos 0) (cross (edge centre centre) centre)) (is_beside (edge centre centre) (radius - reach) c) (is_deep_left (edge centre centre) (reach - radius) c && true)
    (ap (λ z. int_lt (pos 0) z) (no_area centre centre))
    (ap (λ z. (int_lt (pos 0) z && int_lt z (pos (square_edge (edge centre centre)))) && nat_le (square (unsigned_abs (cross (edge centre centre) c))) (square (radius - reach) * square_edge (edge centre centre))) (no_way centre c))
    (nat_le reach radius) (nat_le (square_distance c centre) (square (radius - reach)))
  where
    by : (area beside deep : Bool) → area ≡ false → beside ≡ false → (fits near : Bool) → (((area || false) && deep) || (fits && ((near || false) || (beside || false)))) ≡ (fits && near)
    by area beside deep e f fits near =
        (λ i. ((e i || false) && deep) || (fits && ((near || false) || (f i || false)))) ∙ ap (λ b. fits && b) (or_false (near || false) ∙ or_false near)

-- ---- a greater radius

pub greater_radius_holds : GreaterRadiusHolds
greater_radius_holds first others radius greater more p h =
    let n = total_weight h.parts in
    let wider : n * radius ≤ n * greater = mul-le-mul_left n more in
    record {
      parts = h.parts;
      of_points = h.of_points;
      some = h.some;
      near = le_trans h.near (mul-le (n * radius) (n * radius) (n * greater) (n * greater) wider wider);
    }

-- ---- to the left of each edge

-- the area of an edge and a sum of points
pub cross_sum : (e : Edge) (ws : List WeightedPoint) → weighted_sum (λ v. cross e v) ws
    ≡ (e.to.x -ℤ e.from.x) *ℤ (weighted_sum (λ v. v.y) ws -ℤ pos (total_weight ws) *ℤ e.from.y) -ℤ (e.to.y -ℤ e.from.y) *ℤ (weighted_sum (λ v. v.x) ws -ℤ pos (total_weight ws) *ℤ e.from.x)
cross_sum e [] = none (e.to.x -ℤ e.from.x) (e.to.y -ℤ e.from.y) e.from.x e.from.y
  where
    none : (dx dy fx fy : ℤ) → pos 0 ≡ dx *ℤ (pos 0 -ℤ pos 0 *ℤ fy) -ℤ dy *ℤ (pos 0 -ℤ pos 0 *ℤ fx)
    none dx dy fx fy =
        same (is_n 0) (is_sub (is_mul (is_z dx) (is_sub (is_n 0) (is_mul (is_n 0) (is_z fy)))) (is_mul (is_z dy) (is_sub (is_n 0) (is_mul (is_n 0) (is_z fx))))) (omega arith)
cross_sum e (w ∷ ws) =
    ap (λ z. pos w.weight *ℤ cross e w.point +ℤ z) (cross_sum e ws)
    ∙ more (e.to.x -ℤ e.from.x) (e.to.y -ℤ e.from.y) e.from.x e.from.y w.point.x w.point.y (weighted_sum (λ v. v.x) ws) (weighted_sum (λ v. v.y) ws) w.weight (total_weight ws)
  where
    more : (dx dy fx fy vx vy sx sy : ℤ) (n t : ℕ)
        → pos n *ℤ (dx *ℤ (vy -ℤ fy) -ℤ dy *ℤ (vx -ℤ fx)) +ℤ (dx *ℤ (sy -ℤ pos t *ℤ fy) -ℤ dy *ℤ (sx -ℤ pos t *ℤ fx))
        ≡ dx *ℤ ((pos n *ℤ vy +ℤ sy) -ℤ pos (n + t) *ℤ fy) -ℤ dy *ℤ ((pos n *ℤ vx +ℤ sx) -ℤ pos (n + t) *ℤ fx)
    more dx dy fx fy vx vy sx sy n t =
        same
        (is_add (is_mul (is_n n) (is_sub (is_mul (is_z dx) (is_sub (is_z vy) (is_z fy))) (is_mul (is_z dy) (is_sub (is_z vx) (is_z fx)))))
        (is_sub (is_mul (is_z dx) (is_sub (is_z sy) (is_mul (is_n t) (is_z fy)))) (is_mul (is_z dy) (is_sub (is_z sx) (is_mul (is_n t) (is_z fx))))))
        (is_sub (is_mul (is_z dx) (is_sub (is_add (is_mul (is_n n) (is_z vy)) (is_z sy)) (is_mul (is_n (n + t)) (is_z fy)))) (is_mul (is_z dy) (is_sub (is_add (is_mul (is_n n) (is_z vx)) (is_z sx)) (is_mul (is_n (n + t)) (is_z fx)))))
        (omega arith)

-- at a point that is a mean
cross_mean : (dx dy fx fy px py sx sy : ℤ) (n : ℕ) → sx ≡ pos n *ℤ px → sy ≡ pos n *ℤ py
    → dx *ℤ (sy -ℤ pos n *ℤ fy) -ℤ dy *ℤ (sx -ℤ pos n *ℤ fx) ≡ pos n *ℤ (dx *ℤ (py -ℤ fy) -ℤ dy *ℤ (px -ℤ fx))
cross_mean dx dy fx fy px py sx sy n e f =
    (λ i. dx *ℤ (f i -ℤ pos n *ℤ fy) -ℤ dy *ℤ (e i -ℤ pos n *ℤ fx))
    ∙ same (is_sub (is_mul (is_z dx) (is_sub (is_mul (is_n n) (is_z py)) (is_mul (is_n n) (is_z fy)))) (is_mul (is_z dy) (is_sub (is_mul (is_n n) (is_z px)) (is_mul (is_n n) (is_z fx)))))
    (is_mul (is_n n) (is_sub (is_mul (is_z dx) (is_sub (is_z py) (is_z fy))) (is_mul (is_z dy) (is_sub (is_z px) (is_z fx))))) (omega arith)

-- a point no further than 0 from a mean is that mean
pub no_further : (a b : ℤ) (n : ℕ) → square_length a b ≤ square (n * 0) → (a ≡ pos 0) × (b ≡ pos 0)
no_further a b n h =
    let first : unsigned_abs a ≤ 0 = le_of_squares (unsigned_abs a) 0 (omega (arith, h)) in
    let second : unsigned_abs b ≤ 0 = le_of_squares (unsigned_abs b) 0 (omega (arith, h)) in
    (omega (arith, ints, first), omega (arith, ints, second))

is_mean : (n : ℕ) (p s : ℤ) → pos n *ℤ p -ℤ s ≡ pos 0 → s ≡ pos n *ℤ p
is_mean n p s e = difference (pos n *ℤ p) s e
  where
    difference : (a b : ℤ) → a -ℤ b ≡ pos 0 → b ≡ a
    difference a b h = omega (arith, ints)

-- a mean of corners to the left of an edge lies to its left
mean_left : (r : GridRounded) (p : GridPoint) → IsNear (corners r) 0 p → (e : Edge) → ((v : GridPoint) → Contains (corners r) v → pos 0 ≤ℤ cross e v) → pos 0 ≤ℤ cross e p
mean_left r p h e left =
    let n = total_weight h.parts in
    let none = no_further (pos n *ℤ p.x -ℤ weighted_sum (λ v. v.x) h.parts) (pos n *ℤ p.y -ℤ weighted_sum (λ v. v.y) h.parts) n h.near in
    let sx = is_mean n p.x (weighted_sum (λ v. v.x) h.parts) none.0 in
    let sy = is_mean n p.y (weighted_sum (λ v. v.y) h.parts) none.1 in
    let sum : weighted_sum (λ v. cross e v) h.parts ≡ pos n *ℤ cross e p =
    cross_sum e h.parts ∙ cross_mean (e.to.x -ℤ e.from.x) (e.to.y -ℤ e.from.y) e.from.x e.from.y p.x p.y (weighted_sum (λ v. v.x) h.parts) (weighted_sum (λ v. v.y) h.parts) n sx sy in
    let above = sum-ge (Contains (corners r)) (λ v. cross e v) (pos 0) left h.parts h.of_points in
    untimes-le n (pos 0) (cross e p) h.some (subst (λ z. (pos n *ℤ pos 0) ≤ℤ z) sum above)

-- what holds of each corner at each edge holds at each edge of each corner
pub at_each : (C : GridPoint → Type 0) (P : Edge → GridPoint → Type 0) (first from : GridPoint) (rest : List GridPoint) → ((v : GridPoint) → C v → EachEdge (λ e. P e v) first from rest) → EachEdge (λ e. (v : GridPoint) → C v → P e v) first from rest
at_each C P first from [] h = h
at_each C P first from (to ∷ rest) h = (λ v c. (h v c).0, at_each C P first to rest (λ v c. (h v c).1))

pub back_to_test : (t : Edge → Bool) (first from : GridPoint) (rest : List GridPoint) → EachEdge (λ e. t e ≡ true) first from rest → list_all t (edges_back first from rest) ≡ true
back_to_test t first from [] h = and_from (t (edge from first)) true h refl
back_to_test t first from (to ∷ rest) h = and_from (t (edge from to)) (list_all t (edges_back first to rest)) h.0 (back_to_test t first to rest h.1)

-- a test by the depth 0 asks for the side alone
pub side_alone : (e : Edge) (p : GridPoint) → pos 0 ≤ℤ cross e p → is_deep_left e 0 p ≡ true
side_alone e p h = and_from (int_le (pos 0) (cross e p)) _ (side (cross e p) h) (nothing (square_edge e) (square (unsigned_abs (cross e p))))
  where
    side : (z : ℤ) → pos 0 ≤ℤ z → int_le (pos 0) z ≡ true
    side z k = sym (true_is_le (pos 0) z (omega (arith, ints)))

    nothing : (s a : ℕ) → nat_le (square 0 * s) a ≡ true
    nothing s a = le-leb (square 0 * s) a (omega arith)

pub all_pass : (t : GridPoint → Bool) (vs : List GridPoint) → list_all t vs ≡ true → All (λ v. t v ≡ true) vs
all_pass t [] h = All-nil (λ v. t v ≡ true)
all_pass t (v ∷ vs) h = let both = and_parts (t v) (list_all t vs) h in All-cons (λ u. t u ≡ true) v vs both.0 (all_pass t vs both.1)

pub polygon_is_left_of_edges : PolygonIsLeftOfEdges
polygon_is_left_of_edges r convex p = (inward, outward)
  where
    inside : (v : GridPoint) → Contains (corners r) v → is_deep_inside r 0 v ≡ true
    inside v c = All-contains (λ u. is_deep_inside r 0 u ≡ true) (corners r) v (all_pass (λ u. is_deep_inside r 0 u) (corners r) convex) c

    left : (v : GridPoint) → Contains (corners r) v → EachEdge (λ e. pos 0 ≤ℤ cross e v) r.first r.first r.others
    left v c =
        map_each (λ e. is_deep_left e 0 v ≡ true) (λ e. pos 0 ≤ℤ cross e v) (λ e h. left_of (cross e v) (and_parts (int_le (pos 0) (cross e v)) (nat_le (square 0 * square_edge e) (square (unsigned_abs (cross e v)))) h).0) r.first r.first r.others
        (each_edge (λ e. is_deep_left e 0 v) r.first r.first r.others (and_parts (has_area r) (is_deep_left_of_all r 0 v) (inside v c)).1)

    inward : IsNear (corners r) 0 p → is_deep_left_of_all r 0 p ≡ true
    inward h =
        back_to_test (λ e. is_deep_left e 0 p) r.first r.first r.others
        (map_each (λ e. (v : GridPoint) → Contains (corners r) v → pos 0 ≤ℤ cross e v) (λ e. is_deep_left e 0 p ≡ true) (λ e all. side_alone e p (mean_left r p h e all)) r.first r.first r.others
        (at_each (Contains (corners r)) (λ e v. pos 0 ≤ℤ cross e v) r.first r.first r.others left))

    outward : is_deep_left_of_all r 0 p ≡ true → IsNear (corners r) 0 p
    outward h = inside_is_near r p (and_from (has_area r) (is_deep_left_of_all r 0 p) (and_parts (has_area r) (is_deep_left_of_all r 0 r.first) (inside r.first (0, omega arith, refl))).0 h)
