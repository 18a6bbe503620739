-- Each point of a rounded polygon lies in the polygon, no further than the radius from a corner, or beside an edge. Some mean of
-- corners is no further from the point than the radius, and lies to the right of no edge. Where the point lies to the right of some
-- edge, the way from it to the mean comes into the polygon at an edge, and what it meets there is no further from the point.
use Rattle.std.proofs.Common.{◌≡◌, ℕ, zero, suc, ℤ, pos, negsuc, ◌+◌, ◌-◌, ◌*◌, ◌≤◌, ◌<◌, ◌+ℤ◌, ◌-ℤ◌, ◌*ℤ◌, ◌≤ℤ◌, ◌<ℤ◌, unsigned_abs, Bool, true, false, List, [], ◌∷◌, refl, sym, ap, subst, ◌∙◌, ◌⊎◌, inl, inr, arith}
use Rattle.std.specs.Prelude.{not, ◌&&◌, ◌||◌, nat_le, int_le, int_lt}
use Rattle.std.specs.List.{All, Contains, list_any}
use Rattle.std.specs.Ordering.{int_eq}
use Rattle.std.proofs.lemmas.Bool.{and_parts, and_from, or_left, or_right, or_cases, le-leb, leb-true, cases_lt, not-true, false≢true}
use Rattle.std.proofs.lemmas.Bool.Decides.{Decides-int_eq}
use Rattle.std.proofs.lemmas.Int.{ints, by_lt_z, unsigned_abs-mul}
use Rattle.std.proofs.lemmas.List.Elements.{All-nil, All-cons, All-head, All-tail, All-contains, All-contains_itself}
use Rattle.std.proofs.lemmas.Nat.{mul-le}
use borrow.Author.Differences.{true_is_lt}
use Rattle.grid_units.specs.Laws.{square_length}
use Rattle.grid_units.specs.Points.{GridPoint, square, square_distance}
use Rattle.grid_units.proofs.ListLemmas.{list_any_element}
use Rattle.grid_units.proofs.TriangleInequalities.{triangle_inequality, square_distance_comm}
use Rattle.pad_shapes.specs.Rounded.{GridRounded, WeightedPoint, total_weight, weighted_sum, IsInRounded, corners, Edge, edges, edges_back, cross, along, square_edge, is_deep_left, is_deep_left_of_all, has_area, is_deep_inside, is_near_corner, is_beside, is_beside_some, is_near_rim, is_convex, is_outline, rounded_covers, PointsAreCovered}
use Rattle.pad_shapes.proofs.EdgesLemmas.{one-le-square}
use Rattle.pad_shapes.specs.Inner.Identities.{is_z, is_n, is_add, is_sub, is_mul, same, of_natural, square_is, pos_injective, scaled-le, cancel, times-le, untimes-le, length_is, area-le}
use Rattle.pad_shapes.specs.Inner.Means.{length_same}
use Rattle.pad_shapes.specs.Inner.Fan.{edge, turn, EachEdge, SomeEdge, each_edge, map_each, map_some, edge_and_ends, turned_back, no_area}
use Rattle.pad_shapes.specs.Inner.RoundedLaws.{sum-ge, sum-le, left_of, rounded_contains_covered, no_distance}
use Rattle.pad_shapes.specs.Inner.RoundedSets.{one_corner_is_disc, cross_sum, no_further, at_each, back_to_test, side_alone, all_pass}

-- ---- two steps, seen from a third one

-- how far a point, of which k times it is (x, y), lies along an edge from its start, times k and the edge's length
abbrev ahead : Edge → ℕ → ℤ → ℤ → ℤ
ahead e k x y = (e.to.x -ℤ e.from.x) *ℤ (x -ℤ pos k *ℤ e.from.x) +ℤ (e.to.y -ℤ e.from.y) *ℤ (y -ℤ pos k *ℤ e.from.y)

area_by : (a b ux uy vx vy : ℤ)
    → (a *ℤ a +ℤ b *ℤ b) *ℤ (ux *ℤ vy -ℤ uy *ℤ vx) ≡ (a *ℤ ux +ℤ b *ℤ uy) *ℤ (a *ℤ vy -ℤ b *ℤ vx) -ℤ (a *ℤ vx +ℤ b *ℤ vy) *ℤ (a *ℤ uy -ℤ b *ℤ ux)
area_by a b ux uy vx vy =
    same
    (is_mul (is_add (is_mul (is_z a) (is_z a)) (is_mul (is_z b) (is_z b))) (is_sub (is_mul (is_z ux) (is_z vy)) (is_mul (is_z uy) (is_z vx))))
    (is_sub
    (is_mul (is_add (is_mul (is_z a) (is_z ux)) (is_mul (is_z b) (is_z uy))) (is_sub (is_mul (is_z a) (is_z vy)) (is_mul (is_z b) (is_z vx))))
    (is_mul (is_add (is_mul (is_z a) (is_z vx)) (is_mul (is_z b) (is_z vy))) (is_sub (is_mul (is_z a) (is_z uy)) (is_mul (is_z b) (is_z ux)))))
    (omega arith)

inner_by : (a b ux uy vx vy : ℤ)
    → (a *ℤ a +ℤ b *ℤ b) *ℤ (ux *ℤ vx +ℤ uy *ℤ vy) ≡ (a *ℤ ux +ℤ b *ℤ uy) *ℤ (a *ℤ vx +ℤ b *ℤ vy) +ℤ (a *ℤ uy -ℤ b *ℤ ux) *ℤ (a *ℤ vy -ℤ b *ℤ vx)
inner_by a b ux uy vx vy =
    same
    (is_mul (is_add (is_mul (is_z a) (is_z a)) (is_mul (is_z b) (is_z b))) (is_add (is_mul (is_z ux) (is_z vx)) (is_mul (is_z uy) (is_z vy))))
    (is_add
    (is_mul (is_add (is_mul (is_z a) (is_z ux)) (is_mul (is_z b) (is_z uy))) (is_add (is_mul (is_z a) (is_z vx)) (is_mul (is_z b) (is_z vy))))
    (is_mul (is_sub (is_mul (is_z a) (is_z uy)) (is_mul (is_z b) (is_z ux))) (is_sub (is_mul (is_z a) (is_z vy)) (is_mul (is_z b) (is_z vx)))))
    (omega arith)

pub no_times : (z : ℤ) → pos 0 *ℤ z ≡ pos 0
no_times z = same (is_mul (is_n 0) (is_z z)) (is_n 0) (omega arith)

pub times_no : (z : ℤ) → z *ℤ pos 0 ≡ pos 0
times_no z = same (is_mul (is_z z) (is_n 0)) (is_n 0) (omega arith)

less_0 : (z : ℤ) → z -ℤ pos 0 ≡ z
less_0 z = omega (arith, ints)

and_0 : (z : ℤ) → z +ℤ pos 0 ≡ z
and_0 z = omega (arith, ints)

-- a number is 0, above 0 or below 0 where it is so times a number above 0
nothing_of : (s : ℕ) (z : ℤ) → 1 ≤ s → pos s *ℤ z ≡ pos 0 → z ≡ pos 0
nothing_of s z some e = both z (untimes-le s z (pos 0) some (low (pos s *ℤ z) (pos s *ℤ pos 0) e (times_no (pos s)))) (untimes-le s (pos 0) z some (high (pos s *ℤ z) (pos s *ℤ pos 0) e (times_no (pos s))))
  where
    low : (a b : ℤ) → a ≡ pos 0 → b ≡ pos 0 → a ≤ℤ b
    low a b e f = omega (arith, ints)

    high : (a b : ℤ) → a ≡ pos 0 → b ≡ pos 0 → b ≤ℤ a
    high a b e f = omega (arith, ints)

    both : (a : ℤ) → a ≤ℤ pos 0 → pos 0 ≤ℤ a → a ≡ pos 0
    both a h k = omega (arith, ints)

pub at_most_0 : (s : ℕ) (z : ℤ) → 1 ≤ s → (pos s *ℤ z) ≤ℤ pos 0 → z ≤ℤ pos 0
at_most_0 s z some h = untimes-le s z (pos 0) some (subst (λ t. (pos s *ℤ z) ≤ℤ t) (sym (times_no (pos s))) h)

pub at_least_0 : (s : ℕ) (z : ℤ) → 1 ≤ s → pos 0 ≤ℤ (pos s *ℤ z) → pos 0 ≤ℤ z
at_least_0 s z some h = untimes-le s (pos 0) z some (subst (λ t. t ≤ℤ (pos s *ℤ z)) (sym (times_no (pos s))) h)

-- ---- a point near a line

opened : (k : ℕ) (ux uy wx wy : ℤ)
    → (pos k *ℤ ux -ℤ wx) *ℤ (pos k *ℤ ux -ℤ wx) +ℤ (pos k *ℤ uy -ℤ wy) *ℤ (pos k *ℤ uy -ℤ wy)
    ≡ (pos (k * k) *ℤ (ux *ℤ ux +ℤ uy *ℤ uy) +ℤ (wx *ℤ wx +ℤ wy *ℤ wy)) -ℤ pos (2 * k) *ℤ (wx *ℤ ux +ℤ wy *ℤ uy)
opened k ux uy wx wy =
    let x = is_sub (is_mul (is_n k) (is_z ux)) (is_z wx) in
    let y = is_sub (is_mul (is_n k) (is_z uy)) (is_z wy) in
    same (is_add (is_mul x x) (is_mul y y))
    (is_sub
    (is_add (is_mul (is_n (k * k)) (is_add (is_mul (is_z ux) (is_z ux)) (is_mul (is_z uy) (is_z uy)))) (is_add (is_mul (is_z wx) (is_z wx)) (is_mul (is_z wy) (is_z wy))))
    (is_mul (is_n (2 * k)) (is_add (is_mul (is_z wx) (is_z ux)) (is_mul (is_z wy) (is_z uy)))))
    (omega arith)

longer : (v u w k : ℕ) (i : ℤ) → pos v ≡ (pos (k * k) *ℤ pos u +ℤ pos w) -ℤ pos (2 * k) *ℤ i → i ≤ℤ pos 0 → (k * k) * u ≤ v
longer v u w k i e h = let less = times-le (2 * k) i (pos 0) h in omega (arith, ints, e, less)

behind_times : (n : ℕ) (l : ℤ) → l ≤ℤ pos 0 → (pos n *ℤ l) ≤ℤ pos 0
behind_times n l h = subst (λ t. (pos n *ℤ l) ≤ℤ t) (times_no (pos n)) (times-le n l (pos 0) h)

ahead_times : (n : ℕ) (l : ℤ) → pos 0 ≤ℤ l → pos 0 ≤ℤ (pos n *ℤ l)
ahead_times n l h = subst (λ t. t ≤ℤ (pos n *ℤ l)) (times_no (pos n)) (times-le n (pos 0) l h)

-- the inner product of a step ahead on a line and a step that goes back along it
not_ahead : (s : ℕ) (i h l z c : ℤ) → 1 ≤ s → pos s *ℤ i ≡ h *ℤ l +ℤ z *ℤ c → z ≡ pos 0 → pos 0 ≤ℤ h → l ≤ℤ pos 0 → i ≤ℤ pos 0
not_ahead s i (pos n) l z c some e level after behind =
    at_most_0 s i some (subst (λ t. t ≤ℤ pos 0) (sym (e ∙ (λ j. pos n *ℤ l +ℤ level j *ℤ c) ∙ (λ j. pos n *ℤ l +ℤ no_times c j) ∙ and_0 (pos n *ℤ l))) (behind_times n l behind))
not_ahead s i (negsuc n) l z c some e level after behind = absurd (omega (arith, ints))

-- a point behind the start of a line is no further from the start than from a point of the line
near_end : (s k radius : ℕ) (a b ux uy wx wy : ℤ) → 1 ≤ s → 1 ≤ k → a *ℤ a +ℤ b *ℤ b ≡ pos s → a *ℤ wy -ℤ b *ℤ wx ≡ pos 0 → pos 0 ≤ℤ (a *ℤ wx +ℤ b *ℤ wy) → (a *ℤ ux +ℤ b *ℤ uy) ≤ℤ pos 0
    → square_length (pos k *ℤ ux -ℤ wx) (pos k *ℤ uy -ℤ wy) ≤ square (k * radius) → square_length ux uy ≤ square radius
near_end s k radius a b ux uy wx wy some one long level after behind near =
    let i = wx *ℤ ux +ℤ wy *ℤ uy in
    let by : pos s *ℤ i ≡ (a *ℤ wx +ℤ b *ℤ wy) *ℤ (a *ℤ ux +ℤ b *ℤ uy) +ℤ (a *ℤ wy -ℤ b *ℤ wx) *ℤ (a *ℤ uy -ℤ b *ℤ ux) =
    ap (λ z. z *ℤ i) (sym long) ∙ inner_by a b wx wy ux uy in
    let inner = not_ahead s i (a *ℤ wx +ℤ b *ℤ wy) (a *ℤ ux +ℤ b *ℤ uy) (a *ℤ wy -ℤ b *ℤ wx) (a *ℤ uy -ℤ b *ℤ ux) some by level after behind in
    let whole : pos (square_length (pos k *ℤ ux -ℤ wx) (pos k *ℤ uy -ℤ wy)) ≡ (pos (k * k) *ℤ pos (square_length ux uy) +ℤ pos (square_length wx wy)) -ℤ pos (2 * k) *ℤ i =
    sym (length_is (pos k *ℤ ux -ℤ wx) (pos k *ℤ uy -ℤ wy)) ∙ opened k ux uy wx wy ∙ (λ j. (pos (k * k) *ℤ length_is ux uy j +ℤ length_is wx wy j) -ℤ pos (2 * k) *ℤ i) in
    let more = longer (square_length (pos k *ℤ ux -ℤ wx) (pos k *ℤ uy -ℤ wy)) (square_length ux uy) (square_length wx wy) k i whole inner in
    shorter (square_length ux uy) (square_length (pos k *ℤ ux -ℤ wx) (pos k *ℤ uy -ℤ wy)) more near
  where
    shorter : (u v : ℕ) → (k * k) * u ≤ v → v ≤ square (k * radius) → u ≤ square radius
    shorter u v h l = cancel (k * k) u (radius * radius) (one-le-square k one) (omega (arith, h, l))

apart_area : (k : ℕ) (a b ux uy wx wy : ℤ) → a *ℤ (pos k *ℤ uy -ℤ wy) -ℤ b *ℤ (pos k *ℤ ux -ℤ wx) ≡ pos k *ℤ (a *ℤ uy -ℤ b *ℤ ux) -ℤ (a *ℤ wy -ℤ b *ℤ wx)
apart_area k a b ux uy wx wy =
    same (is_sub (is_mul (is_z a) (is_sub (is_mul (is_n k) (is_z uy)) (is_z wy))) (is_mul (is_z b) (is_sub (is_mul (is_n k) (is_z ux)) (is_z wx))))
    (is_sub (is_mul (is_n k) (is_sub (is_mul (is_z a) (is_z uy)) (is_mul (is_z b) (is_z ux)))) (is_sub (is_mul (is_z a) (is_z wy)) (is_mul (is_z b) (is_z wx)))) (omega arith)

-- a point is no further from a line than from a point of the line
near_line : (k radius : ℕ) (a b ux uy wx wy : ℤ) → 1 ≤ k → a *ℤ wy -ℤ b *ℤ wx ≡ pos 0 → square_length (pos k *ℤ ux -ℤ wx) (pos k *ℤ uy -ℤ wy) ≤ square (k * radius)
    → square (unsigned_abs (a *ℤ uy -ℤ b *ℤ ux)) ≤ square radius * square_length a b
near_line k radius a b ux uy wx wy one level near =
    let c = a *ℤ uy -ℤ b *ℤ ux in
    let whole : a *ℤ (pos k *ℤ uy -ℤ wy) -ℤ b *ℤ (pos k *ℤ ux -ℤ wx) ≡ pos k *ℤ c = apart_area k a b ux uy wx wy ∙ ap (λ z. pos k *ℤ c -ℤ z) level ∙ less_0 (pos k *ℤ c) in
    let e : unsigned_abs (a *ℤ (pos k *ℤ uy -ℤ wy) -ℤ b *ℤ (pos k *ℤ ux -ℤ wx)) ≡ k * unsigned_abs c = ap unsigned_abs whole ∙ unsigned_abs-mul (pos k) c in
    narrower (unsigned_abs c) (square_length a b) (subst (λ t. square t ≤ square_length a b * square (k * radius)) e (area-le a b (pos k *ℤ ux -ℤ wx) (pos k *ℤ uy -ℤ wy) (k * radius) near))
  where
    narrower : (c s : ℕ) → square (k * c) ≤ s * square (k * radius) → square c ≤ square radius * s
    narrower c s h = cancel (k * k) (c * c) ((radius * radius) * s) (one-le-square k one) (omega (arith, h))

-- ---- a point of an edge

-- k times some point is (x, y), and that point lies on an edge, between its ends
record IsOn (e : Edge) (k : ℕ) (x y : ℤ) : Type 0 where
  some : 1 ≤ square_edge e
  level : turn e k x y ≡ pos 0
  after : pos 0 ≤ℤ ahead e k x y
  before : ahead e k x y ≤ℤ pos (k * square_edge e)

step_to : (k : ℕ) (p a x : ℤ) → pos k *ℤ (p -ℤ a) -ℤ (x -ℤ pos k *ℤ a) ≡ pos k *ℤ p -ℤ x
step_to k p a x = same (is_sub (is_mul (is_n k) (is_sub (is_z p) (is_z a))) (is_sub (is_z x) (is_mul (is_n k) (is_z a)))) (is_sub (is_mul (is_n k) (is_z p)) (is_z x)) (omega arith)

-- the point of the way is no further than the radius
abbrev IsWithin : ℕ → GridPoint → ℕ → ℤ → ℤ → Type 0
IsWithin radius p k x y = square_length (pos k *ℤ p.x -ℤ x) (pos k *ℤ p.y -ℤ y) ≤ square (k * radius)

near_from : (e : Edge) (k : ℕ) (x y : ℤ) (radius : ℕ) (p : GridPoint) → 1 ≤ k → IsOn e k x y → IsWithin radius p k x y → along e p ≤ℤ pos 0 → square_distance p e.from ≤ square radius
near_from e k x y radius p one on near behind =
    near_end (square_edge e) k radius (e.to.x -ℤ e.from.x) (e.to.y -ℤ e.from.y) (p.x -ℤ e.from.x) (p.y -ℤ e.from.y) (x -ℤ pos k *ℤ e.from.x) (y -ℤ pos k *ℤ e.from.y)
    on.some one (length_is (e.to.x -ℤ e.from.x) (e.to.y -ℤ e.from.y)) on.level on.after behind
    (length_same _ _ _ _ (k * radius) (k * radius) (step_to k p.x e.from.x x) (step_to k p.y e.from.y y) refl near)

ahead_back_z : (ax ay bx by x y : ℤ) (k : ℕ)
    → ((bx -ℤ ax) *ℤ (x -ℤ pos k *ℤ ax) +ℤ (by -ℤ ay) *ℤ (y -ℤ pos k *ℤ ay)) +ℤ ((ax -ℤ bx) *ℤ (x -ℤ pos k *ℤ bx) +ℤ (ay -ℤ by) *ℤ (y -ℤ pos k *ℤ by))
    ≡ pos k *ℤ ((bx -ℤ ax) *ℤ (bx -ℤ ax) +ℤ (by -ℤ ay) *ℤ (by -ℤ ay))
ahead_back_z ax ay bx by x y k =
    same
    (is_add
    (is_add (is_mul (is_sub (is_z bx) (is_z ax)) (is_sub (is_z x) (is_mul (is_n k) (is_z ax)))) (is_mul (is_sub (is_z by) (is_z ay)) (is_sub (is_z y) (is_mul (is_n k) (is_z ay)))))
    (is_add (is_mul (is_sub (is_z ax) (is_z bx)) (is_sub (is_z x) (is_mul (is_n k) (is_z bx)))) (is_mul (is_sub (is_z ay) (is_z by)) (is_sub (is_z y) (is_mul (is_n k) (is_z by))))))
    (is_mul (is_n k) (is_add (is_mul (is_sub (is_z bx) (is_z ax)) (is_sub (is_z bx) (is_z ax))) (is_mul (is_sub (is_z by) (is_z ay)) (is_sub (is_z by) (is_z ay)))))
    (omega arith)

pub along_back_z : (ax ay bx by x y : ℤ)
    → ((bx -ℤ ax) *ℤ (x -ℤ ax) +ℤ (by -ℤ ay) *ℤ (y -ℤ ay)) +ℤ ((ax -ℤ bx) *ℤ (x -ℤ bx) +ℤ (ay -ℤ by) *ℤ (y -ℤ by))
    ≡ (bx -ℤ ax) *ℤ (bx -ℤ ax) +ℤ (by -ℤ ay) *ℤ (by -ℤ ay)
along_back_z ax ay bx by x y =
    same
    (is_add
    (is_add (is_mul (is_sub (is_z bx) (is_z ax)) (is_sub (is_z x) (is_z ax))) (is_mul (is_sub (is_z by) (is_z ay)) (is_sub (is_z y) (is_z ay))))
    (is_add (is_mul (is_sub (is_z ax) (is_z bx)) (is_sub (is_z x) (is_z bx))) (is_mul (is_sub (is_z ay) (is_z by)) (is_sub (is_z y) (is_z by)))))
    (is_add (is_mul (is_sub (is_z bx) (is_z ax)) (is_sub (is_z bx) (is_z ax))) (is_mul (is_sub (is_z by) (is_z ay)) (is_sub (is_z by) (is_z ay))))
    (omega arith)

-- an edge and its way back
ahead_back : (a b : GridPoint) (k : ℕ) (x y : ℤ) → ahead (edge a b) k x y +ℤ ahead (edge b a) k x y ≡ pos (k * square_edge (edge a b))
ahead_back a b k x y = ahead_back_z a.x a.y b.x b.y x y k ∙ ap (λ z. pos k *ℤ z) (length_is (b.x -ℤ a.x) (b.y -ℤ a.y))

along_back : (a b p : GridPoint) → along (edge a b) p +ℤ along (edge b a) p ≡ pos (square_edge (edge a b))
along_back a b p = along_back_z a.x a.y b.x b.y p.x p.y ∙ length_is (b.x -ℤ a.x) (b.y -ℤ a.y)

on_back : (a b : GridPoint) (k : ℕ) (x y : ℤ) → IsOn (edge a b) k x y → IsOn (edge b a) k x y
on_back a b k x y on =
    let s = square_distance_comm b a in record {
      some = subst (λ n. 1 ≤ n) s on.some;
      level = rest_0 (turn (edge a b) k x y) (turn (edge b a) k x y) (turned_back a b k x y) on.level;
      after = rest_above (ahead (edge a b) k x y) (ahead (edge b a) k x y) (k * square_edge (edge a b)) (ahead_back a b k x y) on.before;
      before = subst (λ n. ahead (edge b a) k x y ≤ℤ pos (k * n)) s (rest_below (ahead (edge a b) k x y) (ahead (edge b a) k x y) (k * square_edge (edge a b)) (ahead_back a b k x y) on.after);
    }
  where
    rest_0 : (u t : ℤ) → u +ℤ t ≡ pos 0 → u ≡ pos 0 → t ≡ pos 0
    rest_0 u t e f = omega (arith, ints)

    rest_above : (u t : ℤ) (n : ℕ) → u +ℤ t ≡ pos n → u ≤ℤ pos n → pos 0 ≤ℤ t
    rest_above u t n e h = omega (arith, ints)

    rest_below : (u t : ℤ) (n : ℕ) → u +ℤ t ≡ pos n → pos 0 ≤ℤ u → t ≤ℤ pos n
    rest_below u t n e h = omega (arith, ints)

-- no further than the radius from an end of the edge, or beside it
abbrev IsNearEdge : ℕ → GridPoint → Edge → Type 0
IsNearEdge radius p e = (square_distance p e.from ≤ square radius) ⊎ ((square_distance p e.to ≤ square radius) ⊎ (is_beside e radius p ≡ true))

near_edge : (e : Edge) (k : ℕ) (x y : ℤ) (radius : ℕ) (p : GridPoint) → 1 ≤ k → IsOn e k x y → IsWithin radius p k x y → IsNearEdge radius p e
near_edge e k x y radius p one on near =
    by_lt_z (pos 0) (along e p)
    (λ after. by_lt_z (along e p) (pos (square_edge e))
    (λ before. inr (inr (beside after before)))
    (λ past. inr (inl (near_from (edge e.to e.from) k x y radius p one (on_back e.from e.to k x y on) near (gone_back (along e p) (along (edge e.to e.from) p) (square_edge e) (along_back e.from e.to p) past)))))
    (λ behind. inl (near_from e k x y radius p one on near behind))
  where
    gone_back : (u t : ℤ) (n : ℕ) → u +ℤ t ≡ pos n → pos n ≤ℤ u → t ≤ℤ pos 0
    gone_back u t n e h = omega (arith, ints)

    is_less : (a b : ℤ) → a <ℤ b → int_lt a b ≡ true
    is_less a b h = sym (true_is_lt a b (omega (arith, ints)))

    line : square (unsigned_abs (cross e p)) ≤ square radius * square_edge e
    line = near_line k radius (e.to.x -ℤ e.from.x) (e.to.y -ℤ e.from.y) (p.x -ℤ e.from.x) (p.y -ℤ e.from.y) (x -ℤ pos k *ℤ e.from.x) (y -ℤ pos k *ℤ e.from.y) one on.level
        (length_same _ _ _ _ (k * radius) (k * radius) (step_to k p.x e.from.x x) (step_to k p.y e.from.y y) refl near)

    beside : pos 0 <ℤ along e p → along e p <ℤ pos (square_edge e) → is_beside e radius p ≡ true
    beside after before =
        and_from (int_lt (pos 0) (along e p) && int_lt (along e p) (pos (square_edge e))) (nat_le (square (unsigned_abs (cross e p))) (square radius * square_edge e))
        (and_from (int_lt (pos 0) (along e p)) (int_lt (along e p) (pos (square_edge e))) (is_less (pos 0) (along e p) after) (is_less (along e p) (pos (square_edge e)) before))
        (le-leb (square (unsigned_abs (cross e p))) (square radius * square_edge e) line)

-- ---- where the way meets an edge

-- what an edge that turns left at a corner says of a point to its left that lies on the line of the edge before it, past that corner
turns_left : (s k : ℕ) (m h x t u : ℤ) (n : ℕ) → 1 ≤ s → pos s *ℤ t ≡ pos 0 -ℤ h *ℤ x → pos s *ℤ u ≡ m *ℤ h → pos s *ℤ pos n ≡ m *ℤ m +ℤ x *ℤ x → pos 0 ≤ℤ h → pos 0 <ℤ x → pos 0 ≤ℤ t
    → (1 ≤ n) × (t ≡ pos 0) × (pos 0 ≤ℤ u) × (u ≤ℤ pos (k * n))
turns_left s k m (negsuc a) x t u n some e f g after left side = absurd (omega (arith, ints))
turns_left s k m (pos a) (negsuc b) t u n some e f g after left side = absurd (omega (arith, ints))
turns_left s k m (pos a) (pos b) t u n some e f g after left side =
    let one : 1 ≤ b = omega (arith, ints) in
    let none : a * b ≤ 0 = no_product (pos s *ℤ t) (a * b) e (ahead_times s t side) in
    let a_1 : a * 1 ≤ a * b = mul-le a 1 a b (omega arith) one in
    let a_0 : a ≡ 0 = omega (arith, a_1, none) in
    let t_0 : t ≡ pos 0 = nothing_of s t some (e ∙ no_loss (a * b) none) in
    let u_0 : u ≡ pos 0 = nothing_of s u some (f ∙ ap (λ z. m *ℤ pos z) a_0 ∙ times_no m) in
    (long (square (unsigned_abs m)) (g ∙ ap (λ z. z +ℤ pos (b * b)) (square_is m)) (one-le-square b one), t_0, above u u_0, below u (k * n) u_0)
  where
    no_loss : (c : ℕ) → c ≤ 0 → pos 0 -ℤ pos c ≡ pos 0
    no_loss c h = omega (arith, ints)

    no_product : (z : ℤ) (c : ℕ) → z ≡ pos 0 -ℤ pos c → pos 0 ≤ℤ z → c ≤ 0
    no_product z c e h = omega (arith, ints)

    long : (q : ℕ) → pos (s * n) ≡ pos (q + b * b) → 1 ≤ b * b → 1 ≤ n
    long q e h = elim (cases_lt 0 n) [
      | inl more ↦ more
      | inr none ↦ let z : n ≡ 0 = omega (arith, none) in absurd (omega (arith, ap (λ k. s * k) z, pos_injective (s * n) (q + b * b) e, h))
    ]

    above : (z : ℤ) → z ≡ pos 0 → pos 0 ≤ℤ z
    above z e = omega (arith, ints)

    below : (z : ℤ) (c : ℕ) → z ≡ pos 0 → z ≤ℤ pos c
    below z c e = omega (arith, ints)

-- what an edge that goes on along the line says of a point of the line before its end
goes_on : (s k : ℕ) (m h t u : ℤ) (n : ℕ) → 1 ≤ s → pos s *ℤ t ≡ pos 0 -ℤ h *ℤ pos 0 → pos s *ℤ u ≡ m *ℤ h → pos s *ℤ pos n ≡ m *ℤ m +ℤ pos 0 *ℤ pos 0 → pos 0 ≤ℤ h → h <ℤ (pos k *ℤ m)
    → (1 ≤ n) × (t ≡ pos 0) × (pos 0 ≤ℤ u) × (u ≤ℤ pos (k * n))
goes_on s k m (negsuc a) t u n some e f g after before = absurd (omega (arith, ints))
goes_on s k (negsuc b) (pos a) t u n some e f g after before = absurd (never a (pos k *ℤ negsuc b) before (behind_times k (negsuc b) (omega (arith, ints))))
  where
    never : (a : ℕ) (z : ℤ) → pos a <ℤ z → z ≤ℤ pos 0 → ⊥
    never a z h l = omega (arith, ints)
goes_on s k (pos b) (pos a) t u n some e f g after before =
    let less : a < k * b = omega (arith, ints) in
    let t_0 : t ≡ pos 0 = nothing_of s t some (e ∙ ap (λ z. pos 0 -ℤ z) (times_no (pos a))) in
    let squares : s * n ≡ b * b = pos_injective (s * n) (b * b) (g ∙ ap pos (omega arith)) in (
      long less squares,
      t_0,
      at_least_0 s u some (subst (λ z. pos 0 ≤ℤ z) (sym f) (natural (b * a))),
      untimes-le s u (pos (k * n)) some (subst (λ z. z ≤ℤ pos (s * (k * n))) (sym f) (ordered (b * a) (s * (k * n)) (short less squares))),
    )
  where
    natural : (c : ℕ) → pos 0 ≤ℤ pos c
    natural c = omega (arith, ints)

    ordered : (c d : ℕ) → c ≤ d → pos c ≤ℤ pos d
    ordered c d h = omega (arith, ints)

    short : a < k * b → s * n ≡ b * b → b * a ≤ s * (k * n)
    short h e = let p : b * a ≤ b * (k * b) = mul-le b a b (k * b) (omega arith) (omega (arith, h)) in omega (arith, p, ap (λ z. k * z) e)

    some_b : a < k * b → 1 ≤ b
    some_b h = elim (cases_lt 0 b) [
      | inl more ↦ more
      | inr none ↦ let z : b ≡ 0 = omega (arith, none) in absurd (omega (arith, h, ap (λ c. k * c) z))
    ]

    long : a < k * b → s * n ≡ b * b → 1 ≤ n
    long h e = elim (cases_lt 0 n) [
      | inl more ↦ more
      | inr none ↦ let z : n ≡ 0 = omega (arith, none) in absurd (omega (arith, ap (λ c. s * c) z, e, one-le-square b (some_b h)))
    ]

meets_by : (s k : ℕ) (m h x t u : ℤ) (n : ℕ) → 1 ≤ s → pos s *ℤ t ≡ pos 0 -ℤ h *ℤ x → pos s *ℤ u ≡ m *ℤ h → pos s *ℤ pos n ≡ m *ℤ m +ℤ x *ℤ x → pos 0 ≤ℤ h → pos 0 ≤ℤ x → pos 0 ≤ℤ t → (pos 0 <ℤ x) ⊎ (h <ℤ (pos k *ℤ m))
    → (1 ≤ n) × (t ≡ pos 0) × (pos 0 ≤ℤ u) × (u ≤ℤ pos (k * n))
meets_by s k m h x t u n some e f g after left side (inl turns) = turns_left s k m h x t u n some e f g after turns side
meets_by s k m h x t u n some e f g after left side (inr on) =
    by_lt_z (pos 0) x (λ turns. turns_left s k m h x t u n some e f g after turns side)
    (λ none. let x_0 : x ≡ pos 0 = flat x left none in
    goes_on s k m h t u n some (e ∙ ap (λ z. pos 0 -ℤ h *ℤ z) x_0) f (g ∙ ap (λ z. m *ℤ m +ℤ z *ℤ z) x_0) after on)
  where
    flat : (z : ℤ) → pos 0 ≤ℤ z → z ≤ℤ pos 0 → z ≡ pos 0
    flat z h l = omega (arith, ints)

-- what a line says of two steps, of which the second goes along it
seen : (s : ℕ) (a b ux uy wx wy : ℤ) → a *ℤ a +ℤ b *ℤ b ≡ pos s → a *ℤ wy -ℤ b *ℤ wx ≡ pos 0
    → (pos s *ℤ (ux *ℤ wy -ℤ uy *ℤ wx) ≡ pos 0 -ℤ (a *ℤ wx +ℤ b *ℤ wy) *ℤ (a *ℤ uy -ℤ b *ℤ ux))
    × (pos s *ℤ (ux *ℤ wx +ℤ uy *ℤ wy) ≡ (a *ℤ ux +ℤ b *ℤ uy) *ℤ (a *ℤ wx +ℤ b *ℤ wy))
    × (pos s *ℤ pos (square_length ux uy) ≡ (a *ℤ ux +ℤ b *ℤ uy) *ℤ (a *ℤ ux +ℤ b *ℤ uy) +ℤ (a *ℤ uy -ℤ b *ℤ ux) *ℤ (a *ℤ uy -ℤ b *ℤ ux))
seen s a b ux uy wx wy long level =
    let m = a *ℤ ux +ℤ b *ℤ uy in
    let h = a *ℤ wx +ℤ b *ℤ wy in
    let x = a *ℤ uy -ℤ b *ℤ ux in (
      ap (λ z. z *ℤ (ux *ℤ wy -ℤ uy *ℤ wx)) (sym long) ∙ area_by a b ux uy wx wy ∙ (λ i. m *ℤ level i -ℤ h *ℤ x) ∙ (λ i. times_no m i -ℤ h *ℤ x),
      ap (λ z. z *ℤ (ux *ℤ wx +ℤ uy *ℤ wy)) (sym long) ∙ inner_by a b ux uy wx wy ∙ (λ i. m *ℤ h +ℤ x *ℤ level i) ∙ (λ i. m *ℤ h +ℤ times_no x i) ∙ and_0 (m *ℤ h),
      (λ i. sym long i *ℤ sym (length_is ux uy) i) ∙ inner_by a b ux uy ux uy,
    )

cross_step : (u v ax ay cx cy dx dy : ℤ) → u *ℤ (dy -ℤ cy) -ℤ v *ℤ (dx -ℤ cx) ≡ (u *ℤ (dy -ℤ ay) -ℤ v *ℤ (dx -ℤ ax)) -ℤ (u *ℤ (cy -ℤ ay) -ℤ v *ℤ (cx -ℤ ax))
cross_step u v ax ay cx cy dx dy =
    same (is_sub (is_mul (is_z u) (is_sub (is_z dy) (is_z cy))) (is_mul (is_z v) (is_sub (is_z dx) (is_z cx))))
    (is_sub (is_sub (is_mul (is_z u) (is_sub (is_z dy) (is_z ay))) (is_mul (is_z v) (is_sub (is_z dx) (is_z ax)))) (is_sub (is_mul (is_z u) (is_sub (is_z cy) (is_z ay))) (is_mul (is_z v) (is_sub (is_z cx) (is_z ax))))) (omega arith)

along_step : (u v ax ay cx cy dx dy : ℤ) → u *ℤ (dx -ℤ cx) +ℤ v *ℤ (dy -ℤ cy) ≡ (u *ℤ (dx -ℤ ax) +ℤ v *ℤ (dy -ℤ ay)) -ℤ (u *ℤ (cx -ℤ ax) +ℤ v *ℤ (cy -ℤ ay))
along_step u v ax ay cx cy dx dy =
    same (is_add (is_mul (is_z u) (is_sub (is_z dx) (is_z cx))) (is_mul (is_z v) (is_sub (is_z dy) (is_z cy))))
    (is_sub (is_add (is_mul (is_z u) (is_sub (is_z dx) (is_z ax))) (is_mul (is_z v) (is_sub (is_z dy) (is_z ay)))) (is_add (is_mul (is_z u) (is_sub (is_z cx) (is_z ax))) (is_mul (is_z v) (is_sub (is_z cy) (is_z ay))))) (omega arith)

turn_step : (u v ax ay cx cy x y : ℤ) (k : ℕ) → u *ℤ (y -ℤ pos k *ℤ cy) -ℤ v *ℤ (x -ℤ pos k *ℤ cx) ≡ (u *ℤ (y -ℤ pos k *ℤ ay) -ℤ v *ℤ (x -ℤ pos k *ℤ ax)) -ℤ pos k *ℤ (u *ℤ (cy -ℤ ay) -ℤ v *ℤ (cx -ℤ ax))
turn_step u v ax ay cx cy x y k =
    same (is_sub (is_mul (is_z u) (is_sub (is_z y) (is_mul (is_n k) (is_z cy)))) (is_mul (is_z v) (is_sub (is_z x) (is_mul (is_n k) (is_z cx)))))
    (is_sub (is_sub (is_mul (is_z u) (is_sub (is_z y) (is_mul (is_n k) (is_z ay)))) (is_mul (is_z v) (is_sub (is_z x) (is_mul (is_n k) (is_z ax))))) (is_mul (is_n k) (is_sub (is_mul (is_z u) (is_sub (is_z cy) (is_z ay))) (is_mul (is_z v) (is_sub (is_z cx) (is_z ax)))))) (omega arith)

ahead_step : (u v ax ay cx cy x y : ℤ) (k : ℕ) → u *ℤ (x -ℤ pos k *ℤ cx) +ℤ v *ℤ (y -ℤ pos k *ℤ cy) ≡ (u *ℤ (x -ℤ pos k *ℤ ax) +ℤ v *ℤ (y -ℤ pos k *ℤ ay)) -ℤ pos k *ℤ (u *ℤ (cx -ℤ ax) +ℤ v *ℤ (cy -ℤ ay))
ahead_step u v ax ay cx cy x y k =
    same (is_add (is_mul (is_z u) (is_sub (is_z x) (is_mul (is_n k) (is_z cx)))) (is_mul (is_z v) (is_sub (is_z y) (is_mul (is_n k) (is_z cy)))))
    (is_sub (is_add (is_mul (is_z u) (is_sub (is_z x) (is_mul (is_n k) (is_z ax)))) (is_mul (is_z v) (is_sub (is_z y) (is_mul (is_n k) (is_z ay))))) (is_mul (is_n k) (is_add (is_mul (is_z u) (is_sub (is_z cx) (is_z ax))) (is_mul (is_z v) (is_sub (is_z cy) (is_z ay)))))) (omega arith)

times_apart : (k : ℕ) (u v : ℤ) → pos k *ℤ (u -ℤ v) ≡ pos k *ℤ u -ℤ pos k *ℤ v
times_apart k u v = same (is_mul (is_n k) (is_sub (is_z u) (is_z v))) (is_sub (is_mul (is_n k) (is_z u)) (is_mul (is_n k) (is_z v))) (omega arith)

-- a number less another one that is 0
both_0 : (z a b : ℤ) → z ≡ a -ℤ b → a ≡ pos 0 → b ≡ pos 0 → z ≡ pos 0
both_0 z a b e f g = omega (arith, ints)

times_0 : (k : ℕ) (z : ℤ) → z ≡ pos 0 → pos k *ℤ z ≡ pos 0
times_0 k z e = ap (λ c. pos k *ℤ c) e ∙ times_no (pos k)

-- an edge g that leaves the line of an edge e at a point before the one of the way, or goes on along it past that one
meets_after : (e g : Edge) (k : ℕ) (x y : ℤ) → 1 ≤ square_edge e → turn e k x y ≡ pos 0 → cross e g.from ≡ pos 0 → pos 0 ≤ℤ cross e g.to → (pos k *ℤ along e g.from) ≤ℤ ahead e k x y
    → (pos 0 <ℤ cross e g.to) ⊎ (ahead e k x y <ℤ (pos k *ℤ along e g.to)) → pos 0 ≤ℤ turn g k x y → IsOn g k x y
meets_after e g k x y some level on left after more side =
    let a = e.to.x -ℤ e.from.x in
    let b = e.to.y -ℤ e.from.y in
    let ux = g.to.x -ℤ g.from.x in
    let uy = g.to.y -ℤ g.from.y in
    let wx = x -ℤ pos k *ℤ g.from.x in
    let wy = y -ℤ pos k *ℤ g.from.y in
    let level_w : a *ℤ wy -ℤ b *ℤ wx ≡ pos 0 =
    both_0 (a *ℤ wy -ℤ b *ℤ wx) (turn e k x y) (pos k *ℤ cross e g.from) (turn_step a b e.from.x e.from.y g.from.x g.from.y x y k) level (times_0 k (cross e g.from) on) in
    let by = seen (square_edge e) a b ux uy wx wy (length_is a b) level_w in
    let cs = cross_step a b e.from.x e.from.y g.from.x g.from.y g.to.x g.to.y in
    let ms = along_step a b e.from.x e.from.y g.from.x g.from.y g.to.x g.to.y in
    let hs = ahead_step a b e.from.x e.from.y g.from.x g.from.y x y k in
    let found = meets_by (square_edge e) k (a *ℤ ux +ℤ b *ℤ uy) (a *ℤ wx +ℤ b *ℤ wy) (a *ℤ uy -ℤ b *ℤ ux) (ux *ℤ wy -ℤ uy *ℤ wx) (ux *ℤ wx +ℤ uy *ℤ wy) (square_length ux uy) some by.0 by.1 by.2
    (above (a *ℤ wx +ℤ b *ℤ wy) (ahead e k x y) (pos k *ℤ along e g.from) hs after)
    (left_0 (a *ℤ uy -ℤ b *ℤ ux) (cross e g.to) (cross e g.from) cs on left) side
    (elim more [
      | inl turns ↦ inl (left_more (a *ℤ uy -ℤ b *ℤ ux) (cross e g.to) (cross e g.from) cs on turns)
      | inr past ↦ inr (further (a *ℤ wx +ℤ b *ℤ wy) (ahead e k x y) (a *ℤ ux +ℤ b *ℤ uy) (along e g.to) (along e g.from) k hs ms past)
    ]) in
    record { some = found.0; level = found.1; after = found.2; before = found.3 }
  where
    above : (z s t : ℤ) → z ≡ s -ℤ t → t ≤ℤ s → pos 0 ≤ℤ z
    above z s t e h = omega (arith, ints)

    left_0 : (z s t : ℤ) → z ≡ s -ℤ t → t ≡ pos 0 → pos 0 ≤ℤ s → pos 0 ≤ℤ z
    left_0 z s t e f h = omega (arith, ints)

    left_more : (z s t : ℤ) → z ≡ s -ℤ t → t ≡ pos 0 → pos 0 <ℤ s → pos 0 <ℤ z
    left_more z s t e f h = omega (arith, ints)

    less : (h s u v : ℤ) → h ≡ s -ℤ v → s <ℤ u → h <ℤ (u -ℤ v)
    less h s u v e l = omega (arith, ints)

    further : (h s m u v : ℤ) (k : ℕ) → h ≡ s -ℤ pos k *ℤ v → m ≡ u -ℤ v → s <ℤ (pos k *ℤ u) → h <ℤ (pos k *ℤ m)
    further h s m u v k e f l = subst (λ z. h <ℤ (pos k *ℤ z)) (sym f) (subst (λ z. h <ℤ z) (sym (times_apart k u v)) (less h s (pos k *ℤ u) (pos k *ℤ v) e l))

opposite_product : (h x : ℤ) → h *ℤ x ≡ (pos 0 -ℤ h) *ℤ (pos 0 -ℤ x)
opposite_product h x = same (is_mul (is_z h) (is_z x)) (is_mul (is_sub (is_n 0) (is_z h)) (is_sub (is_n 0) (is_z x))) (omega arith)

opposite_factor : (s i : ℤ) → s *ℤ (pos 0 -ℤ i) ≡ pos 0 -ℤ s *ℤ i
opposite_factor s i = same (is_mul (is_z s) (is_sub (is_n 0) (is_z i))) (is_sub (is_n 0) (is_mul (is_z s) (is_z i))) (omega arith)

turn_to : (cx cy dx dy x y : ℤ) (k : ℕ)
    → (dx -ℤ cx) *ℤ (y -ℤ pos k *ℤ dy) -ℤ (dy -ℤ cy) *ℤ (x -ℤ pos k *ℤ dx) ≡ (dx -ℤ cx) *ℤ (y -ℤ pos k *ℤ cy) -ℤ (dy -ℤ cy) *ℤ (x -ℤ pos k *ℤ cx)
turn_to cx cy dx dy x y k =
    let u = is_sub (is_z dx) (is_z cx) in
    let v = is_sub (is_z dy) (is_z cy) in
    same (is_sub (is_mul u (is_sub (is_z y) (is_mul (is_n k) (is_z dy)))) (is_mul v (is_sub (is_z x) (is_mul (is_n k) (is_z dx)))))
    (is_sub (is_mul u (is_sub (is_z y) (is_mul (is_n k) (is_z cy)))) (is_mul v (is_sub (is_z x) (is_mul (is_n k) (is_z cx))))) (omega arith)

ahead_to : (cx cy dx dy x y : ℤ) (k : ℕ)
    → (dx -ℤ cx) *ℤ (x -ℤ pos k *ℤ cx) +ℤ (dy -ℤ cy) *ℤ (y -ℤ pos k *ℤ cy)
    ≡ ((dx -ℤ cx) *ℤ (x -ℤ pos k *ℤ dx) +ℤ (dy -ℤ cy) *ℤ (y -ℤ pos k *ℤ dy)) +ℤ pos k *ℤ ((dx -ℤ cx) *ℤ (dx -ℤ cx) +ℤ (dy -ℤ cy) *ℤ (dy -ℤ cy))
ahead_to cx cy dx dy x y k =
    let u = is_sub (is_z dx) (is_z cx) in
    let v = is_sub (is_z dy) (is_z cy) in
    same (is_add (is_mul u (is_sub (is_z x) (is_mul (is_n k) (is_z cx)))) (is_mul v (is_sub (is_z y) (is_mul (is_n k) (is_z cy)))))
    (is_add (is_add (is_mul u (is_sub (is_z x) (is_mul (is_n k) (is_z dx)))) (is_mul v (is_sub (is_z y) (is_mul (is_n k) (is_z dy))))) (is_mul (is_n k) (is_add (is_mul u u) (is_mul v v)))) (omega arith)

-- an edge g that comes to the line of an edge e at a point past the one of the way, or comes along it from before that one
meets_before : (e g : Edge) (k : ℕ) (x y : ℤ) → 1 ≤ square_edge e → turn e k x y ≡ pos 0 → cross e g.to ≡ pos 0 → pos 0 ≤ℤ cross e g.from → ahead e k x y ≤ℤ (pos k *ℤ along e g.to)
    → (pos 0 <ℤ cross e g.from) ⊎ ((pos k *ℤ along e g.from) <ℤ ahead e k x y) → pos 0 ≤ℤ turn g k x y → IsOn g k x y
meets_before e g k x y some level on left before more side =
    let a = e.to.x -ℤ e.from.x in
    let b = e.to.y -ℤ e.from.y in
    let ux = g.to.x -ℤ g.from.x in
    let uy = g.to.y -ℤ g.from.y in
    let wx = x -ℤ pos k *ℤ g.to.x in
    let wy = y -ℤ pos k *ℤ g.to.y in
    let m = a *ℤ ux +ℤ b *ℤ uy in
    let h = a *ℤ wx +ℤ b *ℤ wy in
    let c = a *ℤ uy -ℤ b *ℤ ux in
    let t = ux *ℤ wy -ℤ uy *ℤ wx in
    let i = ux *ℤ wx +ℤ uy *ℤ wy in
    let level_w : a *ℤ wy -ℤ b *ℤ wx ≡ pos 0 =
    both_0 (a *ℤ wy -ℤ b *ℤ wx) (turn e k x y) (pos k *ℤ cross e g.to) (turn_step a b e.from.x e.from.y g.to.x g.to.y x y k) level (times_0 k (cross e g.to) on) in
    let by = seen (square_edge e) a b ux uy wx wy (length_is a b) level_w in
    let cs = cross_step a b e.from.x e.from.y g.from.x g.from.y g.to.x g.to.y in
    let ms = along_step a b e.from.x e.from.y g.from.x g.from.y g.to.x g.to.y in
    let hs = ahead_step a b e.from.x e.from.y g.to.x g.to.y x y k in
    let ts = turn_to g.from.x g.from.y g.to.x g.to.y x y k in
    let found = meets_by (square_edge e) k m (pos 0 -ℤ h) (pos 0 -ℤ c) t (pos 0 -ℤ i) (square_length ux uy) some
    (by.0 ∙ ap (λ z. pos 0 -ℤ z) (opposite_product h c))
    (opposite_factor (pos (square_edge e)) i ∙ ap (λ z. pos 0 -ℤ z) by.1 ∙ sym (opposite_factor m h))
    (by.2 ∙ ap (λ z. m *ℤ m +ℤ z) (opposite_product c c))
    (above h (ahead e k x y) (pos k *ℤ along e g.to) hs before)
    (left_0 c (cross e g.to) (cross e g.from) cs on left)
    (subst (λ z. pos 0 ≤ℤ z) (sym ts) side)
    (elim more [
      | inl turns ↦ inl (left_more c (cross e g.to) (cross e g.from) cs on turns)
      | inr past ↦ inr (further h (ahead e k x y) m (along e g.to) (along e g.from) k hs ms past)
    ]) in
    let whole : ahead g k x y ≡ i +ℤ pos (k * square_length ux uy) = ahead_to g.from.x g.from.y g.to.x g.to.y x y k ∙ ap (λ z. i +ℤ pos k *ℤ z) (length_is ux uy) in
    record {
      some = found.0;
      level = sym ts ∙ found.1;
      after = rest_above (ahead g k x y) i (k * square_length ux uy) whole found.3;
      before = rest_below (ahead g k x y) i (k * square_length ux uy) whole found.2;
    }
  where
    above : (z s t : ℤ) → z ≡ s -ℤ t → s ≤ℤ t → pos 0 ≤ℤ (pos 0 -ℤ z)
    above z s t e h = omega (arith, ints)

    left_0 : (z s t : ℤ) → z ≡ s -ℤ t → s ≡ pos 0 → pos 0 ≤ℤ t → pos 0 ≤ℤ (pos 0 -ℤ z)
    left_0 z s t e f h = omega (arith, ints)

    left_more : (z s t : ℤ) → z ≡ s -ℤ t → s ≡ pos 0 → pos 0 <ℤ t → pos 0 <ℤ (pos 0 -ℤ z)
    left_more z s t e f h = omega (arith, ints)

    rest_above : (z i : ℤ) (n : ℕ) → z ≡ i +ℤ pos n → (pos 0 -ℤ i) ≤ℤ pos n → pos 0 ≤ℤ z
    rest_above z i n e h = omega (arith, ints)

    rest_below : (z i : ℤ) (n : ℕ) → z ≡ i +ℤ pos n → pos 0 ≤ℤ (pos 0 -ℤ i) → z ≤ℤ pos n
    rest_below z i n e h = omega (arith, ints)

    less : (h s u v : ℤ) → h ≡ s -ℤ u → v <ℤ s → (pos 0 -ℤ h) <ℤ (u -ℤ v)
    less h s u v e l = omega (arith, ints)

    further : (h s m u v : ℤ) (k : ℕ) → h ≡ s -ℤ pos k *ℤ u → m ≡ u -ℤ v → (pos k *ℤ v) <ℤ s → (pos 0 -ℤ h) <ℤ (pos k *ℤ m)
    further h s m u v k e f l = subst (λ z. (pos 0 -ℤ h) <ℤ (pos k *ℤ z)) (sym f) (subst (λ z. (pos 0 -ℤ h) <ℤ z) (sym (times_apart k u v)) (less h s (pos k *ℤ u) (pos k *ℤ v) e l))

-- ---- round the edges

-- some point of a list has a property
abbrev SomeOf : (GridPoint → Type 0) → List GridPoint → Type 0
SomeOf P [] = ⊥
SomeOf P (v ∷ vs) = P v ⊎ SomeOf P vs

some_of : (P : GridPoint → Type 0) (vs : List GridPoint) (v : GridPoint) → Contains vs v → P v → SomeOf P vs
some_of P [] v c h = absurd (omega (arith, c.1))
some_of P (u ∷ vs) v (zero, l, e) h = inl (subst P (sym e) h)
some_of P (u ∷ vs) v (suc k, l, e) h = inr (some_of P vs v (k, omega (arith, l), e) h)

all_or_some : (P Q : GridPoint → Type 0) → ((v : GridPoint) → P v ⊎ Q v) → (vs : List GridPoint) → All P vs ⊎ SomeOf Q vs
all_or_some P Q decide [] = inl (All-nil P)
all_or_some P Q decide (v ∷ vs) = by (decide v) (all_or_some P Q decide vs)
  where
    by : P v ⊎ Q v → All P vs ⊎ SomeOf Q vs → All P (v ∷ vs) ⊎ SomeOf Q (v ∷ vs)
    by (inl p) (inl all) = inl (All-cons P v vs p all)
    by (inl p) (inr some) = inr (inr some)
    by (inr q) rest = inr (inl q)

-- from a point with one property round to the first one, which has another
step_down : (P Q : GridPoint → Type 0) → ((v : GridPoint) → P v ⊎ Q v) → (first from : GridPoint) (rest : List GridPoint) → P from → Q first → SomeEdge (λ e. P e.from × Q e.to) first from rest
step_down P Q decide first from [] p q = (p, q)
step_down P Q decide first from (to ∷ rest) p q = elim (decide to) [
  | inl more ↦ inr (step_down P Q decide first to rest more q)
  | inr less ↦ inl (p, less)
]

-- from a point with one property to one with another
down_to : (P Q : GridPoint → Type 0) → ((v : GridPoint) → P v ⊎ Q v) → (first from : GridPoint) (rest : List GridPoint) → P from → SomeOf Q rest → SomeEdge (λ e. P e.from × Q e.to) first from rest
down_to P Q decide first from [] p some = absurd some
down_to P Q decide first from (to ∷ rest) p (inl q) = inl (p, q)
down_to P Q decide first from (to ∷ rest) p (inr later) = elim (decide to) [
  | inl more ↦ inr (down_to P Q decide first to rest more later)
  | inr less ↦ inl (p, less)
]

-- by a point with one property round to the first one, which has another
down_after : (P Q : GridPoint → Type 0) → ((v : GridPoint) → P v ⊎ Q v) → (first from : GridPoint) (rest : List GridPoint) → SomeOf P rest → Q first → SomeEdge (λ e. P e.from × Q e.to) first from rest
down_after P Q decide first from [] some q = absurd some
down_after P Q decide first from (to ∷ rest) (inl p) q = inr (step_down P Q decide first to rest p q)
down_after P Q decide first from (to ∷ rest) (inr later) q = inr (down_after P Q decide first to rest later q)

-- where some corner has one property and some corner another, an edge goes from the one to the other
goes_over : (P Q : GridPoint → Type 0) → ((v : GridPoint) → P v ⊎ Q v) → ((v : GridPoint) → P v → Q v → ⊥) → (first : GridPoint) (others : List GridPoint) → SomeOf P (first ∷ others) → SomeOf Q (first ∷ others)
    → SomeEdge (λ e. P e.from × Q e.to) first first others
goes_over P Q decide never first others (inl p) (inl q) = absurd (never first p q)
goes_over P Q decide never first others (inl p) (inr later) = down_to P Q decide first first others p later
goes_over P Q decide never first others (inr earlier) (inl q) = down_after P Q decide first first others earlier q
goes_over P Q decide never first others (inr earlier) (inr later) = elim (decide first) [
  | inl p ↦ down_to P Q decide first first others p later
  | inr q ↦ down_after P Q decide first first others earlier q
]

both_edges : (P Q : Edge → Type 0) (first from : GridPoint) (rest : List GridPoint) → EachEdge P first from rest → EachEdge Q first from rest → EachEdge (λ e. P e × Q e) first from rest
both_edges P Q first from [] p q = (p, q)
both_edges P Q first from (to ∷ rest) p q = ((p.0, q.0), both_edges P Q first to rest p.1 q.1)

some_with_each : (P Q : Edge → Type 0) (first from : GridPoint) (rest : List GridPoint) → SomeEdge P first from rest → EachEdge Q first from rest → SomeEdge (λ e. P e × Q e) first from rest
some_with_each P Q first from [] p q = (p, q)
some_with_each P Q first from (to ∷ rest) (inl p) q = inl (p, q.0)
some_with_each P Q first from (to ∷ rest) (inr later) q = inr (some_with_each P Q first to rest later q.1)

split_some : (P : Type 0) (Q : Edge → Type 0) (first from : GridPoint) (rest : List GridPoint) → SomeEdge (λ e. P ⊎ Q e) first from rest → P ⊎ SomeEdge Q first from rest
split_some P Q first from [] some = some
split_some P Q first from (to ∷ rest) (inl (inl p)) = inl p
split_some P Q first from (to ∷ rest) (inl (inr q)) = inr (inl q)
split_some P Q first from (to ∷ rest) (inr later) = elim (split_some P Q first to rest later) [ inl p ↦ inl p | inr q ↦ inr (inr q) ]

ends_of : (C : GridPoint → Type 0) (first : GridPoint) → C first → (from : GridPoint) (rest : List GridPoint) → C from → All C rest → EachEdge (λ e. C e.from × C e.to) first from rest
ends_of C first c from [] a all = (a, c)
ends_of C first c from (to ∷ rest) a all = ((a, All-head C to rest all), ends_of C first c to rest (All-head C to rest all) (All-tail C to rest all))

-- each edge goes from a corner to a corner
edge_ends : (r : GridRounded) → EachEdge (λ e. Contains (corners r) e.from × Contains (corners r) e.to) r.first r.first r.others
edge_ends r =
    let all : All (Contains (corners r)) (corners r) = All-contains_itself (corners r) in
    let first : Contains (corners r) r.first = All-head (Contains (corners r)) r.first r.others all in
    ends_of (Contains (corners r)) r.first first r.first r.others first (All-tail (Contains (corners r)) r.first r.others all)

-- ---- not all corners lie on one line

-- an edge whose ends lie on a line has no point of this line to its left
none_left : (e g : Edge) (p : GridPoint) → 1 ≤ square_edge e → cross e g.from ≡ pos 0 → cross e g.to ≡ pos 0 → cross e p ≡ pos 0 → pos 0 <ℤ cross g p → ⊥
none_left e g p some from to on left =
    let a = e.to.x -ℤ e.from.x in
    let b = e.to.y -ℤ e.from.y in
    let ux = g.to.x -ℤ g.from.x in
    let uy = g.to.y -ℤ g.from.y in
    let vx = p.x -ℤ g.from.x in
    let vy = p.y -ℤ g.from.y in
    let u_0 : a *ℤ uy -ℤ b *ℤ ux ≡ pos 0 = both_0 (a *ℤ uy -ℤ b *ℤ ux) (cross e g.to) (cross e g.from) (cross_step a b e.from.x e.from.y g.from.x g.from.y g.to.x g.to.y) to from in
    let v_0 : a *ℤ vy -ℤ b *ℤ vx ≡ pos 0 = both_0 (a *ℤ vy -ℤ b *ℤ vx) (cross e p) (cross e g.from) (cross_step a b e.from.x e.from.y g.from.x g.from.y p.x p.y) on from in
    let by : pos (square_edge e) *ℤ cross g p ≡ pos 0 =
    ap (λ z. z *ℤ (ux *ℤ vy -ℤ uy *ℤ vx)) (sym (length_is a b)) ∙ area_by a b ux uy vx vy
    ∙ (λ i. (a *ℤ ux +ℤ b *ℤ uy) *ℤ v_0 i -ℤ (a *ℤ vx +ℤ b *ℤ vy) *ℤ u_0 i)
    ∙ (λ i. times_no (a *ℤ ux +ℤ b *ℤ uy) i -ℤ times_no (a *ℤ vx +ℤ b *ℤ vy) i) in
    never (cross g p) (nothing_of (square_edge e) (cross g p) some by) left
  where
    never : (z : ℤ) → z ≡ pos 0 → pos 0 <ℤ z → ⊥
    never z h l = omega (arith, ints)

not_all_on : (r : GridRounded) (e : Edge) → has_area r ≡ true → 1 ≤ square_edge e → All (λ v. cross e v ≡ pos 0) (corners r) → ⊥
not_all_on r e area some all =
    let first : cross e r.first ≡ pos 0 = All-head (λ v. cross e v ≡ pos 0) r.first r.others all in
    let found = edge_and_ends (λ v. cross e v ≡ pos 0) (λ g. int_lt (pos 0) (cross g r.first)) r.first first r.first r.others first (All-tail (λ v. cross e v ≡ pos 0) r.first r.others all) area in
    none_left e found.0 r.first some found.2 found.3 first (above_of (cross found.0 r.first) found.1)
  where
    above_of : (z : ℤ) → int_lt (pos 0) z ≡ true → pos 0 <ℤ z
    above_of z h = omega (arith, ints)

-- ---- the edge that is met

pub no_cross : (e : Edge) → cross e e.from ≡ pos 0
no_cross e = flat (e.to.x -ℤ e.from.x) (e.to.y -ℤ e.from.y) e.from.x e.from.y
  where
    flat : (a b x y : ℤ) → a *ℤ (y -ℤ y) -ℤ b *ℤ (x -ℤ x) ≡ pos 0
    flat a b x y = same (is_sub (is_mul (is_z a) (is_sub (is_z y) (is_z y))) (is_mul (is_z b) (is_sub (is_z x) (is_z x)))) (is_n 0) (omega arith)

no_along : (e : Edge) → along e e.from ≡ pos 0
no_along e = flat (e.to.x -ℤ e.from.x) (e.to.y -ℤ e.from.y) e.from.x e.from.y
  where
    flat : (a b x y : ℤ) → a *ℤ (x -ℤ x) +ℤ b *ℤ (y -ℤ y) ≡ pos 0
    flat a b x y = same (is_add (is_mul (is_z a) (is_sub (is_z x) (is_z x))) (is_mul (is_z b) (is_sub (is_z y) (is_z y)))) (is_n 0) (omega arith)

-- an edge to whose right no corner lies, and a corner at which it starts
record IsSide (r : GridRounded) (e : Edge) : Type 0 where
  left : (v : GridPoint) → Contains (corners r) v → pos 0 ≤ℤ cross e v
  starts : Contains (corners r) e.from

-- some point of the way lies on the line of a side
record IsOnLine (r : GridRounded) (k : ℕ) (x y : ℤ) : Type 0 where
  e : Edge
  side : IsSide r e
  some : 1 ≤ square_edge e
  level : turn e k x y ≡ pos 0

by_edge : (r : GridRounded) (k : ℕ) (x y : ℤ) (P Q : GridPoint → Type 0) → ((g : Edge) → P g.from → Q g.to → Contains (corners r) g.from → Contains (corners r) g.to → pos 0 ≤ℤ turn g k x y → IsOn g k x y)
    → EachEdge (λ g. pos 0 ≤ℤ turn g k x y) r.first r.first r.others → SomeEdge (λ g. P g.from × Q g.to) r.first r.first r.others → SomeEdge (λ g. IsOn g k x y) r.first r.first r.others
by_edge r k x y P Q meets each some =
    map_some (λ g. (P g.from × Q g.to) × ((pos 0 ≤ℤ turn g k x y) × (Contains (corners r) g.from × Contains (corners r) g.to))) (λ g. IsOn g k x y)
    (λ g h. meets g h.0.0 h.0.1 h.1.1.0 h.1.1.1 h.1.0) r.first r.first r.others
    (some_with_each (λ g. P g.from × Q g.to) (λ g. (pos 0 ≤ℤ turn g k x y) × (Contains (corners r) g.from × Contains (corners r) g.to)) r.first r.first r.others some
    (both_edges (λ g. pos 0 ≤ℤ turn g k x y) (λ g. Contains (corners r) g.from × Contains (corners r) g.to) r.first r.first r.others each (edge_ends r)))

is_0 : (z : ℤ) → z ≤ℤ pos 0 → pos 0 ≤ℤ z → z ≡ pos 0
is_0 z h l = omega (arith, ints)

-- where each corner has the first of two properties, all lie on the line of the side
all_on : (r : GridRounded) (e : Edge) (P : GridPoint → Type 0) → IsSide r e → ((v : GridPoint) → P v → cross e v ≤ℤ pos 0) → All P (corners r) → All (λ v. cross e v ≡ pos 0) (corners r)
all_on r e P side low all = λ i d l. is_0 (cross e _) (low _ (all i d l)) (side.left _ (All-contains_itself (corners r) i d l))

-- on the line of an edge, and not past a point of the line
abbrev IsUpTo : Edge → ℕ → ℤ → ℤ → GridPoint → Type 0
IsUpTo e k x y v = (cross e v ≤ℤ pos 0) × ((pos k *ℤ along e v) ≤ℤ ahead e k x y)

-- to the left of the line, or past that point
abbrev IsPast : Edge → ℕ → ℤ → ℤ → GridPoint → Type 0
IsPast e k x y v = (pos 0 <ℤ cross e v) ⊎ (ahead e k x y <ℤ (pos k *ℤ along e v))

-- on the line of an edge, and not before a point of the line
abbrev IsFrom : Edge → ℕ → ℤ → ℤ → GridPoint → Type 0
IsFrom e k x y v = (cross e v ≤ℤ pos 0) × (ahead e k x y ≤ℤ (pos k *ℤ along e v))

-- to the left of the line, or before that point
abbrev IsBefore : Edge → ℕ → ℤ → ℤ → GridPoint → Type 0
IsBefore e k x y v = (pos 0 <ℤ cross e v) ⊎ ((pos k *ℤ along e v) <ℤ ahead e k x y)

apart : (a b : ℤ) → a ≤ℤ b → b <ℤ a → ⊥
apart a b h l = omega (arith, ints)

low_0 : (z : ℤ) → z ≡ pos 0 → z ≤ℤ pos 0
low_0 z e = omega (arith, ints)

on_after : (r : GridRounded) (k : ℕ) (x y : ℤ) (o : IsOnLine r k x y) → has_area r ≡ true → EachEdge (λ g. pos 0 ≤ℤ turn g k x y) r.first r.first r.others → pos 0 ≤ℤ ahead o.e k x y → SomeEdge (λ g. IsOn g k x y) r.first r.first r.others
on_after r k x y o area each after =
    by_edge r k x y (IsUpTo o.e k x y) (IsPast o.e k x y)
    (λ g p q from to side. meets_after o.e g k x y o.some o.level (is_0 (cross o.e g.from) p.0 (o.side.left g.from from)) (o.side.left g.to to) p.1 q side) each
    (goes_over (IsUpTo o.e k x y) (IsPast o.e k x y) decide never r.first r.others (some_of (IsUpTo o.e k x y) (corners r) o.e.from o.side.starts start)
    (elim (all_or_some (IsUpTo o.e k x y) (IsPast o.e k x y) decide (corners r)) [
      | inl all ↦ absurd (not_all_on r o.e area o.some (all_on r o.e (IsUpTo o.e k x y) o.side (λ v p. p.0) all))
      | inr some ↦ some
    ]))
  where
    decide : (v : GridPoint) → IsUpTo o.e k x y v ⊎ IsPast o.e k x y v
    decide v = by_lt_z (pos 0) (cross o.e v) (λ l. inr (inl l)) (λ c. by_lt_z (ahead o.e k x y) (pos k *ℤ along o.e v) (λ l. inr (inr l)) (λ a. inl (c, a)))

    never : (v : GridPoint) → IsUpTo o.e k x y v → IsPast o.e k x y v → ⊥
    never v p (inl l) = apart (cross o.e v) (pos 0) p.0 l
    never v p (inr l) = apart (pos k *ℤ along o.e v) (ahead o.e k x y) p.1 l

    start : IsUpTo o.e k x y o.e.from
    start = (low_0 (cross o.e o.e.from) (no_cross o.e), subst (λ z. z ≤ℤ ahead o.e k x y) (sym (times_0 k (along o.e o.e.from) (no_along o.e))) after)

on_before : (r : GridRounded) (k : ℕ) (x y : ℤ) (o : IsOnLine r k x y) → has_area r ≡ true → EachEdge (λ g. pos 0 ≤ℤ turn g k x y) r.first r.first r.others → ahead o.e k x y ≤ℤ pos 0 → SomeEdge (λ g. IsOn g k x y) r.first r.first r.others
on_before r k x y o area each before =
    by_edge r k x y (IsBefore o.e k x y) (IsFrom o.e k x y)
    (λ g q p from to side. meets_before o.e g k x y o.some o.level (is_0 (cross o.e g.to) p.0 (o.side.left g.to to)) (o.side.left g.from from) p.1 q side) each
    (goes_over (IsBefore o.e k x y) (IsFrom o.e k x y) (λ v. swap (decide v)) (λ v q p. never v p q) r.first r.others
    (elim (all_or_some (IsFrom o.e k x y) (IsBefore o.e k x y) decide (corners r)) [
      | inl all ↦ absurd (not_all_on r o.e area o.some (all_on r o.e (IsFrom o.e k x y) o.side (λ v p. p.0) all))
      | inr some ↦ some
    ])
    (some_of (IsFrom o.e k x y) (corners r) o.e.from o.side.starts start))
  where
    swap : {A B : Type 0} → A ⊎ B → B ⊎ A
    swap (inl a) = inr a
    swap (inr b) = inl b

    decide : (v : GridPoint) → IsFrom o.e k x y v ⊎ IsBefore o.e k x y v
    decide v = by_lt_z (pos 0) (cross o.e v) (λ l. inr (inl l)) (λ c. by_lt_z (pos k *ℤ along o.e v) (ahead o.e k x y) (λ l. inr (inr l)) (λ a. inl (c, a)))

    never : (v : GridPoint) → IsFrom o.e k x y v → IsBefore o.e k x y v → ⊥
    never v p (inl l) = apart (cross o.e v) (pos 0) p.0 l
    never v p (inr l) = apart (ahead o.e k x y) (pos k *ℤ along o.e v) p.1 l

    start : IsFrom o.e k x y o.e.from
    start = (low_0 (cross o.e o.e.from) (no_cross o.e), subst (λ z. ahead o.e k x y ≤ℤ z) (sym (times_0 k (along o.e o.e.from) (no_along o.e))) before)

on_some_edge : (r : GridRounded) (k : ℕ) (x y : ℤ) → IsOnLine r k x y → has_area r ≡ true → EachEdge (λ g. pos 0 ≤ℤ turn g k x y) r.first r.first r.others → SomeEdge (λ g. IsOn g k x y) r.first r.first r.others
on_some_edge r k x y o area each = by_lt_z (ahead o.e k x y) (pos 0) (λ less. on_before r k x y o area each (weaker (ahead o.e k x y) less)) (λ after. on_after r k x y o area each after)
  where
    weaker : (z : ℤ) → z <ℤ pos 0 → z ≤ℤ pos 0
    weaker z h = omega (arith, ints)

-- ---- the way from the point to the mean

-- a mean of corners that is no further than the radius from the point and to the right of no edge
record IsAim (radius : ℕ) (p : GridPoint) (n : ℕ) (sx sy : ℤ) : Type 0 where
  some : 1 ≤ n
  near : IsWithin radius p n sx sy

-- k times a point of the way is (x, y): it is no further than the radius, and it is the point itself or lies on the line of a side
record IsAt (r : GridRounded) (p : GridPoint) (k : ℕ) (x y : ℤ) : Type 0 where
  one : 1 ≤ k
  near : IsWithin r.radius p k x y
  stop : ((k ≡ 1) × (x ≡ p.x) × (y ≡ p.y)) ⊎ IsOnLine r k x y

-- such a point of the way, with a property
record IsMet (r : GridRounded) (p : GridPoint) (R : ℕ → ℤ → ℤ → Type 0) : Type 0 where
  k : ℕ
  x : ℤ
  y : ℤ
  at : IsAt r p k x y
  holds : R k x y

turn_sum_z : (u v ax ay x y sx sy : ℤ) (w j k n : ℕ)
    → u *ℤ ((pos w *ℤ y +ℤ pos j *ℤ sy) -ℤ pos (w * k + j * n) *ℤ ay) -ℤ v *ℤ ((pos w *ℤ x +ℤ pos j *ℤ sx) -ℤ pos (w * k + j * n) *ℤ ax)
    ≡ pos w *ℤ (u *ℤ (y -ℤ pos k *ℤ ay) -ℤ v *ℤ (x -ℤ pos k *ℤ ax)) +ℤ pos j *ℤ (u *ℤ (sy -ℤ pos n *ℤ ay) -ℤ v *ℤ (sx -ℤ pos n *ℤ ax))
turn_sum_z u v ax ay x y sx sy w j k n =
    same
    (is_sub
    (is_mul (is_z u) (is_sub (is_add (is_mul (is_n w) (is_z y)) (is_mul (is_n j) (is_z sy))) (is_mul (is_n (w * k + j * n)) (is_z ay))))
    (is_mul (is_z v) (is_sub (is_add (is_mul (is_n w) (is_z x)) (is_mul (is_n j) (is_z sx))) (is_mul (is_n (w * k + j * n)) (is_z ax)))))
    (is_add
    (is_mul (is_n w) (is_sub (is_mul (is_z u) (is_sub (is_z y) (is_mul (is_n k) (is_z ay)))) (is_mul (is_z v) (is_sub (is_z x) (is_mul (is_n k) (is_z ax))))))
    (is_mul (is_n j) (is_sub (is_mul (is_z u) (is_sub (is_z sy) (is_mul (is_n n) (is_z ay)))) (is_mul (is_z v) (is_sub (is_z sx) (is_mul (is_n n) (is_z ax)))))))
    (omega arith)

-- the area of an edge and a point between two others
turn_sum : (e : Edge) (x y sx sy : ℤ) (w j k n : ℕ) → turn e (w * k + j * n) (pos w *ℤ x +ℤ pos j *ℤ sx) (pos w *ℤ y +ℤ pos j *ℤ sy) ≡ pos w *ℤ turn e k x y +ℤ pos j *ℤ turn e n sx sy
turn_sum e x y sx sy w j k n = turn_sum_z (e.to.x -ℤ e.from.x) (e.to.y -ℤ e.from.y) e.from.x e.from.y x y sx sy w j k n

sum_above : (a b : ℤ) → pos 0 ≤ℤ a → pos 0 ≤ℤ b → pos 0 ≤ℤ (a +ℤ b)
sum_above a b h l = omega (arith, ints)

still_left : (e : Edge) (x y sx sy : ℤ) (w j k n : ℕ) → pos 0 ≤ℤ turn e k x y → pos 0 ≤ℤ turn e n sx sy → pos 0 ≤ℤ turn e (w * k + j * n) (pos w *ℤ x +ℤ pos j *ℤ sx) (pos w *ℤ y +ℤ pos j *ℤ sy)
still_left e x y sx sy w j k n h l =
    subst (λ z. pos 0 ≤ℤ z) (sym (turn_sum e x y sx sy w j k n))
    (sum_above (pos w *ℤ turn e k x y) (pos j *ℤ turn e n sx sy) (ahead_times w (turn e k x y) h) (ahead_times j (turn e n sx sy) l))

between_step : (w j k n : ℕ) (p x s : ℤ) → pos (w * k + j * n) *ℤ p -ℤ (pos w *ℤ x +ℤ pos j *ℤ s) ≡ pos w *ℤ (pos k *ℤ p -ℤ x) +ℤ pos j *ℤ (pos n *ℤ p -ℤ s)
between_step w j k n p x s =
    same (is_sub (is_mul (is_n (w * k + j * n)) (is_z p)) (is_add (is_mul (is_n w) (is_z x)) (is_mul (is_n j) (is_z s))))
    (is_add (is_mul (is_n w) (is_sub (is_mul (is_n k) (is_z p)) (is_z x))) (is_mul (is_n j) (is_sub (is_mul (is_n n) (is_z p)) (is_z s)))) (omega arith)

-- a point between two others that are no further than the radius is no further
still_near : (radius : ℕ) (p : GridPoint) (x y sx sy : ℤ) (w j k n : ℕ) → IsWithin radius p k x y → IsWithin radius p n sx sy → IsWithin radius p (w * k + j * n) (pos w *ℤ x +ℤ pos j *ℤ sx) (pos w *ℤ y +ℤ pos j *ℤ sy)
still_near radius p x y sx sy w j k n h l =
    length_same _ _ _ _ ((w * k + j * n) * radius) (w * (k * radius) + j * (n * radius)) (between_step w j k n p.x x sx) (between_step w j k n p.y y sy) (omega arith)
    (triangle_inequality (pos w *ℤ (pos k *ℤ p.x -ℤ x)) (pos w *ℤ (pos k *ℤ p.y -ℤ y)) (pos j *ℤ (pos n *ℤ p.x -ℤ sx)) (pos j *ℤ (pos n *ℤ p.y -ℤ sy)) (w * (k * radius)) (j * (n * radius))
    (scaled-le w (k * radius) (pos k *ℤ p.x -ℤ x) (pos k *ℤ p.y -ℤ y) h) (scaled-le j (n * radius) (pos n *ℤ p.x -ℤ sx) (pos n *ℤ p.y -ℤ sy) l))

-- an edge without a length has all points on its line
some_length : (e : Edge) (k : ℕ) (x y : ℤ) → turn e k x y <ℤ pos 0 → 1 ≤ square_edge e
some_length e k x y right = elim (cases_lt 0 (square_edge e)) [
  | inl more ↦ more
  | inr none ↦ absurd (flat (no_further (e.to.x -ℤ e.from.x) (e.to.y -ℤ e.from.y) 0 none))
]
  where
    never : (z : ℤ) → z ≡ pos 0 → z <ℤ pos 0 → ⊥
    never z h l = omega (arith, ints)

    flat : ((e.to.x -ℤ e.from.x) ≡ pos 0) × ((e.to.y -ℤ e.from.y) ≡ pos 0) → ⊥
    flat h = never (turn e k x y)
        ((λ i. h.0 i *ℤ (y -ℤ pos k *ℤ e.from.y) -ℤ h.1 i *ℤ (x -ℤ pos k *ℤ e.from.x)) ∙ (λ i. no_times (y -ℤ pos k *ℤ e.from.y) i -ℤ no_times (x -ℤ pos k *ℤ e.from.x) i)) right

-- one more edge: where the point of the way lies to its right, the way is followed up to its line
past_edge : (r : GridRounded) (p : GridPoint) (n : ℕ) (sx sy : ℤ) → IsAim r.radius p n sx sy → (e : Edge) → IsSide r e → pos 0 ≤ℤ turn e n sx sy
    → (R : ℕ → ℤ → ℤ → Type 0) → ((k : ℕ) (x y : ℤ) (w j : ℕ) → R k x y → R (w * k + j * n) (pos w *ℤ x +ℤ pos j *ℤ sx) (pos w *ℤ y +ℤ pos j *ℤ sy))
    → (k : ℕ) (x y : ℤ) → IsAt r p k x y → R k x y → IsMet r p (λ l u v. (pos 0 ≤ℤ turn e l u v) × R l u v)
past_edge r p n sx sy aim e side left R keeps k x y at holds =
    by_lt_z (turn e k x y) (pos 0) (λ right. moved right) (λ inside. record { k = k; x = x; y = y; at = at; holds = (inside, holds) })
  where
    w : ℕ
    w = unsigned_abs (turn e n sx sy)

    j : ℕ
    j = unsigned_abs (turn e k x y)

    below : (z : ℤ) → z <ℤ pos 0 → pos (unsigned_abs z) ≡ pos 0 -ℤ z
    below z h = omega (arith, ints)

    some : (z : ℤ) → z <ℤ pos 0 → 1 ≤ unsigned_abs z
    some z h = omega (arith, ints)

    one_more : 1 ≤ j → 1 ≤ w * k + j * n
    one_more h = let product : 1 * 1 ≤ j * n = mul-le 1 1 j n h aim.some in omega (arith, product)

    balanced : (a b : ℤ) → a *ℤ b +ℤ (pos 0 -ℤ b) *ℤ a ≡ pos 0
    balanced a b = same (is_add (is_mul (is_z a) (is_z b)) (is_mul (is_sub (is_n 0) (is_z b)) (is_z a))) (is_n 0) (omega arith)

    level : turn e k x y <ℤ pos 0 → turn e (w * k + j * n) (pos w *ℤ x +ℤ pos j *ℤ sx) (pos w *ℤ y +ℤ pos j *ℤ sy) ≡ pos 0
    level right =
        turn_sum e x y sx sy w j k n ∙ (λ i. of_natural (turn e n sx sy) left i *ℤ turn e k x y +ℤ below (turn e k x y) right i *ℤ turn e n sx sy) ∙ balanced (turn e n sx sy) (turn e k x y)

    not_below : (z : ℤ) → z ≡ pos 0 → pos 0 ≤ℤ z
    not_below z h = omega (arith, ints)

    moved : turn e k x y <ℤ pos 0 → IsMet r p (λ l u v. (pos 0 ≤ℤ turn e l u v) × R l u v)
    moved right = record {
      k = w * k + j * n;
      x = pos w *ℤ x +ℤ pos j *ℤ sx;
      y = pos w *ℤ y +ℤ pos j *ℤ sy;
      at = record {
        one = one_more (some (turn e k x y) right);
        near = still_near r.radius p x y sx sy w j k n at.near aim.near;
        stop = inr (record { e = e; side = side; some = some_length e k x y right; level = level right });
      };
      holds = (not_below (turn e (w * k + j * n) (pos w *ℤ x +ℤ pos j *ℤ sx) (pos w *ℤ y +ℤ pos j *ℤ sy)) (level right), keeps k x y w j holds);
    }

at_itself : (p : ℤ) → pos 1 *ℤ p -ℤ p ≡ pos 0
at_itself p = omega (arith, ints)

-- the way starts at the point
at_start : (r : GridRounded) (p : GridPoint) → IsAt r p 1 p.x p.y
at_start r p = record {
  one = omega arith;
  near = length_same _ _ (pos 0) (pos 0) (1 * r.radius) (1 * r.radius) (at_itself p.x) (at_itself p.y) refl (omega arith);
  stop = inl (refl, refl, refl);
}

-- past each edge
past_edges : (r : GridRounded) (p : GridPoint) (n : ℕ) (sx sy : ℤ) → IsAim r.radius p n sx sy → (first from : GridPoint) (rest : List GridPoint) → EachEdge (IsSide r) first from rest → EachEdge (λ e. pos 0 ≤ℤ turn e n sx sy) first from rest
    → IsMet r p (λ k x y. EachEdge (λ e. pos 0 ≤ℤ turn e k x y) first from rest)
past_edges r p n sx sy aim first from [] side left =
    let m = past_edge r p n sx sy aim (edge from first) side left (λ k x y. Unit {0}) (λ k x y w j h. tt) 1 p.x p.y (at_start r p) tt in
    record { k = m.k; x = m.x; y = m.y; at = m.at; holds = m.holds.0 }
past_edges r p n sx sy aim first from (to ∷ rest) sides lefts =
    let m = past_edges r p n sx sy aim first to rest sides.1 lefts.1 in
    let more = past_edge r p n sx sy aim (edge from to) sides.0 lefts.0 (λ k x y. EachEdge (λ e. pos 0 ≤ℤ turn e k x y) first to rest)
    (λ k x y w j each. map_each (λ e. (pos 0 ≤ℤ turn e k x y) × (pos 0 ≤ℤ turn e n sx sy)) (λ e. pos 0 ≤ℤ turn e (w * k + j * n) (pos w *ℤ x +ℤ pos j *ℤ sx) (pos w *ℤ y +ℤ pos j *ℤ sy))
    (λ e h. still_left e x y sx sy w j k n h.0 h.1) first to rest (both_edges (λ e. pos 0 ≤ℤ turn e k x y) (λ e. pos 0 ≤ℤ turn e n sx sy) first to rest each lefts.1))
    m.k m.x m.y m.at m.holds in
    record { k = more.k; x = more.x; y = more.y; at = more.at; holds = (more.holds.0, more.holds.1) }

-- ---- what the corners are

-- no corner lies to the right of an edge
corners_left : (r : GridRounded) → is_convex r ≡ true → (v : GridPoint) → Contains (corners r) v → EachEdge (λ e. pos 0 ≤ℤ cross e v) r.first r.first r.others
corners_left r convex v c =
    map_each (λ e. is_deep_left e 0 v ≡ true) (λ e. pos 0 ≤ℤ cross e v) (λ e h. left_of (cross e v) (and_parts (int_le (pos 0) (cross e v)) (nat_le (square 0 * square_edge e) (square (unsigned_abs (cross e v)))) h).0) r.first r.first r.others
    (each_edge (λ e. is_deep_left e 0 v) r.first r.first r.others (and_parts (has_area r) (is_deep_left_of_all r 0 v) inside).1)
  where
    inside : is_deep_inside r 0 v ≡ true
    inside = All-contains (λ u. is_deep_inside r 0 u ≡ true) (corners r) v (all_pass (λ u. is_deep_inside r 0 u) (corners r) convex) c

first_corner : (r : GridRounded) → Contains (corners r) r.first
first_corner r = (0, omega arith, refl)

pub area_of : (r : GridRounded) → is_convex r ≡ true → has_area r ≡ true
area_of r convex =
    (and_parts (has_area r) (is_deep_left_of_all r 0 r.first) (All-contains (λ u. is_deep_inside r 0 u ≡ true) (corners r) r.first (all_pass (λ u. is_deep_inside r 0 u) (corners r) convex) (first_corner r))).0

sides_of : (r : GridRounded) → is_convex r ≡ true → EachEdge (IsSide r) r.first r.first r.others
sides_of r convex =
    map_each (λ e. ((v : GridPoint) → Contains (corners r) v → pos 0 ≤ℤ cross e v) × (Contains (corners r) e.from × Contains (corners r) e.to)) (IsSide r) (λ e h. record { left = h.0; starts = h.1.0 }) r.first r.first r.others
    (both_edges (λ e. (v : GridPoint) → Contains (corners r) v → pos 0 ≤ℤ cross e v) (λ e. Contains (corners r) e.from × Contains (corners r) e.to) r.first r.first r.others
    (at_each (Contains (corners r)) (λ e v. pos 0 ≤ℤ cross e v) r.first r.first r.others (corners_left r convex)) (edge_ends r))

-- a mean of corners lies to the right of no edge
mean_left : (r : GridRounded) (ws : List WeightedPoint) → All (λ w. Contains (corners r) w.point) ws → (e : Edge) → IsSide r e → pos 0 ≤ℤ turn e (total_weight ws) (weighted_sum (λ v. v.x) ws) (weighted_sum (λ v. v.y) ws)
mean_left r ws all e side =
    subst (λ z. pos 0 ≤ℤ z) (cross_sum e ws) (subst (λ z. z ≤ℤ weighted_sum (λ v. cross e v) ws) (times_no (pos (total_weight ws))) (sum-ge (Contains (corners r)) (λ v. cross e v) (pos 0) side.left ws all))

-- ---- what covers a point with the reach 0

covers_is : (r : GridRounded) (p : GridPoint) → rounded_covers r p 0 ≡ (is_deep_inside r 0 p || (nat_le 0 r.radius && is_near_rim r r.radius p))
covers_is r p =
    let no_depth : 0 - r.radius ≡ 0 = omega arith in
    let whole : r.radius - 0 ≡ r.radius = omega arith in
    λ i. is_deep_inside r (no_depth i) p || (nat_le 0 r.radius && is_near_rim r (whole i) p)

inside_covers : (r : GridRounded) (p : GridPoint) → is_deep_inside r 0 p ≡ true → rounded_covers r p 0 ≡ true
inside_covers r p h = covers_is r p ∙ or_left (is_deep_inside r 0 p) (nat_le 0 r.radius && is_near_rim r r.radius p) h

rim_covers : (r : GridRounded) (p : GridPoint) → is_near_rim r r.radius p ≡ true → rounded_covers r p 0 ≡ true
rim_covers r p h =
    covers_is r p ∙ or_right (is_deep_inside r 0 p) (nat_le 0 r.radius && is_near_rim r r.radius p) (and_from (nat_le 0 r.radius) (is_near_rim r r.radius p) (le-leb 0 r.radius (omega arith)) h)

any_of : {X : Type 0} (t : X → Bool) (xs : List X) (x : X) → Contains xs x → t x ≡ true → list_any t xs ≡ true
any_of t [] x c h = absurd (omega (arith, c.1))
any_of t (y ∷ ys) x (zero, l, e) h = or_left (t y) (list_any t ys) (ap t e ∙ h)
any_of t (y ∷ ys) x (suc k, l, e) h = or_right (t y) (list_any t ys) (any_of t ys x (k, omega (arith, l), e) h)

any_edge : (t : Edge → Bool) (first from : GridPoint) (rest : List GridPoint) → SomeEdge (λ e. t e ≡ true) first from rest → list_any t (edges_back first from rest) ≡ true
any_edge t first from [] h = or_left (t (edge from first)) false h
any_edge t first from (to ∷ rest) (inl h) = or_left (t (edge from to)) (list_any t (edges_back first to rest)) h
any_edge t first from (to ∷ rest) (inr later) = or_right (t (edge from to)) (list_any t (edges_back first to rest)) (any_edge t first to rest later)

-- a point near a corner or beside an edge is near the rim
corner_rim : (r : GridRounded) (p v : GridPoint) → Contains (corners r) v → square_distance p v ≤ square r.radius → is_near_rim r r.radius p ≡ true
corner_rim r p v c h =
    or_left (is_near_corner r r.radius p) (is_beside_some r r.radius p) (any_of (λ u. nat_le (square_distance p u) (square r.radius)) (corners r) v c (le-leb (square_distance p v) (square r.radius) h))

edge_rim : (r : GridRounded) (p : GridPoint) → SomeEdge (IsNearEdge r.radius p) r.first r.first r.others → is_near_rim r r.radius p ≡ true
edge_rim r p some =
    elim (split_some (is_near_rim r r.radius p ≡ true) (λ e. is_beside e r.radius p ≡ true) r.first r.first r.others
    (map_some (λ e. IsNearEdge r.radius p e × (Contains (corners r) e.from × Contains (corners r) e.to)) (λ e. (is_near_rim r r.radius p ≡ true) ⊎ (is_beside e r.radius p ≡ true)) (λ e h. near e h.0 h.1.0 h.1.1) r.first r.first r.others
    (some_with_each (IsNearEdge r.radius p) (λ e. Contains (corners r) e.from × Contains (corners r) e.to) r.first r.first r.others some (edge_ends r)))) [
      | inl rim ↦ rim
      | inr beside ↦ or_right (is_near_corner r r.radius p) (is_beside_some r r.radius p) (any_edge (λ e. is_beside e r.radius p) r.first r.first r.others beside)
    ]
  where
    near : (e : Edge) → IsNearEdge r.radius p e → Contains (corners r) e.from → Contains (corners r) e.to → (is_near_rim r r.radius p ≡ true) ⊎ (is_beside e r.radius p ≡ true)
    near e (inl from) c d = inl (corner_rim r p e.from c from)
    near e (inr (inl to)) c d = inl (corner_rim r p e.to d to)
    near e (inr (inr beside)) c d = inr beside

-- ---- the law

turn_once : (e : Edge) (x y : ℤ) → turn e 1 x y ≡ (e.to.x -ℤ e.from.x) *ℤ (y -ℤ e.from.y) -ℤ (e.to.y -ℤ e.from.y) *ℤ (x -ℤ e.from.x)
turn_once e x y = once (e.to.x -ℤ e.from.x) (e.to.y -ℤ e.from.y) e.from.x e.from.y x y
  where
    once : (a b c d x y : ℤ) → a *ℤ (y -ℤ pos 1 *ℤ d) -ℤ b *ℤ (x -ℤ pos 1 *ℤ c) ≡ a *ℤ (y -ℤ d) -ℤ b *ℤ (x -ℤ c)
    once a b c d x y =
        same (is_sub (is_mul (is_z a) (is_sub (is_z y) (is_mul (is_n 1) (is_z d)))) (is_mul (is_z b) (is_sub (is_z x) (is_mul (is_n 1) (is_z c)))))
        (is_sub (is_mul (is_z a) (is_sub (is_z y) (is_z d))) (is_mul (is_z b) (is_sub (is_z x) (is_z c)))) (omega arith)

-- a point to the right of no edge
inside_by : (r : GridRounded) (p : GridPoint) → has_area r ≡ true → EachEdge (λ e. pos 0 ≤ℤ turn e 1 p.x p.y) r.first r.first r.others → is_deep_inside r 0 p ≡ true
inside_by r p area each =
    and_from (has_area r) (is_deep_left_of_all r 0 p) area
    (back_to_test (λ e. is_deep_left e 0 p) r.first r.first r.others
    (map_each (λ e. pos 0 ≤ℤ turn e 1 p.x p.y) (λ e. is_deep_left e 0 p ≡ true) (λ e h. side_alone e p (subst (λ z. pos 0 ≤ℤ z) (turn_once e p.x p.y) h)) r.first r.first r.others each))

polygon_covers : (r : GridRounded) (p : GridPoint) → is_convex r ≡ true → IsInRounded r p → rounded_covers r p 0 ≡ true
polygon_covers r p convex h =
    let ws = h.parts in
    let sides = sides_of r convex in
    let m = past_edges r p (total_weight ws) (weighted_sum (λ v. v.x) ws) (weighted_sum (λ v. v.y) ws) (record { some = h.some; near = h.near }) r.first r.first r.others sides
    (map_each (IsSide r) (λ e. pos 0 ≤ℤ turn e (total_weight ws) (weighted_sum (λ v. v.x) ws) (weighted_sum (λ v. v.y) ws)) (mean_left r ws h.of_points) r.first r.first r.others sides) in
    by m.k m.x m.y m.at m.holds m.at.stop
  where
    by : (k : ℕ) (x y : ℤ) → IsAt r p k x y → EachEdge (λ e. pos 0 ≤ℤ turn e k x y) r.first r.first r.others → ((k ≡ 1) × (x ≡ p.x) × (y ≡ p.y)) ⊎ IsOnLine r k x y → rounded_covers r p 0 ≡ true
    by k x y at each (inl start) =
        inside_covers r p (inside_by r p (area_of r convex) (subst (λ n. EachEdge (λ e. pos 0 ≤ℤ turn e n p.x p.y) r.first r.first r.others) start.0
        (subst (λ z. EachEdge (λ e. pos 0 ≤ℤ turn e k z p.y) r.first r.first r.others) start.1 (subst (λ z. EachEdge (λ e. pos 0 ≤ℤ turn e k x z) r.first r.first r.others) start.2 each))))
    by k x y at each (inr o) =
        rim_covers r p (edge_rim r p
        (map_some (λ e. IsOn e k x y) (IsNearEdge r.radius p) (λ e on. near_edge e k x y r.radius p at.one on at.near) r.first r.first r.others (on_some_edge r k x y o (area_of r convex) each)))

-- two corners: the mean itself lies on the edge between them
along_sum : (e : Edge) (ws : List WeightedPoint) → weighted_sum (λ v. along e v) ws ≡ ahead e (total_weight ws) (weighted_sum (λ v. v.x) ws) (weighted_sum (λ v. v.y) ws)
along_sum e [] = none (e.to.x -ℤ e.from.x) (e.to.y -ℤ e.from.y) e.from.x e.from.y
  where
    none : (a b c d : ℤ) → pos 0 ≡ a *ℤ (pos 0 -ℤ pos 0 *ℤ c) +ℤ b *ℤ (pos 0 -ℤ pos 0 *ℤ d)
    none a b c d =
        same (is_n 0) (is_add (is_mul (is_z a) (is_sub (is_n 0) (is_mul (is_n 0) (is_z c)))) (is_mul (is_z b) (is_sub (is_n 0) (is_mul (is_n 0) (is_z d))))) (omega arith)
along_sum e (w ∷ ws) =
    ap (λ z. pos w.weight *ℤ along e w.point +ℤ z) (along_sum e ws)
    ∙ more (e.to.x -ℤ e.from.x) (e.to.y -ℤ e.from.y) e.from.x e.from.y w.point.x w.point.y (weighted_sum (λ v. v.x) ws) (weighted_sum (λ v. v.y) ws) w.weight (total_weight ws)
  where
    more : (a b c d vx vy sx sy : ℤ) (n t : ℕ)
        → pos n *ℤ (a *ℤ (vx -ℤ c) +ℤ b *ℤ (vy -ℤ d)) +ℤ (a *ℤ (sx -ℤ pos t *ℤ c) +ℤ b *ℤ (sy -ℤ pos t *ℤ d))
        ≡ a *ℤ ((pos n *ℤ vx +ℤ sx) -ℤ pos (n + t) *ℤ c) +ℤ b *ℤ ((pos n *ℤ vy +ℤ sy) -ℤ pos (n + t) *ℤ d)
    more a b c d vx vy sx sy n t =
        same
        (is_add (is_mul (is_n n) (is_add (is_mul (is_z a) (is_sub (is_z vx) (is_z c))) (is_mul (is_z b) (is_sub (is_z vy) (is_z d)))))
        (is_add (is_mul (is_z a) (is_sub (is_z sx) (is_mul (is_n t) (is_z c)))) (is_mul (is_z b) (is_sub (is_z sy) (is_mul (is_n t) (is_z d))))))
        (is_add (is_mul (is_z a) (is_sub (is_add (is_mul (is_n n) (is_z vx)) (is_z sx)) (is_mul (is_n (n + t)) (is_z c)))) (is_mul (is_z b) (is_sub (is_add (is_mul (is_n n) (is_z vy)) (is_z sy)) (is_mul (is_n (n + t)) (is_z d)))))
        (omega arith)

equal_bounds : (n : ℕ) (z : ℤ) → (pos n *ℤ pos 0) ≤ℤ z → z ≤ℤ (pos n *ℤ pos 0) → z ≡ pos 0
equal_bounds n z h l = is_0 z (subst (λ t. z ≤ℤ t) (times_no (pos n)) l) (subst (λ t. t ≤ℤ z) (times_no (pos n)) h)

between_two : (a b : GridPoint) (ws : List WeightedPoint) → 1 ≤ square_edge (edge a b) → All (λ w. Contains (a ∷ b ∷ []) w.point) ws → IsOn (edge a b) (total_weight ws) (weighted_sum (λ v. v.x) ws) (weighted_sum (λ v. v.y) ws)
between_two a b ws some all = record {
  some = some;
  level = sym (cross_sum e ws) ∙ equal_bounds n (weighted_sum (λ v. cross e v) ws)
      (sum-ge C (λ v. cross e v) (pos 0) (λ v c. not_below (cross e v) (on v c)) ws all) (sum-le C (λ v. cross e v) (pos 0) (λ v c. not_above (cross e v) (on v c)) ws all);
  after = subst (λ z. pos 0 ≤ℤ z) (along_sum e ws) (subst (λ z. z ≤ℤ weighted_sum (λ v. along e v) ws) (times_no (pos n)) (sum-ge C (λ v. along e v) (pos 0) (λ v c. (span v c).0) ws all));
  before = subst (λ z. z ≤ℤ pos (n * square_edge e)) (along_sum e ws) (sum-le C (λ v. along e v) (pos (square_edge e)) (λ v c. (span v c).1) ws all);
}
  where
    e : Edge
    e = edge a b

    n : ℕ
    n = total_weight ws

    C : GridPoint → Type 0
    C v = Contains (a ∷ b ∷ []) v

    both : (P : GridPoint → Type 0) → P a → P b → (v : GridPoint) → Contains (a ∷ b ∷ []) v → P v
    both P pa pb v c = All-contains P (a ∷ b ∷ []) v (All-cons P a (b ∷ []) pa (All-cons P b [] pb (All-nil P))) c

    on : (v : GridPoint) → Contains (a ∷ b ∷ []) v → cross (edge a b) v ≡ pos 0
    on v c = both (λ u. cross (edge a b) u ≡ pos 0) (no_cross (edge a b)) (no_area a b) v c

    not_below : (z : ℤ) → z ≡ pos 0 → pos 0 ≤ℤ z
    not_below z h = omega (arith, ints)

    not_above : (z : ℤ) → z ≡ pos 0 → z ≤ℤ pos 0
    not_above z h = omega (arith, ints)

    at_start_of : (z : ℤ) (s : ℕ) → z ≡ pos 0 → (pos 0 ≤ℤ z) × (z ≤ℤ pos s)
    at_start_of z s h = (omega (arith, ints), omega (arith, ints))

    at_end_of : (z : ℤ) (s : ℕ) → z ≡ pos s → (pos 0 ≤ℤ z) × (z ≤ℤ pos s)
    at_end_of z s h = (omega (arith, ints), omega (arith, ints))

    span : (v : GridPoint) → Contains (a ∷ b ∷ []) v → (pos 0 ≤ℤ along (edge a b) v) × (along (edge a b) v ≤ℤ pos (square_edge (edge a b)))
    span v c = both (λ u. (pos 0 ≤ℤ along (edge a b) u) × (along (edge a b) u ≤ℤ pos (square_edge (edge a b))))
        (at_start_of (along (edge a b) a) (square_edge (edge a b)) (no_along (edge a b)))
        (at_end_of (along (edge a b) b) (square_edge (edge a b)) (length_is (b.x -ℤ a.x) (b.y -ℤ a.y))) v c

-- two different corners are apart
apart_ends : (a b : GridPoint) → not (int_eq a.x b.x && int_eq a.y b.y) ≡ true → 1 ≤ square_edge (edge a b)
apart_ends a b h = elim (cases_lt 0 (square_edge (edge a b))) [
  | inl more ↦ more
  | inr none ↦
      let flat = no_further (b.x -ℤ a.x) (b.y -ℤ a.y) 0 none in
      absurd (false≢true (sym (not-true (int_eq a.x b.x && int_eq a.y b.y) h) ∙ and_from (int_eq a.x b.x) (int_eq a.y b.y) ((Decides-int_eq a.x b.x).1 (level a.x b.x flat.0)) ((Decides-int_eq a.y b.y).1 (level a.y b.y flat.1))))
]
  where
    level : (u v : ℤ) → v -ℤ u ≡ pos 0 → u ≡ v
    level u v e = omega (arith, ints)

covers_points : (first : GridPoint) (others : List GridPoint) (radius : ℕ) → is_outline first others ≡ true → (p : GridPoint) → IsInRounded (record { first = first; others = others; radius = radius }) p → rounded_covers (record { first = first; others = others; radius = radius }) p 0 ≡ true
covers_points a [] radius outline p h =
    let r : GridRounded = record { first = a; others = []; radius = radius } in
    rim_covers r p (corner_rim r p a (first_corner r) ((one_corner_is_disc a radius p).0 h))
covers_points a (b ∷ []) radius outline p h =
    let r : GridRounded = record { first = a; others = b ∷ []; radius = radius } in
    let on = between_two a b h.parts (apart_ends a b outline) h.of_points in
    rim_covers r p (edge_rim r p (inl (near_edge (edge a b) (total_weight h.parts) (weighted_sum (λ v. v.x) h.parts) (weighted_sum (λ v. v.y) h.parts) radius p h.some on h.near)))
covers_points a (b ∷ c ∷ rest) radius outline p h = polygon_covers (record { first = a; others = b ∷ c ∷ rest; radius = radius }) p outline h

pub points_are_covered : PointsAreCovered
points_are_covered r outline p = (covers_points r.first r.others r.radius outline p, λ h. rounded_contains_covered r p 0 h p (no_distance p 0))

-- ---- the parts one by one

-- in the polygon, no further than the radius from a corner, or beside an edge
abbrev pub IsInParts : GridRounded → GridPoint → Type 0
IsInParts r p =
    (is_deep_inside r 0 p ≡ true) ⊎ (((v : GridPoint) × Contains (corners r) v × (square_distance p v ≤ square r.radius)) ⊎ ((e : Edge) × Contains (edges r) e × (is_beside e r.radius p ≡ true)))

pub parts_of : (r : GridRounded) → is_outline r.first r.others ≡ true → (p : GridPoint) → IsInRounded r p → IsInParts r p
parts_of r outline p h =
    by (or_cases (is_deep_inside r 0 p) (nat_le 0 r.radius && is_near_rim r r.radius p) (sym (covers_is r p) ∙ covers_points r.first r.others r.radius outline p h))
  where
    rim : (is_near_corner r r.radius p ≡ true) ⊎ (is_beside_some r r.radius p ≡ true) → IsInParts r p
    rim (inl corner) =
        let f = list_any_element (λ v. nat_le (square_distance p v) (square r.radius)) (corners r) corner in
        inr (inl (f.0, f.1, leb-true (square_distance p f.0) (square r.radius) f.2))
    rim (inr beside) = inr (inr (list_any_element (λ e. is_beside e r.radius p) (edges r) beside))

    by : (is_deep_inside r 0 p ≡ true) ⊎ ((nat_le 0 r.radius && is_near_rim r r.radius p) ≡ true) → IsInParts r p
    by (inl inside) = inl inside
    by (inr near) = rim (or_cases (is_near_corner r r.radius p) (is_beside_some r r.radius p) (and_parts (nat_le 0 r.radius) (is_near_rim r r.radius p) near).1)
