-- Proofs of the laws of rounded polygons. Rounded.antt and Shapes.antt state what they prove.
use Rattle.std.proofs.Common.{◌≡◌, ℕ, ℤ, pos, negsuc, suc, ◌+◌, ◌-◌, ◌*◌, ◌≤◌, ◌<◌, ◌+ℤ◌, ◌-ℤ◌, ◌*ℤ◌, ◌≤ℤ◌, ◌<ℤ◌, unsigned_abs, true, List, [], ◌∷◌, refl, sym, ap, subst, ◌∙◌, ◌⊎◌, inl, inr, arith, mul-le-mul_left, le_refl, le_trans}
use Rattle.std.specs.Prelude.{◌&&◌, nat_le, int_le, int_lt}
use Rattle.std.specs.Int.{int_min, int_max}
use Rattle.std.specs.List.{All, Contains, fold, list_any, list_all}
use Rattle.std.proofs.lemmas.Bool.{and_from, or_left, or_right, le-leb, and_parts, or_cases, cases_lt, leb-true, false≢true}
use Rattle.std.proofs.lemmas.Int.{ints, clamps, by_lt_z, unsigned_abs-mul}
use Rattle.std.proofs.lemmas.List.Elements.{All-nil, All-cons, All-head, All-tail, All-contains, All-contains_itself}
use Rattle.grid_units.specs.Holes.{IsBetween}
use Rattle.grid_units.specs.Laws.{square_length}
use Rattle.grid_units.specs.Points.{GridPoint, abs_diff, square, square_distance}
use Rattle.std.proofs.lemmas.Nat.{mul-le}
use Rattle.grid_units.proofs.TriangleInequalities.{le_of_squares, square-le}
use Rattle.pad_shapes.specs.Shapes.{IsAxisAligned, IsInBox, ContainsCovered, ContainsCoveredSlots, CoveredIsBetween, HasExtent, covers_both_ends}
use Rattle.pad_shapes.specs.Rounded.{GridRounded, WeightedPoint, total_weight, weighted_sum, IsNear, IsInRounded, IsInSlot, corners, Edge, edges, cross, along, square_edge, is_deep_left, has_area, is_deep_inside, is_near_corner, is_beside, is_near_rim, is_deep_left_of_all, is_beside_some, CoversLess, rounded_covers, box_corner, rounded_left, rounded_right}
use Rattle.pad_shapes.specs.Inner.Identities.{is_z, is_n, is_add, is_sub, is_mul, same, of_natural, scaled-le, area-le, length_is, times-le, untimes-le}
use Rattle.pad_shapes.specs.Inner.Means.{IsNearMean, IsMean, HoldsRound, length_same, near_round, near_deep, near_point, near_means}
use Rattle.pad_shapes.specs.Inner.ShapeLaws.{by_order, other_side-le, side-le}
use Rattle.pad_shapes.specs.Inner.Fan.{edge, turn, each_edge, some_edge, map_each, map_some, edge_and_ends, fan}

-- ---- inside of each edge by a depth

-- a step to the side of an edge that is no longer than the depth allows
deep_turn : (whole depth s : ℕ) (w u : ℤ) → pos 0 ≤ℤ w → square depth * s ≤ square (unsigned_abs w) → square (unsigned_abs u) ≤ s * square whole → pos 0 ≤ℤ (pos whole *ℤ w +ℤ pos depth *ℤ u)
deep_turn whole depth s (pos n) (pos m) left deep near = omega (arith, ints)
deep_turn whole depth s (pos n) (negsuc m) left deep near =
    let first : (depth * depth) * (suc m * suc m) ≤ (depth * depth) * (s * (whole * whole)) = mul-le-mul_left (depth * depth) near in
    let second : (whole * whole) * ((depth * depth) * s) ≤ (whole * whole) * (n * n) = mul-le-mul_left (whole * whole) deep in
    let less : depth * suc m ≤ whole * n = le_of_squares (depth * suc m) (whole * n) (omega (arith, first, second)) in
    omega (arith, ints, less)
deep_turn whole depth s (negsuc n) u left deep near = absurd (omega (arith, ints))

turn_apart : (dx dy fx fy cx cy ex ey : ℤ) (whole depth : ℕ)
    → dx *ℤ ((pos whole *ℤ cy +ℤ pos depth *ℤ ey) -ℤ pos whole *ℤ fy) -ℤ dy *ℤ ((pos whole *ℤ cx +ℤ pos depth *ℤ ex) -ℤ pos whole *ℤ fx)
    ≡ pos whole *ℤ (dx *ℤ (cy -ℤ fy) -ℤ dy *ℤ (cx -ℤ fx)) +ℤ pos depth *ℤ (dx *ℤ ey -ℤ dy *ℤ ex)
turn_apart dx dy fx fy cx cy ex ey whole depth =
    same
    (is_sub (is_mul (is_z dx) (is_sub (is_add (is_mul (is_n whole) (is_z cy)) (is_mul (is_n depth) (is_z ey))) (is_mul (is_n whole) (is_z fy)))) (is_mul (is_z dy) (is_sub (is_add (is_mul (is_n whole) (is_z cx)) (is_mul (is_n depth) (is_z ex))) (is_mul (is_n whole) (is_z fx)))))
    (is_add (is_mul (is_n whole) (is_sub (is_mul (is_z dx) (is_sub (is_z cy) (is_z fy))) (is_mul (is_z dy) (is_sub (is_z cx) (is_z fx))))) (is_mul (is_n depth) (is_sub (is_mul (is_z dx) (is_z ey)) (is_mul (is_z dy) (is_z ex)))))
    (omega arith)

pub left_of : (z : ℤ) → int_le (pos 0) z ≡ true → pos 0 ≤ℤ z
left_of z h = omega (arith, ints)

above_of : (z : ℤ) → int_lt (pos 0) z ≡ true → pos 0 <ℤ z
above_of z h = omega (arith, ints)

-- a point of the disc round c, drawn towards c, lies to the right of no edge of which c lies so deep inside
deep_edge : (depth whole : ℕ) (c : GridPoint) (ex ey : ℤ) → square_length ex ey ≤ square whole → (e : Edge) → is_deep_left e depth c ≡ true
    → pos 0 ≤ℤ turn e whole (pos whole *ℤ c.x +ℤ pos depth *ℤ ex) (pos whole *ℤ c.y +ℤ pos depth *ℤ ey)
deep_edge depth whole c ex ey near e h =
    let both = and_parts (int_le (pos 0) (cross e c)) (nat_le (square depth * square_edge e) (square (unsigned_abs (cross e c)))) h in
    let deep : square depth * square_edge e ≤ square (unsigned_abs (cross e c)) = leb-true (square depth * square_edge e) (square (unsigned_abs (cross e c))) both.1 in
    let step = area-le (e.to.x -ℤ e.from.x) (e.to.y -ℤ e.from.y) ex ey whole near in
    subst (λ z. pos 0 ≤ℤ z) (sym (turn_apart (e.to.x -ℤ e.from.x) (e.to.y -ℤ e.from.y) e.from.x e.from.y c.x c.y ex ey whole depth))
    (deep_turn whole depth (square_edge e) (cross e c) ((e.to.x -ℤ e.from.x) *ℤ ey -ℤ (e.to.y -ℤ e.from.y) *ℤ ex) (left_of (cross e c) both.0) deep step)

-- the first corner lies on the line from itself
start_turn : (f : GridPoint) (k : ℕ) (x y : ℤ) → turn (edge f f) k x y ≡ pos 0
start_turn f k x y = flat f.x f.y (y -ℤ pos k *ℤ f.y) (x -ℤ pos k *ℤ f.x)
  where
    flat : (a b u v : ℤ) → (a -ℤ a) *ℤ u -ℤ (b -ℤ b) *ℤ v ≡ pos 0
    flat a b u v = same (is_sub (is_mul (is_sub (is_z a) (is_z a)) (is_z u)) (is_mul (is_sub (is_z b) (is_z b)) (is_z v))) (is_n 0) (omega arith)

not_below_0 : (z : ℤ) → z ≡ pos 0 → pos 0 ≤ℤ z
not_below_0 z e = omega (arith, ints)

-- a point that is drawn towards a centre deep inside is a mean of corners
deep_mean : (r : GridRounded) (depth whole : ℕ) (c : GridPoint) (ex ey : ℤ) → 1 ≤ whole → square_length ex ey ≤ square whole → is_deep_inside r depth c ≡ true
    → IsMean (Contains (corners r)) whole (pos whole *ℤ c.x +ℤ pos depth *ℤ ex) (pos whole *ℤ c.y +ℤ pos depth *ℤ ey)
deep_mean r depth whole c ex ey one near h =
    let x = pos whole *ℤ c.x +ℤ pos depth *ℤ ex in
    let y = pos whole *ℤ c.y +ℤ pos depth *ℤ ey in
    let both = and_parts (has_area r) (list_all (λ e. is_deep_left e depth c) (edges r)) h in
    let all : All (Contains (corners r)) (corners r) = All-contains_itself (corners r) in
    let first : Contains (corners r) r.first = All-head (Contains (corners r)) r.first r.others all in
    let rest : All (Contains (corners r)) r.others = All-tail (Contains (corners r)) r.first r.others all in
    fan (Contains (corners r)) r.first whole x y one first r.first r.others first rest (not_below_0 (turn (edge r.first r.first) whole x y) (start_turn r.first whole x y))
    (map_each (λ e. is_deep_left e depth c ≡ true) (λ e. pos 0 ≤ℤ turn e whole x y) (deep_edge depth whole c ex ey near) r.first r.first r.others (each_edge (λ e. is_deep_left e depth c) r.first r.first r.others both.1))
    (inr (map_some (λ e. int_lt (pos 0) (cross e r.first) ≡ true) (λ e. pos 0 <ℤ cross e r.first) (λ e. above_of (cross e r.first)) r.first r.first r.others (some_edge (λ e. int_lt (pos 0) (cross e r.first)) r.first r.first r.others both.0)))

-- ---- within a distance of the polygon

-- some mean of corners is no further than the distance
record IsNearBy (C : GridPoint → Type 0) (distance : ℕ) (c : GridPoint) : Type 0 where
  parts : List WeightedPoint
  each : All (λ w. C w.point) parts
  some : 1 ≤ total_weight parts
  near : square_length (pos (total_weight parts) *ℤ c.x -ℤ weighted_sum (λ v. v.x) parts) (pos (total_weight parts) *ℤ c.y -ℤ weighted_sum (λ v. v.y) parts) ≤ square (total_weight parts * distance)

pub one_point : (c v : ℤ) → pos 1 *ℤ c -ℤ (pos 1 *ℤ v +ℤ pos 0) ≡ c -ℤ v
one_point c v = omega (arith, ints)

near_corner : (C : GridPoint → Type 0) (distance : ℕ) (c v : GridPoint) → C v → square_distance c v ≤ square distance → IsNearBy C distance c
near_corner C distance c v cv h = record {
  parts = record { weight = 1; point = v } ∷ [];
  each = All-cons (λ w. C w.point) (record { weight = 1; point = v }) [] cv (All-nil (λ w. C w.point));
  some = omega arith;
  near = length_same _ _ _ _ (1 * distance) distance (one_point c.x v.x) (one_point c.y v.y) (omega arith) h;
}

some_corner : (C : GridPoint → Type 0) (distance : ℕ) (c : GridPoint) (vs : List GridPoint) → All C vs → list_any (λ v. nat_le (square_distance c v) (square distance)) vs ≡ true → IsNearBy C distance c
some_corner C distance c [] all h = absurd (false≢true h)
some_corner C distance c (v ∷ vs) all h = elim (or_cases (nat_le (square_distance c v) (square distance)) (list_any (λ v. nat_le (square_distance c v) (square distance)) vs) h) [
  | inl here ↦ near_corner C distance c v (All-head C v vs all) (leb-true (square_distance c v) (square distance) here)
  | inr later ↦ some_corner C distance c vs (All-tail C v vs all) later
]

-- the foot of a point on an edge: what lies past it at right angles is the edge's area, turned
foot_x : (ax ay bx by cx cy : ℤ) → ((bx -ℤ ax) *ℤ (bx -ℤ ax) +ℤ (by -ℤ ay) *ℤ (by -ℤ ay)) *ℤ (cx -ℤ ax) -ℤ ((bx -ℤ ax) *ℤ (cx -ℤ ax) +ℤ (by -ℤ ay) *ℤ (cy -ℤ ay)) *ℤ (bx -ℤ ax)
    ≡ (ay -ℤ by) *ℤ ((bx -ℤ ax) *ℤ (cy -ℤ ay) -ℤ (by -ℤ ay) *ℤ (cx -ℤ ax))
foot_x ax ay bx by cx cy = turned (bx -ℤ ax) (by -ℤ ay) (cx -ℤ ax) (cy -ℤ ay) (ay -ℤ by) (omega (arith, ints))
  where
    turned : (dx dy ex ey ny : ℤ) → ny ≡ pos 0 -ℤ dy → (dx *ℤ dx +ℤ dy *ℤ dy) *ℤ ex -ℤ (dx *ℤ ex +ℤ dy *ℤ ey) *ℤ dx ≡ ny *ℤ (dx *ℤ ey -ℤ dy *ℤ ex)
    turned dx dy ex ey ny e =
        same (is_sub (is_mul (is_add (is_mul (is_z dx) (is_z dx)) (is_mul (is_z dy) (is_z dy))) (is_z ex)) (is_mul (is_add (is_mul (is_z dx) (is_z ex)) (is_mul (is_z dy) (is_z ey))) (is_z dx)))
        (is_mul (is_sub (is_n 0) (is_z dy)) (is_sub (is_mul (is_z dx) (is_z ey)) (is_mul (is_z dy) (is_z ex)))) (omega arith)
        ∙ ap (λ z. z *ℤ (dx *ℤ ey -ℤ dy *ℤ ex)) (sym e)

foot_y : (dx dy ex ey : ℤ) → (dx *ℤ dx +ℤ dy *ℤ dy) *ℤ ey -ℤ (dx *ℤ ex +ℤ dy *ℤ ey) *ℤ dy ≡ dx *ℤ (dx *ℤ ey -ℤ dy *ℤ ex)
foot_y dx dy ex ey =
    same (is_sub (is_mul (is_add (is_mul (is_z dx) (is_z dx)) (is_mul (is_z dy) (is_z dy))) (is_z ey)) (is_mul (is_add (is_mul (is_z dx) (is_z ex)) (is_mul (is_z dy) (is_z ey))) (is_z dy)))
    (is_mul (is_z dx) (is_sub (is_mul (is_z dx) (is_z ey)) (is_mul (is_z dy) (is_z ex)))) (omega arith)

-- the step from the foot on the line from a to b, of which the one part is s less l and the other l
foot_step : (s l n : ℕ) (a b c d e : ℤ) → s ≡ n + l → d ≡ pos s → e ≡ pos l → pos (n + (l + 0)) *ℤ c -ℤ (pos n *ℤ a +ℤ (pos l *ℤ b +ℤ pos 0)) ≡ d *ℤ (c -ℤ a) -ℤ e *ℤ (b -ℤ a)
foot_step s l n a b c d e sum f g =
    same (is_sub (is_mul (is_n (n + (l + 0))) (is_z c)) (is_add (is_mul (is_n n) (is_z a)) (is_add (is_mul (is_n l) (is_z b)) (is_n 0))))
    (is_sub (is_mul (is_n (n + l)) (is_sub (is_z c) (is_z a))) (is_mul (is_n l) (is_sub (is_z b) (is_z a)))) (omega arith)
    ∙ (λ i. (ap pos (sym sum) ∙ sym f) i *ℤ (c -ℤ a) -ℤ sym g i *ℤ (b -ℤ a))

swapped : (a b : ℤ) → unsigned_abs (a -ℤ b) ≡ unsigned_abs (b -ℤ a)
swapped a b = omega (arith, ints)

-- a step across an edge and one along it, each times the same number
length_across : (dy dx n : ℤ) (m : ℕ) → unsigned_abs n ≡ unsigned_abs dy → (area : ℤ) → square (unsigned_abs area) ≤ square m * square_length dx dy → square_length (n *ℤ area) (dx *ℤ area) ≤ square (square_length dx dy * m)
length_across dy dx n m e area h =
    let p = unsigned_abs-mul n area in
    let q = unsigned_abs-mul dx area in
    let k : square_length dx dy * square (unsigned_abs area) ≤ square_length dx dy * (square m * square_length dx dy) = mul-le-mul_left (square_length dx dy) h in
    let is : square_length (n *ℤ area) (dx *ℤ area) ≡ square (unsigned_abs dy * unsigned_abs area) + square (unsigned_abs dx * unsigned_abs area) =
    (λ i. square (p i) + square (q i)) ∙ ap (λ t. square (t * unsigned_abs area) + square (unsigned_abs dx * unsigned_abs area)) e in
    subst (λ t. t ≤ square (square_length dx dy * m)) (sym is) (omega (arith, k))

between_0 : (z : ℤ) (s : ℕ) → pos 0 <ℤ z → z <ℤ pos s → (1 ≤ unsigned_abs z) × (unsigned_abs z < s) × (z ≡ pos (unsigned_abs z))
between_0 (pos n) s h k = (omega (arith, ints), omega (arith, ints), refl)
between_0 (negsuc n) s h k = absurd (omega (arith, ints))

beside_edge : (C : GridPoint → Type 0) (distance : ℕ) (c : GridPoint) (e : Edge) → C e.from → C e.to → is_beside e distance c ≡ true → IsNearBy C distance c
beside_edge C distance c e ca cb h =
    let parts = and_parts (int_lt (pos 0) (along e c) && int_lt (along e c) (pos (square_edge e))) (nat_le (square (unsigned_abs (cross e c))) (square distance * square_edge e)) h in
    let ends = and_parts (int_lt (pos 0) (along e c)) (int_lt (along e c) (pos (square_edge e))) parts.0 in
    let foot = between_0 (along e c) (square_edge e) (above_of (along e c) ends.0) (below_of (along e c) (pos (square_edge e)) ends.1) in
    let s = square_edge e in
    let l = unsigned_abs (along e c) in
    let n = s - l in
    let sum : s ≡ n + l = omega (arith, foot.1) in
    let d : (e.to.x -ℤ e.from.x) *ℤ (e.to.x -ℤ e.from.x) +ℤ (e.to.y -ℤ e.from.y) *ℤ (e.to.y -ℤ e.from.y) ≡ pos s = length_is (e.to.x -ℤ e.from.x) (e.to.y -ℤ e.from.y) in
    let across = length_across (e.to.y -ℤ e.from.y) (e.to.x -ℤ e.from.x) (e.from.y -ℤ e.to.y) distance (swapped e.from.y e.to.y) (cross e c) (leb-true (square (unsigned_abs (cross e c))) (square distance * square_edge e) parts.1) in
    record {
      parts = record { weight = n; point = e.from } ∷ record { weight = l; point = e.to } ∷ [];
      each = All-cons (λ w. C w.point) (record { weight = n; point = e.from }) (record { weight = l; point = e.to } ∷ []) ca (All-cons (λ w. C w.point) (record { weight = l; point = e.to }) [] cb (All-nil (λ w. C w.point)));
      some = omega (arith, foot.0);
      near = length_same _ _ _ _ ((n + (l + 0)) * distance) (s * distance)
          (foot_step s l n e.from.x e.to.x c.x _ _ sum d foot.2 ∙ foot_x e.from.x e.from.y e.to.x e.to.y c.x c.y)
          (foot_step s l n e.from.y e.to.y c.y _ _ sum d foot.2 ∙ foot_y (e.to.x -ℤ e.from.x) (e.to.y -ℤ e.from.y) (c.x -ℤ e.from.x) (c.y -ℤ e.from.y))
          (ap (λ t. t * distance) (omega (arith, sum))) across;
    }
  where
    below_of : (a b : ℤ) → int_lt a b ≡ true → a <ℤ b
    below_of a b t = omega (arith, ints)

near_rim : (r : GridRounded) (distance : ℕ) (c : GridPoint) → is_near_rim r distance c ≡ true → IsNearBy (Contains (corners r)) distance c
near_rim r distance c h =
    let all : All (Contains (corners r)) (corners r) = All-contains_itself (corners r) in
    let first : Contains (corners r) r.first = All-head (Contains (corners r)) r.first r.others all in
    let rest : All (Contains (corners r)) r.others = All-tail (Contains (corners r)) r.first r.others all in
    elim (or_cases (is_near_corner r distance c) (list_any (λ e. is_beside e distance c) (edges r)) h) [
      | inl corner ↦ some_corner (Contains (corners r)) distance c (corners r) all corner
      | inr side ↦
          let found = edge_and_ends (Contains (corners r)) (λ e. is_beside e distance c) r.first first r.first r.others first rest side in
          beside_edge (Contains (corners r)) distance c found.0 found.2 found.3 found.1
    ]

no_step : (c : ℤ) (n : ℕ) (s : ℤ) → pos 1 *ℤ s ≡ pos n *ℤ (pos 1 *ℤ c +ℤ pos 0 *ℤ pos 0) → pos n *ℤ c -ℤ s ≡ pos 0
no_step c n s e =
    let same_c : pos 1 *ℤ c +ℤ pos 0 *ℤ pos 0 ≡ c = omega (arith, ints) in
    let f : pos 1 *ℤ s ≡ pos n *ℤ c = e ∙ ap (λ z. pos n *ℤ z) same_c in
    omega (arith, ints, f)

-- a centre inside of each edge is itself a mean
inside_near_by : (r : GridRounded) (distance : ℕ) (c : GridPoint) → is_deep_inside r 0 c ≡ true → IsNearBy (Contains (corners r)) distance c
inside_near_by r distance c h =
    let mean = deep_mean r 0 1 c (pos 0) (pos 0) (omega arith) (omega arith) h in
    record {
      parts = mean.parts;
      each = mean.each;
      some = mean.some;
      near = length_same _ _ (pos 0) (pos 0) (total_weight mean.parts * distance) (total_weight mean.parts * distance) (no_step c.x (total_weight mean.parts) _ mean.x_is) (no_step c.y (total_weight mean.parts) _ mean.y_is) refl (omega arith);
    }

pub inside_is_near : (r : GridRounded) (c : GridPoint) → is_deep_inside r 0 c ≡ true → IsNear (corners r) 0 c
inside_is_near r c h = let by = inside_near_by r 0 c h in record { parts = by.parts; of_points = by.each; some = by.some; near = by.near }

-- ---- what is covered is held

near_holds : (r : GridRounded) (c : GridPoint) (reach : ℕ) → reach ≤ r.radius → IsNearBy (Contains (corners r)) (r.radius - reach) c → HoldsRound (Contains (corners r)) r.radius reach c
near_holds r c reach less by k x y one h =
    let sum : reach + (r.radius - reach) ≡ r.radius = omega (arith, less) in
    subst (λ n. IsNearMean (Contains (corners r)) n k x y) sum (near_round (Contains (corners r)) by.parts reach (r.radius - reach) c by.each by.some by.near k x y h)

deep_holds : (r : GridRounded) (c : GridPoint) (reach : ℕ) → r.radius < reach → is_deep_inside r (reach - r.radius) c ≡ true → HoldsRound (Contains (corners r)) r.radius reach c
deep_holds r c reach more h k x y one near =
    let depth = reach - r.radius in
    let whole = k * (r.radius + depth) in
    let sum : reach ≡ r.radius + depth = omega (arith, more) in
    let within : square_length (x -ℤ pos k *ℤ c.x) (y -ℤ pos k *ℤ c.y) ≤ square whole = subst (λ n. square_length (x -ℤ pos k *ℤ c.x) (y -ℤ pos k *ℤ c.y) ≤ square (k * n)) sum near in
    let some : 1 ≤ whole = product_above k (r.radius + depth) one (omega (arith, more)) in
    near_deep (Contains (corners r)) r.radius depth c k x y some (deep_mean r depth whole c (x -ℤ pos k *ℤ c.x) (y -ℤ pos k *ℤ c.y) some within h) within
  where
    product_above : (a b : ℕ) → 1 ≤ a → 1 ≤ b → 1 ≤ a * b
    product_above a b p q = let t : a * 1 ≤ a * b = mul-le-mul_left a q in omega (arith, t, p)

pub holds_round : (r : GridRounded) (c : GridPoint) (reach : ℕ) → rounded_covers r c reach ≡ true → HoldsRound (Contains (corners r)) r.radius reach c
holds_round r c reach h =
    elim (or_cases (is_deep_inside r (reach - r.radius) c) (nat_le reach r.radius && is_near_rim r (r.radius - reach) c) h) [
      | inl deep ↦ elim (cases_lt r.radius reach) [
        | inl more ↦ deep_holds r c reach more deep
        | inr less ↦
            let none : reach - r.radius ≡ 0 = omega (arith, less) in
            near_holds r c reach less (inside_near_by r (r.radius - reach) c (subst (λ n. is_deep_inside r n c ≡ true) none deep))
      ]
      | inr near ↦
          let both = and_parts (nat_le reach r.radius) (is_near_rim r (r.radius - reach) c) near in
          near_holds r c reach (leb-true reach r.radius both.0) (near_rim r (r.radius - reach) c both.1)
    ]

one_step : (p c : ℤ) → pos 1 *ℤ p -ℤ pos 1 *ℤ c ≡ p -ℤ c
one_step p c = omega (arith, ints)

pub rounded_contains_covered : ContainsCovered IsInRounded rounded_covers
rounded_contains_covered r c reach e p h =
    near_point (corners r) r.radius 1 p (omega arith)
    (holds_round r c reach e 1 (pos 1 *ℤ p.x) (pos 1 *ℤ p.y) (omega arith) (length_same _ _ _ _ (1 * reach) reach (one_step p.x c.x) (one_step p.y c.y) (omega arith) h))

-- where both ends of a slot are covered, at any angle, each point within the reach of the line between them is in the shape
pub rounded_contains_lines : (r : GridRounded) (from to : GridPoint) (reach : ℕ) → covers_both_ends rounded_covers r from to reach ≡ true → (p : GridPoint) → IsInSlot from to reach p → IsInRounded r p
rounded_contains_lines r from to reach ends p h =
    let both = and_parts (rounded_covers r from reach) (rounded_covers r to reach) ends in
    let H = HoldsRound (Contains (corners r)) r.radius reach in
    near_means (corners r) (from ∷ to ∷ []) r.radius reach
    (All-cons H from (to ∷ []) (holds_round r from reach both.0) (All-cons H to [] (holds_round r to reach both.1) (All-nil H))) p h

-- ---- slots along an axis

-- a number between two others divides the way from one to the other
record Divides (f t c : ℤ) : Type 0 where
  first : ℕ
  second : ℕ
  some : 1 ≤ first + second
  mean : pos (first + second) *ℤ c ≡ pos first *ℤ f +ℤ pos second *ℤ t

divide_z : (f t c : ℤ) → ((t -ℤ c) +ℤ (c -ℤ f)) *ℤ c ≡ (t -ℤ c) *ℤ f +ℤ (c -ℤ f) *ℤ t
divide_z f t c =
    same (is_mul (is_add (is_sub (is_z t) (is_z c)) (is_sub (is_z c) (is_z f))) (is_z c)) (is_add (is_mul (is_sub (is_z t) (is_z c)) (is_z f)) (is_mul (is_sub (is_z c) (is_z f)) (is_z t))) (omega arith)

divide_up : (f t c : ℤ) → f ≤ℤ c → c ≤ℤ t → (i j : ℕ) → pos i ≡ t -ℤ c → pos j ≡ c -ℤ f → pos (i + j) *ℤ c ≡ pos i *ℤ f +ℤ pos j *ℤ t
divide_up f t c low high i j e g = (λ n. (e n +ℤ g n) *ℤ c) ∙ divide_z f t c ∙ (λ n. sym e n *ℤ f +ℤ sym g n *ℤ t)

all_same : (c : ℤ) → pos (1 + 0) *ℤ c ≡ pos 1 *ℤ c +ℤ pos 0 *ℤ c
all_same c = omega (arith, ints)

is_natural : (a b : ℤ) → b ≤ℤ a → pos (unsigned_abs (a -ℤ b)) ≡ a -ℤ b
is_natural a b h = of_natural (a -ℤ b) (omega (arith, ints))

divides_up : (f t c : ℤ) → f ≤ℤ c → c ≤ℤ t → Divides f t c
divides_up f t c low high = by_lt_z f t
    (λ less. record {
      first = unsigned_abs (t -ℤ c);
      second = unsigned_abs (c -ℤ f);
      some = omega (arith, ints);
      mean = divide_up f t c low high (unsigned_abs (t -ℤ c)) (unsigned_abs (c -ℤ f)) (is_natural t c high) (is_natural c f low);
    })
    (λ more. let same_f : c ≡ f = omega (arith, ints) in let same_t : c ≡ t = omega (arith, ints) in record {
      first = 1;
      second = 0;
      some = omega arith;
      mean = all_same c ∙ (λ i. pos 1 *ℤ same_f i +ℤ pos 0 *ℤ same_t i);
    })

turn_around : (i j : ℕ) (f t c : ℤ) → pos (i + j) *ℤ c ≡ pos i *ℤ t +ℤ pos j *ℤ f → pos (j + i) *ℤ c ≡ pos j *ℤ f +ℤ pos i *ℤ t
turn_around i j f t c e = omega (arith, ints, e)

divides : (f t c : ℤ) → IsBetween f t c → Divides f t c
divides f t c between = by_order f t
    (λ up. divides_up f t c (omega (arith, ints, clamps)) (omega (arith, ints, clamps)))
    (λ down. let d = divides_up t f c (omega (arith, ints, clamps)) (omega (arith, ints, clamps)) in
    record { first = d.second; second = d.first; some = omega (arith, d.some); mean = turn_around d.first d.second f t c d.mean })

fixed : (f t c : ℤ) (i j : ℕ) → f ≡ t → IsBetween f t c → pos (i + j) *ℤ c ≡ pos i *ℤ f +ℤ pos j *ℤ t
fixed f t c i j e between =
    let same_f : c ≡ f = omega (arith, ints, clamps) in
    let same_t : c ≡ t = omega (arith, ints, clamps) in
    same (is_mul (is_n (i + j)) (is_z c)) (is_add (is_mul (is_n i) (is_z c)) (is_mul (is_n j) (is_z c))) (omega arith) ∙ (λ n. pos i *ℤ same_f n +ℤ pos j *ℤ same_t n)

mean_step : (i j : ℕ) (f t c p : ℤ) → pos (i + j) *ℤ c ≡ pos i *ℤ f +ℤ pos j *ℤ t → pos (i + (j + 0)) *ℤ p -ℤ (pos i *ℤ f +ℤ (pos j *ℤ t +ℤ pos 0)) ≡ pos (i + (j + 0)) *ℤ (p -ℤ c)
mean_step i j f t c p e =
    let sum : pos i *ℤ f +ℤ (pos j *ℤ t +ℤ pos 0) ≡ pos (i + j) *ℤ c = regroup (pos i *ℤ f) (pos j *ℤ t) ∙ sym e in
    ap (λ z. pos (i + (j + 0)) *ℤ p -ℤ z) sum ∙ same (is_sub (is_mul (is_n (i + (j + 0))) (is_z p)) (is_mul (is_n (i + j)) (is_z c))) (is_mul (is_n (i + (j + 0))) (is_sub (is_z p) (is_z c))) (omega arith)
  where
    regroup : (a b : ℤ) → a +ℤ (b +ℤ pos 0) ≡ a +ℤ b
    regroup a b = omega (arith, ints)

-- a point within the reach of one that divides a slot is in the slot
in_slot : (from to c p : GridPoint) (reach i j : ℕ) → 1 ≤ i + j → pos (i + j) *ℤ c.x ≡ pos i *ℤ from.x +ℤ pos j *ℤ to.x → pos (i + j) *ℤ c.y ≡ pos i *ℤ from.y +ℤ pos j *ℤ to.y → square_distance p c ≤ square reach → IsInSlot from to reach p
in_slot from to c p reach i j some x y h = record {
  parts = record { weight = i; point = from } ∷ record { weight = j; point = to } ∷ [];
  of_points = All-cons (λ w. Contains (from ∷ to ∷ []) w.point) (record { weight = i; point = from }) (record { weight = j; point = to } ∷ []) (0, omega arith, refl) (All-cons (λ w. Contains (from ∷ to ∷ []) w.point) (record { weight = j; point = to }) [] (1, omega arith, refl) (All-nil (λ w. Contains (from ∷ to ∷ []) w.point)));
  some = omega (arith, some);
  near = length_same _ _ _ _ ((i + (j + 0)) * reach) ((i + (j + 0)) * reach) (mean_step i j from.x to.x c.x p.x x) (mean_step i j from.y to.y c.y p.y y) refl (scaled-le (i + (j + 0)) reach (p.x -ℤ c.x) (p.y -ℤ c.y) h);
}

pub axis_in_slot : (from to c p : GridPoint) (reach : ℕ) → IsAxisAligned from to → IsInBox from to c → square_distance p c ≤ square reach → IsInSlot from to reach p
axis_in_slot from to c p reach aligned inside h = elim aligned [
  | inl upright ↦ let d = divides from.y to.y c.y inside.1 in in_slot from to c p reach d.first d.second d.some (fixed from.x to.x c.x d.first d.second upright inside.0) d.mean h
  | inr lying ↦ let d = divides from.x to.x c.x inside.0 in in_slot from to c p reach d.first d.second d.some d.mean (fixed from.y to.y c.y d.first d.second lying inside.1) h
]

pub rounded_contains_slots : ContainsCoveredSlots IsInRounded rounded_covers
rounded_contains_slots r from to reach aligned ends c p inside h = rounded_contains_lines r from to reach ends p (axis_in_slot from to c p reach aligned inside h)

-- ---- the least and the greatest x

least_below : (f : GridPoint → ℤ) (a : ℤ) (vs : List GridPoint) → (fold (λ least v. int_min least (f v)) a vs ≤ℤ a) × All (λ v. fold (λ least u. int_min least (f u)) a vs ≤ℤ f v) vs
least_below f a [] = (omega (arith, ints), All-nil (λ v. a ≤ℤ f v))
least_below f a (v ∷ vs) =
    let rest = least_below f (int_min a (f v)) vs in
    let m = fold (λ least u. int_min least (f u)) (int_min a (f v)) vs in
    (below_first m a (f v) rest.0, All-cons (λ u. m ≤ℤ f u) v vs (below_second m a (f v) rest.0) rest.1)
  where
    below_first : (m a b : ℤ) → m ≤ℤ int_min a b → m ≤ℤ a
    below_first m a b h = omega (arith, ints, clamps)

    below_second : (m a b : ℤ) → m ≤ℤ int_min a b → m ≤ℤ b
    below_second m a b h = omega (arith, ints, clamps)

greatest_above : (f : GridPoint → ℤ) (a : ℤ) (vs : List GridPoint) → (a ≤ℤ fold (λ greatest v. int_max greatest (f v)) a vs) × All (λ v. f v ≤ℤ fold (λ greatest u. int_max greatest (f u)) a vs) vs
greatest_above f a [] = (omega (arith, ints), All-nil (λ v. f v ≤ℤ a))
greatest_above f a (v ∷ vs) =
    let rest = greatest_above f (int_max a (f v)) vs in
    let m = fold (λ greatest u. int_max greatest (f u)) (int_max a (f v)) vs in
    (above_first m a (f v) rest.0, All-cons (λ u. f u ≤ℤ m) v vs (above_second m a (f v) rest.0) rest.1)
  where
    above_first : (m a b : ℤ) → int_max a b ≤ℤ m → a ≤ℤ m
    above_first m a b h = omega (arith, ints, clamps)

    above_second : (m a b : ℤ) → int_max a b ≤ℤ m → b ≤ℤ m
    above_second m a b h = omega (arith, ints, clamps)

-- some corner has it
record IsReached (vs : List GridPoint) (z : ℤ) : Type 0 where
  point : GridPoint
  among : Contains vs point
  is : point.x ≡ z

min_cases : (a b : ℤ) → (int_min a b ≡ a) ⊎ (int_min a b ≡ b)
min_cases a b = by_order a b (λ h. inl (omega (arith, ints, clamps))) (λ h. inr (omega (arith, ints, clamps)))

max_cases : (a b : ℤ) → (int_max a b ≡ a) ⊎ (int_max a b ≡ b)
max_cases a b = by_order a b (λ h. inr (omega (arith, ints, clamps))) (λ h. inl (omega (arith, ints, clamps)))

later : (v : GridPoint) (vs : List GridPoint) (z : ℤ) → IsReached vs z → IsReached (v ∷ vs) z
later v vs z h = record { point = h.point; among = (suc h.among.0, omega (arith, h.among.1), h.among.2); is = h.is }

here : (v : GridPoint) (vs : List GridPoint) (z : ℤ) → v.x ≡ z → IsReached (v ∷ vs) z
here v vs z e = record { point = v; among = (0, omega arith, refl); is = e }

least_reached : (a : ℤ) (vs : List GridPoint) → (a ≡ fold (λ least v. int_min least v.x) a vs) ⊎ IsReached vs (fold (λ least v. int_min least v.x) a vs)
least_reached a [] = inl refl
least_reached a (v ∷ vs) =
    let m = fold (λ least u. int_min least u.x) (int_min a v.x) vs in
    elim (least_reached (int_min a v.x) vs) [
      | inl start ↦ elim (min_cases a v.x) [ inl first ↦ inl (sym first ∙ start) | inr second ↦ inr (here v vs m (sym second ∙ start)) ]
      | inr among ↦ inr (later v vs m among)
    ]

greatest_reached : (a : ℤ) (vs : List GridPoint) → (a ≡ fold (λ greatest v. int_max greatest v.x) a vs) ⊎ IsReached vs (fold (λ greatest v. int_max greatest v.x) a vs)
greatest_reached a [] = inl refl
greatest_reached a (v ∷ vs) =
    let m = fold (λ greatest u. int_max greatest u.x) (int_max a v.x) vs in
    elim (greatest_reached (int_max a v.x) vs) [
      | inl start ↦ elim (max_cases a v.x) [ inl first ↦ inl (sym first ∙ start) | inr second ↦ inr (here v vs m (sym second ∙ start)) ]
      | inr among ↦ inr (later v vs m among)
    ]

-- a weighted sum is at least, and at most, what it is of a bound
pub sum-ge : (C : GridPoint → Type 0) (f : GridPoint → ℤ) (low : ℤ) → ((v : GridPoint) → C v → low ≤ℤ f v) → (ws : List WeightedPoint) → All (λ w. C w.point) ws → (pos (total_weight ws) *ℤ low) ≤ℤ weighted_sum f ws
sum-ge C f low bound [] all = omega (arith, ints)
sum-ge C f low bound (w ∷ ws) all =
    more-ge w.weight (total_weight ws) low (f w.point) (weighted_sum f ws) (times-le w.weight low (f w.point) (bound w.point (All-head (λ u. C u.point) w ws all))) (sum-ge C f low bound ws (All-tail (λ u. C u.point) w ws all))
  where
    more-ge : (w t : ℕ) (low v s : ℤ) → (pos w *ℤ low) ≤ℤ (pos w *ℤ v) → (pos t *ℤ low) ≤ℤ s → (pos (w + t) *ℤ low) ≤ℤ (pos w *ℤ v +ℤ s)
    more-ge w t low v s h k = omega (arith, ints, h, k)

pub sum-le : (C : GridPoint → Type 0) (f : GridPoint → ℤ) (high : ℤ) → ((v : GridPoint) → C v → f v ≤ℤ high) → (ws : List WeightedPoint) → All (λ w. C w.point) ws → weighted_sum f ws ≤ℤ (pos (total_weight ws) *ℤ high)
sum-le C f high bound [] all = omega (arith, ints)
sum-le C f high bound (w ∷ ws) all =
    more-le w.weight (total_weight ws) high (f w.point) (weighted_sum f ws) (times-le w.weight (f w.point) high (bound w.point (All-head (λ u. C u.point) w ws all))) (sum-le C f high bound ws (All-tail (λ u. C u.point) w ws all))
  where
    more-le : (w t : ℕ) (high v s : ℤ) → (pos w *ℤ v) ≤ℤ (pos w *ℤ high) → s ≤ℤ (pos t *ℤ high) → (pos w *ℤ v +ℤ s) ≤ℤ (pos (w + t) *ℤ high)
    more-le w t high v s h k = omega (arith, ints, h, k)

moved_less : (n rho : ℕ) (z : ℤ) → pos n *ℤ (z -ℤ pos rho) ≡ pos n *ℤ z -ℤ pos (n * rho)
moved_less n rho z = same (is_mul (is_n n) (is_sub (is_z z) (is_n rho))) (is_sub (is_mul (is_n n) (is_z z)) (is_n (n * rho))) (omega arith)

moved_more : (n rho : ℕ) (z : ℤ) → pos n *ℤ (z +ℤ pos rho) ≡ pos n *ℤ z +ℤ pos (n * rho)
moved_more n rho z = same (is_mul (is_n n) (is_add (is_z z) (is_n rho))) (is_add (is_mul (is_n n) (is_z z)) (is_n (n * rho))) (omega arith)

at_least : (n rho : ℕ) (p s low : ℤ) → 1 ≤ n → unsigned_abs (pos n *ℤ p -ℤ s) ≤ n * rho → (pos n *ℤ low) ≤ℤ s → (low -ℤ pos rho) ≤ℤ p
at_least n rho p s low some near below =
    untimes-le n (low -ℤ pos rho) p some (subst (λ z. z ≤ℤ (pos n *ℤ p)) (sym (moved_less n rho low)) (chain (pos n *ℤ p) s (pos n *ℤ low) (n * rho) near below))
  where
    chain : (p s low : ℤ) (m : ℕ) → unsigned_abs (p -ℤ s) ≤ m → low ≤ℤ s → (low -ℤ pos m) ≤ℤ p
    chain p s low m h k = omega (arith, ints)

at_most : (n rho : ℕ) (p s high : ℤ) → 1 ≤ n → unsigned_abs (pos n *ℤ p -ℤ s) ≤ n * rho → s ≤ℤ (pos n *ℤ high) → p ≤ℤ (high +ℤ pos rho)
at_most n rho p s high some near above =
    untimes-le n p (high +ℤ pos rho) some (subst (λ z. (pos n *ℤ p) ≤ℤ z) (sym (moved_more n rho high)) (chain (pos n *ℤ p) s (pos n *ℤ high) (n * rho) near above))
  where
    chain : (p s high : ℤ) (m : ℕ) → unsigned_abs (p -ℤ s) ≤ m → s ≤ℤ high → p ≤ℤ (high +ℤ pos m)
    chain p s high m h k = omega (arith, ints)

-- the point beside a corner
beside_corner : (r : GridRounded) (x : ℤ) (v : GridPoint) → Contains (corners r) v → abs_diff x v.x ≡ r.radius → IsInRounded r (record { x = x; y = v.y })
beside_corner r x v among h = record {
  parts = record { weight = 1; point = v } ∷ [];
  of_points = All-cons (λ w. Contains (corners r) w.point) (record { weight = 1; point = v }) [] among (All-nil (λ w. Contains (corners r) w.point));
  some = omega arith;
  near = length_same _ _ _ _ (1 * r.radius) r.radius (one_point x v.x) (one_point v.y v.y) (omega arith) (level x v.x v.y r.radius h);
}
  where
    level : (x a b : ℤ) (n : ℕ) → abs_diff x a ≡ n → square_length (x -ℤ a) (b -ℤ b) ≤ square n
    level x a b n e = let z : unsigned_abs (b -ℤ b) ≡ 0 = omega (arith, ints) in omega (arith, ap square e, ap square z)

-- the corner of the greatest or the least x
reached : (r : GridRounded) (z : ℤ) → (r.first.x ≡ z) ⊎ IsReached r.others z → IsReached (corners r) z
reached r z (inl first) = here r.first r.others z first
reached r z (inr among) = later r.first r.others z among

left_by : (v low : ℤ) (n : ℕ) → v ≡ low → abs_diff (low -ℤ pos n) v ≡ n
left_by v low n e = omega (arith, ints)

right_by : (v high : ℤ) (n : ℕ) → v ≡ high → abs_diff (high +ℤ pos n) v ≡ n
right_by v high n e = omega (arith, ints)

-- the least of one coordinate of the corners
abbrev least_corner : (GridPoint → ℤ) → GridRounded → ℤ
least_corner f r = fold (λ least v. int_min least (f v)) (f r.first) r.others

-- the greatest of one coordinate of the corners
abbrev greatest_corner : (GridPoint → ℤ) → GridRounded → ℤ
greatest_corner f r = fold (λ greatest v. int_max greatest (f v)) (f r.first) r.others

-- one coordinate of a point that is no further than the radius from a mean of corners
above_least : (r : GridRounded) (f : GridPoint → ℤ) (parts : List WeightedPoint) (p : ℤ) → All (λ w. Contains (corners r) w.point) parts → 1 ≤ total_weight parts → unsigned_abs (pos (total_weight parts) *ℤ p -ℤ weighted_sum f parts) ≤ total_weight parts * r.radius → (least_corner f r -ℤ pos r.radius) ≤ℤ p
above_least r f parts p each some near =
    let low = least_corner f r in
    let lows = least_below f (f r.first) r.others in
    at_least (total_weight parts) r.radius p (weighted_sum f parts) low some near
    (sum-ge (Contains (corners r)) f low (λ v c. All-contains (λ u. low ≤ℤ f u) (corners r) v (All-cons (λ u. low ≤ℤ f u) r.first r.others lows.0 lows.1) c) parts each)

below_greatest : (r : GridRounded) (f : GridPoint → ℤ) (parts : List WeightedPoint) (p : ℤ) → All (λ w. Contains (corners r) w.point) parts → 1 ≤ total_weight parts → unsigned_abs (pos (total_weight parts) *ℤ p -ℤ weighted_sum f parts) ≤ total_weight parts * r.radius → p ≤ℤ (greatest_corner f r +ℤ pos r.radius)
below_greatest r f parts p each some near =
    let high = greatest_corner f r in
    let highs = greatest_above f (f r.first) r.others in
    at_most (total_weight parts) r.radius p (weighted_sum f parts) high some near
    (sum-le (Contains (corners r)) f high (λ v c. All-contains (λ u. f u ≤ℤ high) (corners r) v (All-cons (λ u. f u ≤ℤ high) r.first r.others highs.0 highs.1) c) parts each)

near_x : (r : GridRounded) (p : GridPoint) (h : IsInRounded r p) → unsigned_abs (pos (total_weight h.parts) *ℤ p.x -ℤ weighted_sum (λ v. v.x) h.parts) ≤ total_weight h.parts * r.radius
near_x r p h =
    side-le (unsigned_abs (pos (total_weight h.parts) *ℤ p.x -ℤ weighted_sum (λ v. v.x) h.parts)) (unsigned_abs (pos (total_weight h.parts) *ℤ p.y -ℤ weighted_sum (λ v. v.y) h.parts)) (total_weight h.parts * r.radius) h.near

near_y : (r : GridRounded) (p : GridPoint) (h : IsInRounded r p) → unsigned_abs (pos (total_weight h.parts) *ℤ p.y -ℤ weighted_sum (λ v. v.y) h.parts) ≤ total_weight h.parts * r.radius
near_y r p h =
    other_side-le (unsigned_abs (pos (total_weight h.parts) *ℤ p.x -ℤ weighted_sum (λ v. v.x) h.parts)) (unsigned_abs (pos (total_weight h.parts) *ℤ p.y -ℤ weighted_sum (λ v. v.y) h.parts)) (total_weight h.parts * r.radius) h.near

pub rounded_extent : HasExtent IsInRounded rounded_left rounded_right
rounded_extent r =
    let low = (box_corner int_min r).x in
    let high = (box_corner int_max r).x in
    let left = reached r low (least_reached r.first.x r.others) in
    let right = reached r high (greatest_reached r.first.x r.others) in
    record {
      least = λ p h. above_least r (λ v. v.x) h.parts p.x h.of_points h.some (near_x r p h);
      greatest = λ p h. below_greatest r (λ v. v.x) h.parts p.x h.of_points h.some (near_x r p h);
      attains_least = (left.point.y, beside_corner r (low -ℤ pos r.radius) left.point left.among (left_by left.point.x low r.radius left.is));
      attains_greatest = (right.point.y, beside_corner r (high +ℤ pos r.radius) right.point right.among (right_by right.point.x high r.radius right.is));
    }

-- a point is within any distance of itself
pub no_distance : (c : GridPoint) (n : ℕ) → square_distance c c ≤ square n
no_distance c n =
    let x : abs_diff c.x c.x ≡ 0 = omega (arith, ints) in
    let y : abs_diff c.y c.y ≡ 0 = omega (arith, ints) in
    omega (arith, ap square x, ap square y)

pub rounded_between : CoveredIsBetween rounded_covers rounded_left rounded_right
rounded_between r c reach e =
    let point = rounded_contains_covered r c reach e c (no_distance c reach) in
    let extent = rounded_extent r in
    (extent.least c point, extent.greatest c point)

-- ---- the box of what is covered

-- the points that are the reach to the left, to the right, above and below a covered centre are points of the shape
pub rounded_bounds : (r : GridRounded) (c : GridPoint) (reach n : ℕ) → reach ≤ n → rounded_covers r c n ≡ true
    → (((((box_corner int_min r).x -ℤ pos r.radius) +ℤ pos reach) ≤ℤ c.x) × (c.x ≤ℤ (((box_corner int_max r).x +ℤ pos r.radius) -ℤ pos reach)))
    × (((((box_corner int_min r).y -ℤ pos r.radius) +ℤ pos reach) ≤ℤ c.y) × (c.y ≤ℤ (((box_corner int_max r).y +ℤ pos r.radius) -ℤ pos reach)))
rounded_bounds r c reach n less e =
    let left = rounded_contains_covered r c n e (record { x = c.x -ℤ pos n; y = c.y }) (aside (c.x -ℤ pos n) c.x c.y n (left_by c.x c.x n refl)) in
    let right = rounded_contains_covered r c n e (record { x = c.x +ℤ pos n; y = c.y }) (aside (c.x +ℤ pos n) c.x c.y n (right_by c.x c.x n refl)) in
    let bottom = rounded_contains_covered r c n e (record { x = c.x; y = c.y -ℤ pos n }) (upright (c.y -ℤ pos n) c.y c.x n (left_by c.y c.y n refl)) in
    let top = rounded_contains_covered r c n e (record { x = c.x; y = c.y +ℤ pos n }) (upright (c.y +ℤ pos n) c.y c.x n (right_by c.y c.y n refl)) in (
      (
        low ((box_corner int_min r).x -ℤ pos r.radius) c.x (above_least r (λ v. v.x) left.parts (c.x -ℤ pos n) left.of_points left.some (near_x r (record { x = c.x -ℤ pos n; y = c.y }) left)),
        high ((box_corner int_max r).x +ℤ pos r.radius) c.x (below_greatest r (λ v. v.x) right.parts (c.x +ℤ pos n) right.of_points right.some (near_x r (record { x = c.x +ℤ pos n; y = c.y }) right)),
      ),
      (
        low ((box_corner int_min r).y -ℤ pos r.radius) c.y (above_least r (λ v. v.y) bottom.parts (c.y -ℤ pos n) bottom.of_points bottom.some (near_y r (record { x = c.x; y = c.y -ℤ pos n }) bottom)),
        high ((box_corner int_max r).y +ℤ pos r.radius) c.y (below_greatest r (λ v. v.y) top.parts (c.y +ℤ pos n) top.of_points top.some (near_y r (record { x = c.x; y = c.y +ℤ pos n }) top)),
      ),
    )
  where
    aside : (a b d : ℤ) (k : ℕ) → abs_diff a b ≡ k → square (abs_diff a b) + square (abs_diff d d) ≤ square k
    aside a b d k h = let z : abs_diff d d ≡ 0 = omega (arith, ints) in omega (arith, ap square h, ap square z)

    upright : (a b d : ℤ) (k : ℕ) → abs_diff a b ≡ k → square (abs_diff d d) + square (abs_diff a b) ≤ square k
    upright a b d k h = let z : abs_diff d d ≡ 0 = omega (arith, ints) in omega (arith, ap square h, ap square z)

    low : (l z : ℤ) → l ≤ℤ (z -ℤ pos n) → (l +ℤ pos reach) ≤ℤ z
    low l z h = omega (arith, ints)

    high : (l z : ℤ) → (z +ℤ pos n) ≤ℤ l → z ≤ℤ (l -ℤ pos reach)
    high l z h = omega (arith, ints)

-- ---- lesser reaches

-- a test that passes only where another does
deeper : (e : Edge) (c : GridPoint) (depth less : ℕ) → less ≤ depth → is_deep_left e depth c ≡ true → is_deep_left e less c ≡ true
deeper e c depth less h t =
    let both = and_parts (int_le (pos 0) (cross e c)) (nat_le (square depth * square_edge e) (square (unsigned_abs (cross e c)))) t in
    let deep : square depth * square_edge e ≤ square (unsigned_abs (cross e c)) = leb-true (square depth * square_edge e) (square (unsigned_abs (cross e c))) both.1 in
    let squares : less * less ≤ depth * depth = square-le less depth h in
    let edges_less : square less * square_edge e ≤ square depth * square_edge e = mul-le (square less) (square_edge e) (square depth) (square_edge e) squares (le_refl (square_edge e)) in
    and_from (int_le (pos 0) (cross e c)) (nat_le (square less * square_edge e) (square (unsigned_abs (cross e c)))) both.0 (le-leb (square less * square_edge e) (square (unsigned_abs (cross e c))) (le_trans edges_less deep))

all_deeper : (c : GridPoint) (depth less : ℕ) → less ≤ depth → (es : List Edge) → list_all (λ e. is_deep_left e depth c) es ≡ true → list_all (λ e. is_deep_left e less c) es ≡ true
all_deeper c depth less h [] t = refl
all_deeper c depth less h (e ∷ es) t =
    let both = and_parts (is_deep_left e depth c) (list_all (λ e. is_deep_left e depth c) es) t in
    and_from (is_deep_left e less c) (list_all (λ e. is_deep_left e less c) es) (deeper e c depth less h both.0) (all_deeper c depth less h es both.1)

any_corner : (c : GridPoint) (distance more : ℕ) → distance ≤ more → (vs : List GridPoint) → list_any (λ v. nat_le (square_distance c v) (square distance)) vs ≡ true → list_any (λ v. nat_le (square_distance c v) (square more)) vs ≡ true
any_corner c distance more h [] t = absurd (false≢true t)
any_corner c distance more h (v ∷ vs) t = elim (or_cases (nat_le (square_distance c v) (square distance)) (list_any (λ v. nat_le (square_distance c v) (square distance)) vs) t) [
  | inl here ↦
      let near : square_distance c v ≤ square distance = leb-true (square_distance c v) (square distance) here in
      or_left (nat_le (square_distance c v) (square more)) (list_any (λ v. nat_le (square_distance c v) (square more)) vs) (le-leb (square_distance c v) (square more) (le_trans near (square-le distance more h)))
  | inr later ↦ or_right (nat_le (square_distance c v) (square more)) (list_any (λ v. nat_le (square_distance c v) (square more)) vs) (any_corner c distance more h vs later)
]

wider : (e : Edge) (c : GridPoint) (distance more : ℕ) → distance ≤ more → is_beside e distance c ≡ true → is_beside e more c ≡ true
wider e c distance more h t =
    let parts = and_parts (int_lt (pos 0) (along e c) && int_lt (along e c) (pos (square_edge e))) (nat_le (square (unsigned_abs (cross e c))) (square distance * square_edge e)) t in
    let near : square (unsigned_abs (cross e c)) ≤ square distance * square_edge e = leb-true (square (unsigned_abs (cross e c))) (square distance * square_edge e) parts.1 in
    let edges_more : square distance * square_edge e ≤ square more * square_edge e = mul-le (square distance) (square_edge e) (square more) (square_edge e) (square-le distance more h) (le_refl (square_edge e)) in
    and_from (int_lt (pos 0) (along e c) && int_lt (along e c) (pos (square_edge e))) (nat_le (square (unsigned_abs (cross e c))) (square more * square_edge e)) parts.0
    (le-leb (square (unsigned_abs (cross e c))) (square more * square_edge e) (le_trans near edges_more))

any_wider : (c : GridPoint) (distance more : ℕ) → distance ≤ more → (es : List Edge) → list_any (λ e. is_beside e distance c) es ≡ true → list_any (λ e. is_beside e more c) es ≡ true
any_wider c distance more h [] t = absurd (false≢true t)
any_wider c distance more h (e ∷ es) t = elim (or_cases (is_beside e distance c) (list_any (λ e. is_beside e distance c) es) t) [
  | inl here ↦ or_left (is_beside e more c) (list_any (λ e. is_beside e more c) es) (wider e c distance more h here)
  | inr later ↦ or_right (is_beside e more c) (list_any (λ e. is_beside e more c) es) (any_wider c distance more h es later)
]

nearer_rim : (r : GridRounded) (c : GridPoint) (distance more : ℕ) → distance ≤ more → is_near_rim r distance c ≡ true → is_near_rim r more c ≡ true
nearer_rim r c distance more h t = elim (or_cases (is_near_corner r distance c) (is_beside_some r distance c) t) [
  | inl corner ↦ or_left (is_near_corner r more c) (is_beside_some r more c) (any_corner c distance more h (corners r) corner)
  | inr side ↦ or_right (is_near_corner r more c) (is_beside_some r more c) (any_wider c distance more h (edges r) side)
]

pub covers_less : CoversLess
covers_less r c reach less h t = elim (or_cases (is_deep_inside r (reach - r.radius) c) (nat_le reach r.radius && is_near_rim r (r.radius - reach) c) t) [
  | inl deep ↦
      let both = and_parts (has_area r) (is_deep_left_of_all r (reach - r.radius) c) deep in
      or_left (is_deep_inside r (less - r.radius) c) (nat_le less r.radius && is_near_rim r (r.radius - less) c)
      (and_from (has_area r) (is_deep_left_of_all r (less - r.radius) c) both.0 (all_deeper c (reach - r.radius) (less - r.radius) (omega (arith, h)) (edges r) both.1))
  | inr near ↦
      let both = and_parts (nat_le reach r.radius) (is_near_rim r (r.radius - reach) c) near in
      let within : reach ≤ r.radius = leb-true reach r.radius both.0 in
      or_right (is_deep_inside r (less - r.radius) c) (nat_le less r.radius && is_near_rim r (r.radius - less) c)
      (and_from (nat_le less r.radius) (is_near_rim r (r.radius - less) c) (le-leb less r.radius (le_trans h within)) (nearer_rim r c (r.radius - reach) (r.radius - less) (omega (arith, h)) both.1))
]
