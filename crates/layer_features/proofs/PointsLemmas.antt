-- Each point of a shape that is mirrored, turned and moved comes from a point of the shape.
use Rattle.layer_features.proofs.Common.{◌≡◌, ◌∙◌, ℕ, zero, suc, ℤ, pos, ◌+◌, ◌*◌, ◌≤◌, ◌+ℤ◌, ◌-ℤ◌, ◌*ℤ◌, Bool, true, false, List, [], ◌∷◌, ◌++◌, map, reverse, Option, None, Some, unsigned_abs, refl, ap, sym, subst, arith, neg_ℤ, if◌then◌else◌, Contains, list_all, ints, reverse-append, All-map, none-some, GridPoint, square, GridRounded, IsInRounded, IsNear, WeightedPoint, corners, is_outline, total_weight, weighted_sum, is_near, moved_point, moved_shape, in_order, is_turned_over, mirrored_point, oriented_point, turned_point, FlashedShapesAreInPrimitives}
use Rattle.std.specs.Prelude.{◌==◌, unwrap_or}
use Rattle.pad_shapes.specs.Inner.Identities.{Is, is_add, is_mul, is_n, is_sub, is_z, same}
use Rattle.macro_shapes.specs.Shapes.{ShapeIsInPrimitives}
use Rattle.layer_state.specs.declared.mirroring.Mirroring.{Mirroring}

-- ---- sums

abbrev taken : (GridPoint → GridPoint) → WeightedPoint → WeightedPoint
taken back w = record { weight = w.weight; point = back w.point }

total-taken : (back : GridPoint → GridPoint) (ws : List WeightedPoint) → total_weight (map (taken back) ws) ≡ total_weight ws
total-taken back [] = refl
total-taken back (w ∷ ws) = ap (λ n. w.weight + n) (total-taken back ws)

sum-same : (c d : GridPoint → ℤ) (back : GridPoint → GridPoint) → ((v : GridPoint) → d (back v) ≡ c v) → (ws : List WeightedPoint) → weighted_sum d (map (taken back) ws) ≡ weighted_sum c ws
sum-same c d back e [] = refl
sum-same c d back e (w ∷ ws) = λ i. pos w.weight *ℤ e w.point i +ℤ sum-same c d back e ws i

is_neg : {z : ℤ} {p m : ℕ} → Is z p m → Is (neg_ℤ z) m p
is_neg {z} a = record { is = omega (arith, ints, a.is) }

negated_term : (n : ℕ) (a s : ℤ) → pos n *ℤ neg_ℤ a +ℤ neg_ℤ s ≡ neg_ℤ (pos n *ℤ a +ℤ s)
negated_term n a s = same (is_add (is_mul (is_n n) (is_neg (is_z a))) (is_neg (is_z s))) (is_neg (is_add (is_mul (is_n n) (is_z a)) (is_z s))) (omega arith)

sum-negated : (c d : GridPoint → ℤ) (back : GridPoint → GridPoint) → ((v : GridPoint) → d (back v) ≡ neg_ℤ (c v)) → (ws : List WeightedPoint) → weighted_sum d (map (taken back) ws) ≡ neg_ℤ (weighted_sum c ws)
sum-negated c d back e [] = refl
sum-negated c d back e (w ∷ ws) = (λ i. pos w.weight *ℤ e w.point i +ℤ sum-negated c d back e ws i) ∙ negated_term w.weight (c w.point) (weighted_sum c ws)

moved_term : (n t : ℕ) (a k s : ℤ) → pos n *ℤ (a -ℤ k) +ℤ (s -ℤ pos t *ℤ k) ≡ (pos n *ℤ a +ℤ s) -ℤ pos (n + t) *ℤ k
moved_term n t a k s =
    same (is_add (is_mul (is_n n) (is_sub (is_z a) (is_z k))) (is_sub (is_z s) (is_mul (is_n t) (is_z k)))) (is_sub (is_add (is_mul (is_n n) (is_z a)) (is_z s)) (is_mul (is_n (n + t)) (is_z k))) (omega arith)

no_step : (k : ℤ) → pos 0 ≡ pos 0 -ℤ pos 0 *ℤ k
no_step k = same (is_n 0) (is_sub (is_n 0) (is_mul (is_n 0) (is_z k))) (omega arith)

sum-moved : (c d : GridPoint → ℤ) (back : GridPoint → GridPoint) (k : ℤ) → ((v : GridPoint) → d (back v) ≡ c v -ℤ k) → (ws : List WeightedPoint) → weighted_sum d (map (taken back) ws) ≡ weighted_sum c ws -ℤ pos (total_weight ws) *ℤ k
sum-moved c d back k e [] = no_step k
sum-moved c d back k e (w ∷ ws) = (λ i. pos w.weight *ℤ e w.point i +ℤ sum-moved c d back k e ws i) ∙ moved_term w.weight (total_weight ws) (c w.point) k (weighted_sum c ws)

-- ---- distances

abs-neg : (z : ℤ) → unsigned_abs (neg_ℤ z) ≡ unsigned_abs z
abs-neg z = omega (arith, ints)

negated_step : (t : ℕ) (a s : ℤ) → pos t *ℤ neg_ℤ a -ℤ neg_ℤ s ≡ neg_ℤ (pos t *ℤ a -ℤ s)
negated_step t a s = same (is_sub (is_mul (is_n t) (is_neg (is_z a))) (is_neg (is_z s))) (is_neg (is_sub (is_mul (is_n t) (is_z a)) (is_z s))) (omega arith)

-- how far the mean of weighted points lies from a point along an axis, times the weights, squared
abbrev squared : ℕ → ℤ → ℤ → ℕ
squared t a s = square (unsigned_abs (pos t *ℤ a -ℤ s))

squared-negated : (t : ℕ) (a s r : ℤ) → r ≡ neg_ℤ s → squared t (neg_ℤ a) r ≡ squared t a s
squared-negated t a s r e = ap (λ (z : ℤ). squared t (neg_ℤ a) z) e ∙ ap (λ (z : ℤ). square (unsigned_abs z)) (negated_step t a s) ∙ ap square (abs-neg (pos t *ℤ a -ℤ s))

moved_step : (t : ℕ) (a k s : ℤ) → pos t *ℤ (a -ℤ k) -ℤ (s -ℤ pos t *ℤ k) ≡ pos t *ℤ a -ℤ s
moved_step t a k s = same (is_sub (is_mul (is_n t) (is_sub (is_z a) (is_z k))) (is_sub (is_z s) (is_mul (is_n t) (is_z k)))) (is_sub (is_mul (is_n t) (is_z a)) (is_z s)) (omega arith)

squared-moved : (t : ℕ) (a k s r : ℤ) → r ≡ s -ℤ pos t *ℤ k → squared t (a -ℤ k) r ≡ squared t a s
squared-moved t a k s r e = ap (λ (z : ℤ). squared t (a -ℤ k) z) e ∙ ap (λ (z : ℤ). square (unsigned_abs z)) (moved_step t a k s)

swapped : (a b c d : ℕ) → a ≡ d → b ≡ c → a + b ≡ c + d
swapped a b c d e f = omega (arith, e, f)

both : (a b c d : ℕ) → a ≡ c → b ≡ d → a + b ≡ c + d
both a b c d e f = omega (arith, e, f)

-- ---- what a map of the plane keeps

-- a point near mapped points is a mapped point that is as near to the points
abbrev Keeps : (GridPoint → GridPoint) → Type 0
Keeps there = (points : List GridPoint) (radius : ℕ) (p : GridPoint) → IsNear (map there points) radius p → (v : GridPoint) × IsNear points radius v × (there v ≡ p)

contained : (there back : GridPoint → GridPoint) → ((v : GridPoint) → back (there v) ≡ v) → (points : List GridPoint) (v : GridPoint) → Contains (map there points) v → Contains points (back v)
contained there back undone [] v (k, lt, e) = absurd (omega (arith, lt))
contained there back undone (a ∷ points) v (zero, lt, e) = (zero, omega arith, sym (undone a) ∙ ap back e)
contained there back undone (a ∷ points) v (suc k, lt, e) = let (j, below, is) = contained there back undone points v (k, omega (arith, lt), e) in (suc j, omega (arith, below), is)

-- the sum of squares of a point that is taken back is that of the point
abbrev Equal : (GridPoint → GridPoint) → Type 0
Equal back = (ws : List WeightedPoint) (p : GridPoint)
    → squared (total_weight ws) (back p).x (weighted_sum (λ v. v.x) (map (taken back) ws)) + squared (total_weight ws) (back p).y (weighted_sum (λ v. v.y) (map (taken back) ws))
    ≡ squared (total_weight ws) p.x (weighted_sum (λ v. v.x) ws) + squared (total_weight ws) p.y (weighted_sum (λ v. v.y) ws)

keeps : (there back : GridPoint → GridPoint) → ((v : GridPoint) → back (there v) ≡ v) → ((v : GridPoint) → there (back v) ≡ v) → Equal back → Keeps there
keeps there back undone redone equal points radius p h =
    let ws = map (taken back) h.parts in
    let near : squared (total_weight h.parts) (back p).x (weighted_sum (λ v. v.x) ws) + squared (total_weight h.parts) (back p).y (weighted_sum (λ v. v.y) ws) ≤ square (total_weight h.parts * radius) =
    subst (λ n. n ≤ square (total_weight h.parts * radius)) (sym (equal h.parts p)) h.near in (
      back p,
      record {
        parts = ws;
        of_points = All-map (λ (w : WeightedPoint). Contains points w.point) (taken back) h.parts (λ k d lt. contained there back undone points _ (h.of_points k d lt));
        some = subst (λ n. 1 ≤ n) (sym (total-taken back h.parts)) h.some;
        near = subst (λ n. squared n (back p).x (weighted_sum (λ v. v.x) ws) + squared n (back p).y (weighted_sum (λ v. v.y) ws) ≤ square (n * radius)) (sym (total-taken back h.parts)) near;
      },
      redone p,
    )

map-map : (f g : GridPoint → GridPoint) (ps : List GridPoint) → map f (map g ps) ≡ map (λ p. f (g p)) ps
map-map f g [] = refl
map-map f g (p ∷ ps) = ap (λ qs. f (g p) ∷ qs) (map-map f g ps)

keeps-both : (f g : GridPoint → GridPoint) → Keeps f → Keeps g → Keeps (λ p. f (g p))
keeps-both f g h k points radius p near =
    let (v, near_v, is_v) = h (map g points) radius p (subst (λ ps. IsNear ps radius p) (sym (map-map f g points)) near) in
    let (w, near_w, is_w) = k points radius v near_v in
    (w, near_w, ap f is_w ∙ is_v)

-- ---- the maps

neg-neg : (z : ℤ) → neg_ℤ (neg_ℤ z) ≡ z
neg-neg z = omega (arith, ints)

map-same : (ps : List GridPoint) → map (λ p. p) ps ≡ ps
map-same [] = refl
map-same (p ∷ ps) = ap (λ qs. p ∷ qs) (map-same ps)

left_as_is : Keeps (λ p. p)
left_as_is points radius p near = (p, subst (λ ps. IsNear ps radius p) (map-same points) near, refl)

abbrev flip_x : GridPoint → GridPoint
flip_x p = record { x = neg_ℤ p.x; y = p.y }

abbrev flip_y : GridPoint → GridPoint
flip_y p = record { x = p.x; y = neg_ℤ p.y }

abbrev left : GridPoint → GridPoint
left p = record { x = neg_ℤ p.y; y = p.x }

abbrev right : GridPoint → GridPoint
right p = record { x = p.y; y = neg_ℤ p.x }

keeps-flip_x : Keeps flip_x
keeps-flip_x = keeps flip_x flip_x (λ v i. record { x = neg-neg v.x i; y = v.y }) (λ v i. record { x = neg-neg v.x i; y = v.y })
    (λ ws p. both _ _ _ _ (squared-negated (total_weight ws) p.x _ _ (sum-negated (λ v. v.x) (λ v. v.x) flip_x (λ v. refl) ws)) (ap (λ (z : ℤ). squared (total_weight ws) p.y z) (sum-same (λ v. v.y) (λ v. v.y) flip_x (λ v. refl) ws)))

keeps-flip_y : Keeps flip_y
keeps-flip_y = keeps flip_y flip_y (λ v i. record { x = v.x; y = neg-neg v.y i }) (λ v i. record { x = v.x; y = neg-neg v.y i })
    (λ ws p. both _ _ _ _ (ap (λ (z : ℤ). squared (total_weight ws) p.x z) (sum-same (λ v. v.x) (λ v. v.x) flip_y (λ v. refl) ws)) (squared-negated (total_weight ws) p.y _ _ (sum-negated (λ v. v.y) (λ v. v.y) flip_y (λ v. refl) ws)))

keeps-left : Keeps left
keeps-left = keeps left right (λ v i. record { x = v.x; y = neg-neg v.y i }) (λ v i. record { x = neg-neg v.x i; y = v.y })
    (λ ws p. swapped _ _ _ _ (ap (λ (z : ℤ). squared (total_weight ws) p.y z) (sum-same (λ v. v.y) (λ v. v.x) right (λ v. refl) ws)) (squared-negated (total_weight ws) p.x _ _ (sum-negated (λ v. v.x) (λ v. v.y) right (λ v. refl) ws)))

keeps-right : Keeps right
keeps-right = keeps right left (λ v i. record { x = neg-neg v.x i; y = v.y }) (λ v i. record { x = v.x; y = neg-neg v.y i })
    (λ ws p. swapped _ _ _ _ (squared-negated (total_weight ws) p.y _ _ (sum-negated (λ v. v.y) (λ v. v.x) left (λ v. refl) ws)) (ap (λ (z : ℤ). squared (total_weight ws) p.x z) (sum-same (λ v. v.x) (λ v. v.y) left (λ v. refl) ws)))

abbrev moved_back : GridPoint → GridPoint → GridPoint
moved_back o p = record { x = p.x -ℤ o.x; y = p.y -ℤ o.y }

add-sub : (o a : ℤ) → (o +ℤ a) -ℤ o ≡ a
add-sub o a = omega (arith, ints)

sub-add : (o a : ℤ) → o +ℤ (a -ℤ o) ≡ a
sub-add o a = omega (arith, ints)

keeps-moved : (o : GridPoint) → Keeps (moved_point o)
keeps-moved o = keeps (moved_point o) (moved_back o) (λ v i. record { x = add-sub o.x v.x i; y = add-sub o.y v.y i }) (λ v i. record { x = sub-add o.x v.x i; y = sub-add o.y v.y i })
    (λ ws p. both _ _ _ _ (squared-moved (total_weight ws) p.x o.x _ _ (sum-moved (λ v. v.x) (λ v. v.x) (moved_back o) o.x (λ v. refl) ws)) (squared-moved (total_weight ws) p.y o.y _ _ (sum-moved (λ v. v.y) (λ v. v.y) (moved_back o) o.y (λ v. refl) ws)))

keeps-mirrored : (x y : Bool) → Keeps (mirrored_point (record { x = x; y = y }))
keeps-mirrored false false = left_as_is
keeps-mirrored true false = keeps-flip_x
keeps-mirrored false true = keeps-flip_y
keeps-mirrored true true = keeps-both flip_x flip_y keeps-flip_x keeps-flip_y

keeps-turned : (turns : ℕ) → Keeps (turned_point turns)
keeps-turned turns = by (turns == 0) (turns == 1) (turns == 2)
  where
    by : (a b c : Bool) → Keeps (λ p. record { x = if a then p.x else if b then neg_ℤ p.y else if c then neg_ℤ p.x else p.y; y = if a then p.y else if b then p.x else if c then neg_ℤ p.y else neg_ℤ p.x })
    by true b c = left_as_is
    by false true c = keeps-left
    by false false true = keeps-both left left keeps-left keeps-left
    by false false false = keeps-right

keeps-oriented : (m : Mirroring) (turns : ℕ) → Keeps (oriented_point m turns)
keeps-oriented m turns = keeps-both (turned_point turns) (mirrored_point m) (keeps-turned turns) (keeps-mirrored m.x m.y)

-- ---- order

-- a point is near to points just as it is to others that have each of them
near-among : (xs ys : List GridPoint) → ((v : GridPoint) → Contains xs v → Contains ys v) → (radius : ℕ) (p : GridPoint) → IsNear xs radius p → IsNear ys radius p
near-among xs ys among radius p h = record { parts = h.parts; of_points = λ k d lt. among _ (h.of_points k d lt); some = h.some; near = h.near }

in-front : {X : Type 0} (a : X) (xs ys : List X) → ((v : X) → Contains xs v → Contains ys v) → (v : X) → Contains (a ∷ xs) v → Contains (a ∷ ys) v
in-front a xs ys among v (zero, lt, e) = (zero, omega arith, e)
in-front a xs ys among v (suc k, lt, e) = let (j, below, is) = among v (k, omega (arith, lt), e) in (suc j, omega (arith, below), is)

either-part : {X : Type 0} (xs ys zs : List X) → ((v : X) → Contains xs v → Contains zs v) → ((v : X) → Contains ys v → Contains zs v) → (v : X) → Contains (xs ++ ys) v → Contains zs v
either-part [] ys zs h k v c = k v c
either-part (x ∷ xs) ys zs h k v (zero, lt, e) = h v (zero, omega arith, e)
either-part (x ∷ xs) ys zs h k v (suc n, lt, e) = either-part xs ys zs (λ w c. h w (let (j, below, is) = c in (suc j, omega (arith, below), is))) k v (n, omega (arith, lt), e)

alone : {X : Type 0} (x : X) (xs : List X) (v : X) → Contains (x ∷ []) v → Contains (x ∷ xs) v
alone x xs v (zero, lt, e) = (zero, omega arith, e)
alone x xs v (suc k, lt, e) = absurd (omega (arith, lt))

in-reverse : {X : Type 0} (xs : List X) (v : X) → Contains (reverse xs) v → Contains xs v
in-reverse [] v c = c
in-reverse (x ∷ xs) v c =
    either-part (reverse xs) (x ∷ []) (x ∷ xs) (λ w d. let (j, below, is) = in-reverse xs w d in (suc j, omega (arith, below), is)) (alone x xs) v (subst (λ l. Contains l v) (reverse-append (x ∷ []) xs) c)

in-order : (m : Mirroring) (first : GridPoint) (others : List GridPoint) (v : GridPoint) → Contains (first ∷ in_order m others) v → Contains (first ∷ others) v
in-order m first others v c = by (is_turned_over m) c
  where
    by : (b : Bool) → Contains (first ∷ (if b then reverse others else others)) v → Contains (first ∷ others) v
    by true d = in-front first (reverse others) others (λ w. in-reverse others w) v d
    by false d = d

-- ---- the law

pub some_is : {X : Type 0} (x y : X) → Some x ≡ Some y → x ≡ y
some_is {X} x y e = ap (λ (o : Option X). unwrap_or o x) e

some-if : {X : Type 0} (b : Bool) (x y : X) → (if b then Some x else None) ≡ Some y → x ≡ y
some-if true x y e = some_is x y e
some-if false x y e = absurd (none-some y e)

pub flashed_in_primitives : ShapeIsInPrimitives → FlashedShapesAreInPrimitives
flashed_in_primitives law qs s t pad is_shape m turns is_oriented offset is_pad p h =
    let there = oriented_point m turns in
    let moved : moved_shape offset t ≡ pad = some-if (list_all is_near (corners (moved_shape offset t))) (moved_shape offset t) pad is_pad in
    let turned : record { first = there s.first; others = in_order m (map there s.others); radius = s.radius } ≡ t =
    some-if (is_outline (there s.first) (in_order m (map there s.others))) (record { first = there s.first; others = in_order m (map there s.others); radius = s.radius }) t is_oriented in
    let (v, near_v, is_v) = keeps-moved offset (corners t) t.radius p (subst (λ (r : GridRounded). IsInRounded r p) (sym moved) h) in
    let ordered = near-among (there s.first ∷ in_order m (map there s.others)) (map there (corners s)) (λ w c. in-order m (there s.first) (map there s.others) w c) s.radius v (subst (λ (r : GridRounded). IsInRounded r v) (sym turned) near_v) in
    let (u, near_u, is_u) = keeps-oriented m turns (corners s) s.radius v ordered in
    let (q, has, is_in) = law qs s is_shape u near_u in
    (q, u, has, is_in, ap (moved_point offset) is_u ∙ is_v)
