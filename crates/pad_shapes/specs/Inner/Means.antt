-- Means of points, and what lies within a radius of them: sums of such points, discs round them, and lines between them.
use Rattle.std.proofs.Common.{◌≡◌, ℕ, ℤ, pos, ◌+◌, ◌*◌, ◌≤◌, ◌+ℤ◌, ◌-ℤ◌, ◌*ℤ◌, List, [], ◌∷◌, ◌++◌, map, refl, sym, ap, subst, ◌∙◌, ◌⊎◌, inl, inr, arith}
use Rattle.std.proofs.lemmas.Bool.{cases_eq}
use Rattle.std.proofs.lemmas.Int.{ints}
use Rattle.std.proofs.lemmas.List.Elements.{All-append, All-map, All-head, All-tail, All-contains}
use Rattle.std.proofs.lemmas.Nat.{mul-le}
use Rattle.std.specs.List.{All, Contains}
use Rattle.grid_units.specs.Laws.{square_length}
use Rattle.grid_units.specs.Points.{GridPoint, square}
use Rattle.grid_units.proofs.TriangleInequalities.{triangle_inequality}
use Rattle.pad_shapes.specs.Rounded.{WeightedPoint, total_weight, weighted_sum, IsNear}
use Rattle.pad_shapes.specs.Inner.Identities.{is_z, is_n, is_add, is_sub, is_mul, same, scaled-le, unscaled-le}

pub total_weight-append : (a b : List WeightedPoint) → total_weight (a ++ b) ≡ total_weight a + total_weight b
total_weight-append [] b = omega arith
total_weight-append (w ∷ a) b = omega (arith, total_weight-append a b)

pub weighted_sum-append : (f : GridPoint → ℤ) (a b : List WeightedPoint) → weighted_sum f (a ++ b) ≡ weighted_sum f a +ℤ weighted_sum f b
weighted_sum-append f [] b = omega (arith, ints)
weighted_sum-append f (w ∷ a) b = regrouped (pos w.weight *ℤ f w.point) _ _ _ (weighted_sum-append f a b)
  where
    regrouped : (x s t u : ℤ) → u ≡ s +ℤ t → x +ℤ u ≡ (x +ℤ s) +ℤ t
    regrouped x s t u e = omega (arith, ints, e)

-- each point counts n times as often
abbrev pub times : ℕ → List WeightedPoint → List WeightedPoint
times n ws = map (λ w. record { weight = n * w.weight; point = w.point }) ws

total_weight-times : (n : ℕ) (ws : List WeightedPoint) → total_weight (times n ws) ≡ n * total_weight ws
total_weight-times n [] = omega arith
total_weight-times n (w ∷ ws) = omega (arith, total_weight-times n ws)

distributed : (n w : ℕ) (a b : ℤ) → pos (n * w) *ℤ a +ℤ pos n *ℤ b ≡ pos n *ℤ (pos w *ℤ a +ℤ b)
distributed n w a b =
    same (is_add (is_mul (is_n (n * w)) (is_z a)) (is_mul (is_n n) (is_z b))) (is_mul (is_n n) (is_add (is_mul (is_n w) (is_z a)) (is_z b))) (omega arith)

no_multiple : (n : ℕ) → pos 0 ≡ pos n *ℤ pos 0
no_multiple n = ap pos (omega arith)

weighted_sum-times : (f : GridPoint → ℤ) (n : ℕ) (ws : List WeightedPoint) → weighted_sum f (times n ws) ≡ pos n *ℤ weighted_sum f ws
weighted_sum-times f n [] = no_multiple n
weighted_sum-times f n (w ∷ ws) =
    ap (λ z. pos (n * w.weight) *ℤ f w.point +ℤ z) (weighted_sum-times f n ws) ∙ distributed n w.weight (f w.point) (weighted_sum f ws)

-- k times some point is (x, y), and that point is no further than the radius from a mean of points with a property
pub record IsNearMean (C : GridPoint → Type 0) (radius k : ℕ) (x y : ℤ) : Type 0 where
  pub parts : List WeightedPoint
  pub each : All (λ w. C w.point) parts
  pub some : 1 ≤ total_weight parts
  pub near : square_length (pos (total_weight parts) *ℤ x -ℤ pos k *ℤ weighted_sum (λ v. v.x) parts) (pos (total_weight parts) *ℤ y -ℤ pos k *ℤ weighted_sum (λ v. v.y) parts) ≤ square (total_weight parts * (k * radius))

pub near_same : (C : GridPoint → Type 0) (radius k l : ℕ) (x y u v : ℤ) → IsNearMean C radius k x y → k ≡ l → x ≡ u → y ≡ v → IsNearMean C radius l u v
near_same C radius k l x y u v h e f g =
    subst (λ n. IsNearMean C radius n u v) e (subst (λ z. IsNearMean C radius k z v) f (subst (λ z. IsNearMean C radius k x z) g h))

-- an order of lengths, at equal steps
pub length_same : (a b c d : ℤ) (m n : ℕ) → a ≡ c → b ≡ d → m ≡ n → square_length c d ≤ square n → square_length a b ≤ square m
length_same a b c d m n e f g h =
    subst (λ x. x ≤ square m) (λ i. square_length (sym e i) (sym f i)) (subst (λ x. square_length c d ≤ square x) (sym g) h)

scaled_step : (n j k : ℕ) (x s : ℤ) → pos n *ℤ (pos j *ℤ x) -ℤ pos (j * k) *ℤ s ≡ pos j *ℤ (pos n *ℤ x -ℤ pos k *ℤ s)
scaled_step n j k x s =
    same (is_sub (is_mul (is_n n) (is_mul (is_n j) (is_z x))) (is_mul (is_n (j * k)) (is_z s)))
    (is_mul (is_n j) (is_sub (is_mul (is_n n) (is_z x)) (is_mul (is_n k) (is_z s)))) (omega arith)

pub near_times : (C : GridPoint → Type 0) (radius j k : ℕ) (x y : ℤ) → IsNearMean C radius k x y → IsNearMean C radius (j * k) (pos j *ℤ x) (pos j *ℤ y)
near_times C radius j k x y h =
    let n = total_weight h.parts in
    record {
      parts = h.parts;
      each = h.each;
      some = h.some;
      near = length_same _ _ _ _ (n * ((j * k) * radius)) (j * (n * (k * radius))) (scaled_step n j k x (weighted_sum (λ v. v.x) h.parts)) (scaled_step n j k y (weighted_sum (λ v. v.y) h.parts)) (omega arith)
          (scaled-le j (n * (k * radius)) (pos n *ℤ x -ℤ pos k *ℤ weighted_sum (λ v. v.x) h.parts) (pos n *ℤ y -ℤ pos k *ℤ weighted_sum (λ v. v.y) h.parts) h.near);
    }

summed_step : (n m k l : ℕ) (x u s t : ℤ)
    → pos ((m * k) * n + (n * l) * m) *ℤ (x +ℤ u) -ℤ pos (k + l) *ℤ (pos (m * k) *ℤ s +ℤ pos (n * l) *ℤ t)
    ≡ pos ((k + l) * m) *ℤ (pos n *ℤ x -ℤ pos k *ℤ s) +ℤ pos ((k + l) * n) *ℤ (pos m *ℤ u -ℤ pos l *ℤ t)
summed_step n m k l x u s t =
    same
    (is_sub (is_mul (is_n ((m * k) * n + (n * l) * m)) (is_add (is_z x) (is_z u))) (is_mul (is_n (k + l)) (is_add (is_mul (is_n (m * k)) (is_z s)) (is_mul (is_n (n * l)) (is_z t)))))
    (is_add (is_mul (is_n ((k + l) * m)) (is_sub (is_mul (is_n n) (is_z x)) (is_mul (is_n k) (is_z s)))) (is_mul (is_n ((k + l) * n)) (is_sub (is_mul (is_n m) (is_z u)) (is_mul (is_n l) (is_z t)))))
    (omega arith)

one-le-products : (m k n l : ℕ) → 1 ≤ m → 1 ≤ k → 1 ≤ n → 1 ≤ (m * k) * n + l
one-le-products m k n l a b c =
    let p : 1 * 1 ≤ m * k = mul-le 1 1 m k a b in
    let q : (1 * 1) * 1 ≤ (m * k) * n = mul-le (1 * 1) 1 (m * k) n p c in
    omega (arith, q)

pub near_add : (C : GridPoint → Type 0) (radius k l : ℕ) (x y u v : ℤ) → 1 ≤ k → IsNearMean C radius k x y → IsNearMean C radius l u v → IsNearMean C radius (k + l) (x +ℤ u) (y +ℤ v)
near_add C radius k l x y u v one g h =
    let n = total_weight g.parts in
    let m = total_weight h.parts in
    let parts : List WeightedPoint = times (m * k) g.parts ++ times (n * l) h.parts in
    let total : total_weight parts ≡ (m * k) * n + (n * l) * m =
    total_weight-append (times (m * k) g.parts) (times (n * l) h.parts) ∙ (λ i. total_weight-times (m * k) g.parts i + total_weight-times (n * l) h.parts i) in
    let sums : (f : GridPoint → ℤ) → weighted_sum f parts ≡ pos (m * k) *ℤ weighted_sum f g.parts +ℤ pos (n * l) *ℤ weighted_sum f h.parts = λ f.
    weighted_sum-append f (times (m * k) g.parts) (times (n * l) h.parts) ∙ (λ i. weighted_sum-times f (m * k) g.parts i +ℤ weighted_sum-times f (n * l) h.parts i) in
    let step : (f : GridPoint → ℤ) (z w : ℤ) → pos (total_weight parts) *ℤ (z +ℤ w) -ℤ pos (k + l) *ℤ weighted_sum f parts
    ≡ pos ((k + l) * m) *ℤ (pos n *ℤ z -ℤ pos k *ℤ weighted_sum f g.parts) +ℤ pos ((k + l) * n) *ℤ (pos m *ℤ w -ℤ pos l *ℤ weighted_sum f h.parts) = λ f z w.
    (λ i. pos (total i) *ℤ (z +ℤ w) -ℤ pos (k + l) *ℤ sums f i) ∙ summed_step n m k l z w (weighted_sum f g.parts) (weighted_sum f h.parts) in
    let times_n : total_weight parts * ((k + l) * radius) ≡ ((m * k) * n + (n * l) * m) * ((k + l) * radius) = ap (λ t. t * ((k + l) * radius)) total in
    record {
      parts = parts;
      each = All-append (λ w. C w.point) (times (m * k) g.parts) (times (n * l) h.parts)
          (All-map (λ w. C w.point) (λ (w : WeightedPoint). record { weight = (m * k) * w.weight; point = w.point }) g.parts g.each)
          (All-map (λ w. C w.point) (λ (w : WeightedPoint). record { weight = (n * l) * w.weight; point = w.point }) h.parts h.each);
      some = subst (λ t. 1 ≤ t) (sym total) (one-le-products m k n ((n * l) * m) h.some one g.some);
      near = length_same _ _ _ _ (total_weight parts * ((k + l) * radius)) (((k + l) * m) * (n * (k * radius)) + ((k + l) * n) * (m * (l * radius)))
          (step (λ v. v.x) x u) (step (λ v. v.y) y v) (times_n ∙ omega arith)
          (triangle_inequality (pos ((k + l) * m) *ℤ (pos n *ℤ x -ℤ pos k *ℤ weighted_sum (λ v. v.x) g.parts)) (pos ((k + l) * m) *ℤ (pos n *ℤ y -ℤ pos k *ℤ weighted_sum (λ v. v.y) g.parts))
          (pos ((k + l) * n) *ℤ (pos m *ℤ u -ℤ pos l *ℤ weighted_sum (λ v. v.x) h.parts)) (pos ((k + l) * n) *ℤ (pos m *ℤ v -ℤ pos l *ℤ weighted_sum (λ v. v.y) h.parts))
          (((k + l) * m) * (n * (k * radius))) (((k + l) * n) * (m * (l * radius)))
          (scaled-le ((k + l) * m) (n * (k * radius)) (pos n *ℤ x -ℤ pos k *ℤ weighted_sum (λ v. v.x) g.parts) (pos n *ℤ y -ℤ pos k *ℤ weighted_sum (λ v. v.y) g.parts) g.near)
          (scaled-le ((k + l) * n) (m * (l * radius)) (pos m *ℤ u -ℤ pos l *ℤ weighted_sum (λ v. v.x) h.parts) (pos m *ℤ v -ℤ pos l *ℤ weighted_sum (λ v. v.y) h.parts) h.near));
    }

point_step : (n k : ℕ) (x s : ℤ) → pos n *ℤ (pos k *ℤ x) -ℤ pos k *ℤ s ≡ pos k *ℤ (pos n *ℤ x -ℤ s)
point_step n k x s =
    same (is_sub (is_mul (is_n n) (is_mul (is_n k) (is_z x))) (is_mul (is_n k) (is_z s))) (is_mul (is_n k) (is_sub (is_mul (is_n n) (is_z x)) (is_z s))) (omega arith)

-- what holds of k times a point holds of the point
pub near_point : (points : List GridPoint) (radius k : ℕ) (p : GridPoint) → 1 ≤ k → IsNearMean (Contains points) radius k (pos k *ℤ p.x) (pos k *ℤ p.y) → IsNear points radius p
near_point points radius k p one h =
    let n = total_weight h.parts in
    record {
      parts = h.parts;
      of_points = h.each;
      some = h.some;
      near = unscaled-le k (n * radius) (pos n *ℤ p.x -ℤ weighted_sum (λ v. v.x) h.parts) (pos n *ℤ p.y -ℤ weighted_sum (λ v. v.y) h.parts) one
          (length_same _ _ _ _ (k * (n * radius)) (n * (k * radius)) (sym (point_step n k p.x (weighted_sum (λ v. v.x) h.parts))) (sym (point_step n k p.y (weighted_sum (λ v. v.y) h.parts))) (omega arith) h.near);
    }

round_step : (n k : ℕ) (x c s : ℤ) → pos n *ℤ x -ℤ pos k *ℤ s ≡ pos n *ℤ (x -ℤ pos k *ℤ c) +ℤ pos k *ℤ (pos n *ℤ c -ℤ s)
round_step n k x c s =
    same (is_sub (is_mul (is_n n) (is_z x)) (is_mul (is_n k) (is_z s)))
    (is_add (is_mul (is_n n) (is_sub (is_z x) (is_mul (is_n k) (is_z c)))) (is_mul (is_n k) (is_sub (is_mul (is_n n) (is_z c)) (is_z s)))) (omega arith)

-- the disc of one radius round a point that is no further than another from a mean
pub near_round : (C : GridPoint → Type 0) (parts : List WeightedPoint) (reach rest : ℕ) (c : GridPoint) → All (λ w. C w.point) parts → 1 ≤ total_weight parts
    → square_length (pos (total_weight parts) *ℤ c.x -ℤ weighted_sum (λ v. v.x) parts) (pos (total_weight parts) *ℤ c.y -ℤ weighted_sum (λ v. v.y) parts) ≤ square (total_weight parts * rest)
    → (k : ℕ) (x y : ℤ) → square_length (x -ℤ pos k *ℤ c.x) (y -ℤ pos k *ℤ c.y) ≤ square (k * reach) → IsNearMean C (reach + rest) k x y
near_round C parts reach rest c each some near k x y h =
    let n = total_weight parts in
    record {
      parts = parts;
      each = each;
      some = some;
      near = length_same _ _ _ _ (n * (k * (reach + rest))) (n * (k * reach) + k * (n * rest)) (round_step n k x c.x (weighted_sum (λ v. v.x) parts)) (round_step n k y c.y (weighted_sum (λ v. v.y) parts)) (omega arith)
          (triangle_inequality (pos n *ℤ (x -ℤ pos k *ℤ c.x)) (pos n *ℤ (y -ℤ pos k *ℤ c.y)) (pos k *ℤ (pos n *ℤ c.x -ℤ weighted_sum (λ v. v.x) parts)) (pos k *ℤ (pos n *ℤ c.y -ℤ weighted_sum (λ v. v.y) parts)) (n * (k * reach)) (k * (n * rest))
          (scaled-le n (k * reach) (x -ℤ pos k *ℤ c.x) (y -ℤ pos k *ℤ c.y) h) (scaled-le k (n * rest) (pos n *ℤ c.x -ℤ weighted_sum (λ v. v.x) parts) (pos n *ℤ c.y -ℤ weighted_sum (λ v. v.y) parts) near));
    }

-- k times some point is (x, y), and that point is a mean of points with a property
pub record IsMean (C : GridPoint → Type 0) (k : ℕ) (x y : ℤ) : Type 0 where
  pub parts : List WeightedPoint
  pub each : All (λ w. C w.point) parts
  pub some : 1 ≤ total_weight parts
  pub x_is : pos k *ℤ weighted_sum (λ v. v.x) parts ≡ pos (total_weight parts) *ℤ x
  pub y_is : pos k *ℤ weighted_sum (λ v. v.y) parts ≡ pos (total_weight parts) *ℤ y

deep_step : (n k radius depth : ℕ) (x c s : ℤ) → pos (k * (radius + depth)) *ℤ s ≡ pos n *ℤ (pos (k * (radius + depth)) *ℤ c +ℤ pos depth *ℤ (x -ℤ pos k *ℤ c))
    → pos (k * (radius + depth)) *ℤ (pos n *ℤ x -ℤ pos k *ℤ s) ≡ pos (n * (k * radius)) *ℤ (x -ℤ pos k *ℤ c)
deep_step n k radius depth x c s e =
    let whole = k * (radius + depth) in
    let apart : pos whole *ℤ (pos n *ℤ x -ℤ pos k *ℤ s) ≡ pos n *ℤ (pos whole *ℤ x) -ℤ pos k *ℤ (pos whole *ℤ s) =
    same (is_mul (is_n whole) (is_sub (is_mul (is_n n) (is_z x)) (is_mul (is_n k) (is_z s))))
    (is_sub (is_mul (is_n n) (is_mul (is_n whole) (is_z x))) (is_mul (is_n k) (is_mul (is_n whole) (is_z s)))) (omega arith) in
    let back : pos n *ℤ (pos whole *ℤ x) -ℤ pos k *ℤ (pos n *ℤ (pos whole *ℤ c +ℤ pos depth *ℤ (x -ℤ pos k *ℤ c))) ≡ pos (n * (k * radius)) *ℤ (x -ℤ pos k *ℤ c) =
    same (is_sub (is_mul (is_n n) (is_mul (is_n whole) (is_z x))) (is_mul (is_n k) (is_mul (is_n n) (is_add (is_mul (is_n whole) (is_z c)) (is_mul (is_n depth) (is_sub (is_z x) (is_mul (is_n k) (is_z c))))))))
    (is_mul (is_n (n * (k * radius))) (is_sub (is_z x) (is_mul (is_n k) (is_z c)))) (omega arith) in
    apart ∙ ap (λ z. pos n *ℤ (pos whole *ℤ x) -ℤ pos k *ℤ z) e ∙ back

-- a point of the disc round c whose part in the polygon, drawn towards c, is a mean
pub near_deep : (C : GridPoint → Type 0) (radius depth : ℕ) (c : GridPoint) (k : ℕ) (x y : ℤ) → 1 ≤ k * (radius + depth)
    → IsMean C (k * (radius + depth)) (pos (k * (radius + depth)) *ℤ c.x +ℤ pos depth *ℤ (x -ℤ pos k *ℤ c.x)) (pos (k * (radius + depth)) *ℤ c.y +ℤ pos depth *ℤ (y -ℤ pos k *ℤ c.y))
    → square_length (x -ℤ pos k *ℤ c.x) (y -ℤ pos k *ℤ c.y) ≤ square (k * (radius + depth)) → IsNearMean C radius k x y
near_deep C radius depth c k x y one mean h =
    let n = total_weight mean.parts in
    let whole = k * (radius + depth) in
    record {
      parts = mean.parts;
      each = mean.each;
      some = mean.some;
      near = unscaled-le whole (n * (k * radius)) (pos n *ℤ x -ℤ pos k *ℤ weighted_sum (λ v. v.x) mean.parts) (pos n *ℤ y -ℤ pos k *ℤ weighted_sum (λ v. v.y) mean.parts) one
          (length_same _ _ _ _ (whole * (n * (k * radius))) ((n * (k * radius)) * whole) (deep_step n k radius depth x c.x (weighted_sum (λ v. v.x) mean.parts) mean.x_is) (deep_step n k radius depth y c.y (weighted_sum (λ v. v.y) mean.parts) mean.y_is) (omega arith)
          (scaled-le (n * (k * radius)) whole (x -ℤ pos k *ℤ c.x) (y -ℤ pos k *ℤ c.y) h));
    }

-- every point within the reach of v, times any whole number, is near a mean
abbrev pub HoldsRound : (GridPoint → Type 0) → ℕ → ℕ → GridPoint → Type 0
HoldsRound C radius reach v = (k : ℕ) (x y : ℤ) → 1 ≤ k → square_length (x -ℤ pos k *ℤ v.x) (y -ℤ pos k *ℤ v.y) ≤ square (k * reach) → IsNearMean C radius k x y

-- the sum of some parts, each moved by a step
record IsSummed (C : GridPoint → Type 0) (radius n : ℕ) (dx dy : ℤ) (ws : List WeightedPoint) : Type 0 where
  sum : IsNearMean C radius (n * total_weight ws) (pos n *ℤ weighted_sum (λ v. v.x) ws +ℤ pos (total_weight ws) *ℤ dx) (pos n *ℤ weighted_sum (λ v. v.y) ws +ℤ pos (total_weight ws) *ℤ dy)

-- parts that count nothing
record IsNone (ws : List WeightedPoint) : Type 0 where
  total : total_weight ws ≡ 0
  x : weighted_sum (λ v. v.x) ws ≡ pos 0
  y : weighted_sum (λ v. v.y) ws ≡ pos 0

moved_back : (n : ℕ) (v d : ℤ) → (pos n *ℤ v +ℤ d) -ℤ pos n *ℤ v ≡ d
moved_back n v d = omega (arith, ints)

one_more : (n w t : ℕ) (v s d : ℤ) → pos w *ℤ (pos n *ℤ v +ℤ d) +ℤ (pos n *ℤ s +ℤ pos t *ℤ d) ≡ pos n *ℤ (pos w *ℤ v +ℤ s) +ℤ pos (w + t) *ℤ d
one_more n w t v s d =
    same (is_add (is_mul (is_n w) (is_add (is_mul (is_n n) (is_z v)) (is_z d))) (is_add (is_mul (is_n n) (is_z s)) (is_mul (is_n t) (is_z d))))
    (is_add (is_mul (is_n n) (is_add (is_mul (is_n w) (is_z v)) (is_z s))) (is_mul (is_n (w + t)) (is_z d))) (omega arith)

only_one : (n w t : ℕ) (v s d : ℤ) → t ≡ 0 → s ≡ pos 0 → pos w *ℤ (pos n *ℤ v +ℤ d) ≡ pos n *ℤ (pos w *ℤ v +ℤ s) +ℤ pos (w + t) *ℤ d
only_one n w t v s d e f =
    subst (λ z. pos w *ℤ (pos n *ℤ v +ℤ d) ≡ pos n *ℤ (pos w *ℤ v +ℤ z) +ℤ pos (w + t) *ℤ d) (sym f)
    (subst (λ u. pos w *ℤ (pos n *ℤ v +ℤ d) ≡ pos n *ℤ (pos w *ℤ v +ℤ pos 0) +ℤ pos (w + u) *ℤ d) (sym e)
    (same (is_mul (is_n w) (is_add (is_mul (is_n n) (is_z v)) (is_z d))) (is_add (is_mul (is_n n) (is_add (is_mul (is_n w) (is_z v)) (is_n 0))) (is_mul (is_n (w + 0)) (is_z d))) (omega arith)))

without : (n w t : ℕ) (v s d : ℤ) → w ≡ 0 → pos n *ℤ s +ℤ pos t *ℤ d ≡ pos n *ℤ (pos w *ℤ v +ℤ s) +ℤ pos (w + t) *ℤ d
without n w t v s d e =
    subst (λ u. pos n *ℤ s +ℤ pos t *ℤ d ≡ pos n *ℤ (pos u *ℤ v +ℤ s) +ℤ pos (u + t) *ℤ d) (sym e)
    (same (is_add (is_mul (is_n n) (is_z s)) (is_mul (is_n t) (is_z d))) (is_add (is_mul (is_n n) (is_add (is_mul (is_n 0) (is_z v)) (is_z s))) (is_mul (is_n (0 + t)) (is_z d))) (omega arith))

nothing_more : (w : ℕ) (v s : ℤ) → w ≡ 0 → s ≡ pos 0 → pos w *ℤ v +ℤ s ≡ pos 0
nothing_more w v s e f =
    subst (λ z. pos w *ℤ v +ℤ z ≡ pos 0) (sym f) (subst (λ u. pos u *ℤ v +ℤ pos 0 ≡ pos 0) (sym e) (same (is_add (is_mul (is_n 0) (is_z v)) (is_n 0)) (is_n 0) (omega arith)))

summed : (C : GridPoint → Type 0) (radius reach n : ℕ) (dx dy : ℤ) → 1 ≤ n → square_length dx dy ≤ square (n * reach)
    → (ws : List WeightedPoint) → All (λ w. HoldsRound C radius reach w.point) ws → IsNone ws ⊎ IsSummed C radius n dx dy ws
summed C radius reach n dx dy one h [] each = inl (record { total = refl; x = refl; y = refl })
summed C radius reach n dx dy one h (w ∷ ws) each =
    with_rest (cases_eq w.weight 0) (summed C radius reach n dx dy one h ws (All-tail (λ u. HoldsRound C radius reach u.point) w ws each))
  where
    item : IsNearMean C radius n (pos n *ℤ w.point.x +ℤ dx) (pos n *ℤ w.point.y +ℤ dy)
    item = All-head (λ u. HoldsRound C radius reach u.point) w ws each n (pos n *ℤ w.point.x +ℤ dx) (pos n *ℤ w.point.y +ℤ dy) one
        (length_same _ _ dx dy (n * reach) (n * reach) (moved_back n w.point.x dx) (moved_back n w.point.y dy) refl h)

    with_rest : (w.weight ≡ 0) ⊎ (w.weight ≡ 0 → ⊥) → IsNone ws ⊎ IsSummed C radius n dx dy ws → IsNone (w ∷ ws) ⊎ IsSummed C radius n dx dy (w ∷ ws)
    with_rest (inl zero_weight) (inl none) = inl (record {
      total = omega (arith, zero_weight, none.total);
      x = nothing_more w.weight w.point.x (weighted_sum (λ v. v.x) ws) zero_weight none.x;
      y = nothing_more w.weight w.point.y (weighted_sum (λ v. v.y) ws) zero_weight none.y;
    })
    with_rest (inl zero_weight) (inr more) = inr (record {
      sum = near_same C radius (n * total_weight ws) (n * total_weight (w ∷ ws)) _ _ _ _ more.sum (ap (λ t. n * t) (omega (arith, zero_weight)))
          (without n w.weight (total_weight ws) w.point.x (weighted_sum (λ v. v.x) ws) dx zero_weight)
          (without n w.weight (total_weight ws) w.point.y (weighted_sum (λ v. v.y) ws) dy zero_weight);
    })
    with_rest (inr counts) (inl none) = inr (record {
      sum = near_same C radius (w.weight * n) (n * total_weight (w ∷ ws)) _ _ _ _ (near_times C radius w.weight n _ _ item) (omega (arith, ap (λ t. n * t) none.total))
          (only_one n w.weight (total_weight ws) w.point.x (weighted_sum (λ v. v.x) ws) dx none.total none.x)
          (only_one n w.weight (total_weight ws) w.point.y (weighted_sum (λ v. v.y) ws) dy none.total none.y);
    })
    with_rest (inr counts) (inr more) =
        let some : 1 * 1 ≤ w.weight * n = mul-le 1 1 w.weight n (omega (arith, counts)) one in
        inr (record {
          sum = near_same C radius (w.weight * n + n * total_weight ws) (n * total_weight (w ∷ ws)) _ _ _ _
              (near_add C radius (w.weight * n) (n * total_weight ws) _ _ _ _ (omega (arith, some)) (near_times C radius w.weight n _ _ item) more.sum) (omega arith)
              (one_more n w.weight (total_weight ws) w.point.x (weighted_sum (λ v. v.x) ws) dx)
              (one_more n w.weight (total_weight ws) w.point.y (weighted_sum (λ v. v.y) ws) dy);
        })

whole_step : (n : ℕ) (p s : ℤ) → pos n *ℤ s +ℤ pos n *ℤ (pos n *ℤ p -ℤ s) ≡ pos (n * n) *ℤ p
whole_step n p s =
    same (is_add (is_mul (is_n n) (is_z s)) (is_mul (is_n n) (is_sub (is_mul (is_n n) (is_z p)) (is_z s)))) (is_mul (is_n (n * n)) (is_z p)) (omega arith)

-- a set that holds the disc round each of some points holds all that is no further than the reach from a mean of those
pub near_means : (points ends : List GridPoint) (radius reach : ℕ) → All (HoldsRound (Contains points) radius reach) ends → (p : GridPoint) → IsNear ends reach p → IsNear points radius p
near_means points ends radius reach each p h =
    let n = total_weight h.parts in
    let dx = pos n *ℤ p.x -ℤ weighted_sum (λ v. v.x) h.parts in
    let dy = pos n *ℤ p.y -ℤ weighted_sum (λ v. v.y) h.parts in
    elim (summed (Contains points) radius reach n dx dy h.some h.near h.parts (λ k d less. All-contains (HoldsRound (Contains points) radius reach) ends _ each (h.of_points k d less))) [
      | inl none ↦ absurd (omega (arith, none.total, h.some))
      | inr more ↦
          let square_n : 1 * 1 ≤ n * n = mul-le 1 1 n n h.some h.some in
          near_point points radius (n * n) p (omega (arith, square_n))
          (near_same (Contains points) radius (n * n) (n * n) _ _ _ _ more.sum refl (whole_step n p.x (weighted_sum (λ v. v.x) h.parts)) (whole_step n p.y (weighted_sum (λ v. v.y) h.parts)))
    ]
