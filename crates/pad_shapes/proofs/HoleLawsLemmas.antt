-- What the centre line of a hole is: means of the ends, one point where the hole is round, and a line of grid points along an axis.
use Rattle.std.proofs.Common.{◌≡◌, ℕ, ℤ, pos, ◌+◌, ◌*◌, ◌≤◌, ◌+ℤ◌, ◌-ℤ◌, ◌*ℤ◌, ◌≤ℤ◌, unsigned_abs, List, [], ◌∷◌, refl, sym, ap, subst, ◌∙◌, ◌⊎◌, inl, inr, arith, mul-le-mul_left}
use Rattle.std.specs.Int.{int_min, int_max}
use Rattle.std.specs.List.{All, Contains}
use Rattle.std.proofs.lemmas.Int.{ints, clamps}
use Rattle.std.proofs.lemmas.List.Elements.{All-nil, All-cons, All-head, All-tail, All-contains}
use Rattle.grid_units.specs.Holes.{GridHole, IsBetween, IsInCore}
use Rattle.grid_units.specs.Points.{GridPoint, abs_diff, square, square_distance}
use Rattle.grid_units.proofs.TriangleInequalities.{square-le}
use Rattle.pad_shapes.specs.Shapes.{IsAxisAligned}
use Rattle.pad_shapes.specs.Rounded.{WeightedPoint, total_weight, weighted_sum, IsInSlot}
use Rattle.pad_shapes.specs.Inner.Identities.{is_z, is_n, is_add, is_sub, is_mul, same, of_natural, unscaled-le}
use Rattle.pad_shapes.specs.Inner.Means.{length_same}
use Rattle.pad_shapes.specs.Inner.RoundedLaws.{axis_in_slot}
use Rattle.pad_shapes.specs.Inner.ShapeLaws.{by_order}
use Rattle.pad_shapes.specs.Holding.{IsNearCentreLine, HoldsHole}
use Rattle.pad_shapes.specs.HoleLaws.{CentreLineIsSlot}
use Rattle.pad_shapes.specs.Inner.HoldingLaws.{in_slot, without_factor}

-- ---- means of the ends

-- how often each of two points counts among some parts
record IsSplit (f t : GridPoint) (ws : List WeightedPoint) : Type 0 where
  first : ℕ
  second : ℕ
  total : first + second ≡ total_weight ws
  x : weighted_sum (λ v. v.x) ws ≡ pos first *ℤ f.x +ℤ pos second *ℤ t.x
  y : weighted_sum (λ v. v.y) ws ≡ pos first *ℤ f.y +ℤ pos second *ℤ t.y

no_parts : (f t : ℤ) → pos 0 ≡ pos 0 *ℤ f +ℤ pos 0 *ℤ t
no_parts f t = same (is_n 0) (is_add (is_mul (is_n 0) (is_z f)) (is_mul (is_n 0) (is_z t))) (omega arith)

more_first : (n i j : ℕ) (v f t s : ℤ) → v ≡ f → s ≡ pos i *ℤ f +ℤ pos j *ℤ t → pos n *ℤ v +ℤ s ≡ pos (n + i) *ℤ f +ℤ pos j *ℤ t
more_first n i j v f t s e h =
    (λ m. pos n *ℤ e m +ℤ h m)
    ∙ same (is_add (is_mul (is_n n) (is_z f)) (is_add (is_mul (is_n i) (is_z f)) (is_mul (is_n j) (is_z t)))) (is_add (is_mul (is_n (n + i)) (is_z f)) (is_mul (is_n j) (is_z t))) (omega arith)

more_second : (n i j : ℕ) (v f t s : ℤ) → v ≡ t → s ≡ pos i *ℤ f +ℤ pos j *ℤ t → pos n *ℤ v +ℤ s ≡ pos i *ℤ f +ℤ pos (n + j) *ℤ t
more_second n i j v f t s e h =
    (λ m. pos n *ℤ e m +ℤ h m)
    ∙ same (is_add (is_mul (is_n n) (is_z t)) (is_add (is_mul (is_n i) (is_z f)) (is_mul (is_n j) (is_z t)))) (is_add (is_mul (is_n i) (is_z f)) (is_mul (is_n (n + j)) (is_z t))) (omega arith)

one_of_two : (f t v : GridPoint) → Contains (f ∷ t ∷ []) v → (v ≡ f) ⊎ (v ≡ t)
one_of_two f t v among = All-contains P (f ∷ t ∷ []) v (All-cons P f (t ∷ []) (inl refl) (All-cons P t [] (inr refl) (All-nil P))) among
  where
    P : GridPoint → Type 0
    P u = (u ≡ f) ⊎ (u ≡ t)

split : (f t : GridPoint) (ws : List WeightedPoint) → All (λ w. Contains (f ∷ t ∷ []) w.point) ws → IsSplit f t ws
split f t [] all = record { first = 0; second = 0; total = refl; x = no_parts f.x t.x; y = no_parts f.y t.y }
split f t (w ∷ ws) all =
    by (one_of_two f t w.point (All-head (λ u. Contains (f ∷ t ∷ []) u.point) w ws all)) (split f t ws (All-tail (λ u. Contains (f ∷ t ∷ []) u.point) w ws all))
  where
    by : (w.point ≡ f) ⊎ (w.point ≡ t) → IsSplit f t ws → IsSplit f t (w ∷ ws)
    by (inl e) rest = record {
      first = w.weight + rest.first;
      second = rest.second;
      total = omega (arith, rest.total);
      x = more_first w.weight rest.first rest.second w.point.x f.x t.x (weighted_sum (λ v. v.x) ws) (ap (λ v. v.x) e) rest.x;
      y = more_first w.weight rest.first rest.second w.point.y f.y t.y (weighted_sum (λ v. v.y) ws) (ap (λ v. v.y) e) rest.y;
    }
    by (inr e) rest = record {
      first = rest.first;
      second = w.weight + rest.second;
      total = omega (arith, rest.total);
      x = more_second w.weight rest.first rest.second w.point.x f.x t.x (weighted_sum (λ v. v.x) ws) (ap (λ v. v.x) e) rest.x;
      y = more_second w.weight rest.first rest.second w.point.y f.y t.y (weighted_sum (λ v. v.y) ws) (ap (λ v. v.y) e) rest.y;
    }

-- what is near a mean of the ends is near the centre line
on_line : (h : GridHole) (reach : ℕ) (p : GridPoint) → IsInSlot h.from h.to reach p → IsNearCentreLine h reach p
on_line h reach p n =
    let s = split h.from h.to n.parts n.of_points in
    record {
      first = s.first;
      second = s.second;
      some = omega (arith, s.total, n.some);
      near = length_same _ _ _ _ ((s.first + s.second) * reach) (total_weight n.parts * reach) (λ i. pos (s.total i) *ℤ p.x -ℤ sym s.x i) (λ i. pos (s.total i) *ℤ p.y -ℤ sym s.y i) (ap (λ m. m * reach) s.total) n.near;
    }

pub centre_line_is_slot : CentreLineIsSlot
centre_line_is_slot h reach p = (in_slot h reach p, on_line h reach p)

-- ---- round holes

one_step : (p f t : ℤ) → pos (1 + 0) *ℤ p -ℤ (pos 1 *ℤ f +ℤ pos 0 *ℤ t) ≡ p -ℤ f
one_step p f t =
    same (is_sub (is_mul (is_n (1 + 0)) (is_z p)) (is_add (is_mul (is_n 1) (is_z f)) (is_mul (is_n 0) (is_z t)))) (is_sub (is_z p) (is_z f)) (omega arith)

-- what is near the first end is near the centre line
near_end : (h : GridHole) (reach : ℕ) (p : GridPoint) → square_distance p h.from ≤ square reach → IsNearCentreLine h reach p
near_end h reach p near = record {
  first = 1;
  second = 0;
  some = omega arith;
  near = length_same _ _ _ _ ((1 + 0) * reach) reach (one_step p.x h.from.x h.to.x) (one_step p.y h.from.y h.to.y) (omega arith) near;
}

-- the mean of one number
same_mean : (i j : ℕ) (p f t : ℤ) → f ≡ t → pos (i + j) *ℤ (p -ℤ f) ≡ pos (i + j) *ℤ p -ℤ (pos i *ℤ f +ℤ pos j *ℤ t)
same_mean i j p f t e =
    same (is_mul (is_n (i + j)) (is_sub (is_z p) (is_z f))) (is_sub (is_mul (is_n (i + j)) (is_z p)) (is_add (is_mul (is_n i) (is_z f)) (is_mul (is_n j) (is_z f)))) (omega arith)
    ∙ (λ n. pos (i + j) *ℤ p -ℤ (pos i *ℤ f +ℤ pos j *ℤ e n))

near_centre : (h : GridHole) (reach : ℕ) (p : GridPoint) → h.from ≡ h.to → IsNearCentreLine h reach p → square_distance p h.from ≤ square reach
near_centre h reach p e n =
    let k = n.first + n.second in
    unscaled-le k reach (p.x -ℤ h.from.x) (p.y -ℤ h.from.y) n.some
    (length_same _ _ _ _ (k * reach) (k * reach) (same_mean n.first n.second p.x h.from.x h.to.x (ap (λ v. v.x) e)) (same_mean n.first n.second p.y h.from.y h.to.y (ap (λ v. v.y) e)) refl n.near)

pub holds_round : (points : GridPoint → Type 0) (ring : ℕ) (h : GridHole) → h.from ≡ h.to
    → (HoldsHole points ring h → (p : GridPoint) → square_distance p h.from ≤ square (h.radius + ring) → points p) × (((p : GridPoint) → square_distance p h.from ≤ square (h.radius + ring) → points p) → HoldsHole points ring h)
holds_round points ring h e =
    (λ holds p near. holds p (near_end h (h.radius + ring) p near), λ holds p near. holds p (near_centre h (h.radius + ring) p e near))

-- ---- slots along an axis

mean_away : (i j : ℕ) (a b z : ℤ) → pos (i + j) *ℤ z -ℤ (pos i *ℤ a +ℤ pos j *ℤ b) ≡ pos 0 -ℤ (pos i *ℤ (a -ℤ z) +ℤ pos j *ℤ (b -ℤ z))
mean_away i j a b z =
    same (is_sub (is_mul (is_n (i + j)) (is_z z)) (is_add (is_mul (is_n i) (is_z a)) (is_mul (is_n j) (is_z b))))
    (is_sub (is_n 0) (is_add (is_mul (is_n i) (is_sub (is_z a) (is_z z))) (is_mul (is_n j) (is_sub (is_z b) (is_z z))))) (omega arith)

mean_back : (i j : ℕ) (a b z : ℤ) → pos (i + j) *ℤ z -ℤ (pos i *ℤ a +ℤ pos j *ℤ b) ≡ pos i *ℤ (z -ℤ a) +ℤ pos j *ℤ (z -ℤ b)
mean_back i j a b z =
    same (is_sub (is_mul (is_n (i + j)) (is_z z)) (is_add (is_mul (is_n i) (is_z a)) (is_mul (is_n j) (is_z b))))
    (is_add (is_mul (is_n i) (is_sub (is_z z) (is_z a))) (is_mul (is_n j) (is_sub (is_z z) (is_z b)))) (omega arith)

length_of : (m n : ℕ) → unsigned_abs (pos m +ℤ pos n) ≡ m + n
length_of m n = omega (arith, ints)

length_of_less : (m n : ℕ) → unsigned_abs (pos 0 -ℤ (pos m +ℤ pos n)) ≡ m + n
length_of_less m n = omega (arith, ints)

parts-le : (i j d a b : ℕ) → d ≤ a → d ≤ b → (i + j) * d ≤ i * a + j * b
parts-le i j d a b h k = let u : i * d ≤ i * a = mul-le-mul_left i h in let v : j * d ≤ j * b = mul-le-mul_left j k in omega (arith, u, v)

counted : (a b : ℤ) → b ≤ℤ a → a -ℤ b ≡ pos (unsigned_abs (a -ℤ b))
counted a b h = sym (of_natural (a -ℤ b) (omega (arith, ints)))

-- a number below both ends is no further from one between it and them than from their mean
below : (i j : ℕ) (a b z m : ℤ) → z ≤ℤ m → m ≤ℤ a → m ≤ℤ b → (i + j) * abs_diff z m ≤ unsigned_abs (pos (i + j) *ℤ z -ℤ (pos i *ℤ a +ℤ pos j *ℤ b))
below i j a b z m low first second =
    let u = counted a z (omega (arith, ints)) in
    let v = counted b z (omega (arith, ints)) in
    let away : unsigned_abs (pos (i + j) *ℤ z -ℤ (pos i *ℤ a +ℤ pos j *ℤ b)) ≡ i * unsigned_abs (a -ℤ z) + j * unsigned_abs (b -ℤ z) =
    ap unsigned_abs (mean_away i j a b z ∙ (λ n. pos 0 -ℤ (pos i *ℤ u n +ℤ pos j *ℤ v n))) ∙ length_of_less (i * unsigned_abs (a -ℤ z)) (j * unsigned_abs (b -ℤ z)) in
    subst (λ l. (i + j) * abs_diff z m ≤ l) (sym away) (parts-le i j (abs_diff z m) (unsigned_abs (a -ℤ z)) (unsigned_abs (b -ℤ z)) (omega (arith, ints)) (omega (arith, ints)))

-- and one above both ends
above : (i j : ℕ) (a b z m : ℤ) → m ≤ℤ z → a ≤ℤ m → b ≤ℤ m → (i + j) * abs_diff z m ≤ unsigned_abs (pos (i + j) *ℤ z -ℤ (pos i *ℤ a +ℤ pos j *ℤ b))
above i j a b z m high first second =
    let u = counted z a (omega (arith, ints)) in
    let v = counted z b (omega (arith, ints)) in
    let back : unsigned_abs (pos (i + j) *ℤ z -ℤ (pos i *ℤ a +ℤ pos j *ℤ b)) ≡ i * unsigned_abs (z -ℤ a) + j * unsigned_abs (z -ℤ b) =
    ap unsigned_abs (mean_back i j a b z ∙ (λ n. pos i *ℤ u n +ℤ pos j *ℤ v n)) ∙ length_of (i * unsigned_abs (z -ℤ a)) (j * unsigned_abs (z -ℤ b)) in
    subst (λ l. (i + j) * abs_diff z m ≤ l) (sym back) (parts-le i j (abs_diff z m) (unsigned_abs (z -ℤ a)) (unsigned_abs (z -ℤ b)) (omega (arith, ints)) (omega (arith, ints)))

-- the number between two others that is nearest to a third, and no further from it than their mean is
record IsNearest (i j : ℕ) (a b z c : ℤ) : Type 0 where
  between : IsBetween a b c
  near : (i + j) * abs_diff z c ≤ unsigned_abs (pos (i + j) *ℤ z -ℤ (pos i *ℤ a +ℤ pos j *ℤ b))

self : (n l : ℕ) (z : ℤ) → n * abs_diff z z ≤ l
self n l z = let none : abs_diff z z ≡ 0 = omega (arith, ints) in subst (λ d. n * d ≤ l) (sym none) (omega arith)

lesser : (a b : ℤ) → (int_min a b ≤ℤ a) × (int_min a b ≤ℤ b) × (int_min a b ≤ℤ int_max a b)
lesser a b = (omega (arith, ints, clamps), omega (arith, ints, clamps), omega (arith, ints, clamps))

greater : (a b : ℤ) → (a ≤ℤ int_max a b) × (b ≤ℤ int_max a b)
greater a b = (omega (arith, ints, clamps), omega (arith, ints, clamps))

itself : (z : ℤ) → z ≤ℤ z
itself z = omega (arith, ints)

nearest : (i j : ℕ) (a b z : ℤ) → (c : ℤ) × IsNearest i j a b z c
nearest i j a b z =
    let m = int_min a b in
    let n = int_max a b in
    by_order z m
    (λ low. (m, record { between = (itself m, (lesser a b).2); near = below i j a b z m low (lesser a b).0 (lesser a b).1 }))
    (λ up. by_order z n
    (λ inside. (z, record { between = (up, inside); near = self (i + j) _ z }))
    (λ high. (n, record { between = ((lesser a b).2, itself n); near = above i j a b z n high (greater a b).0 (greater a b).1 })))

-- the point of a slot's core that is nearest to p
core_point : (h : GridHole) (reach : ℕ) (p : GridPoint) → IsAxisAligned h.from h.to → IsNearCentreLine h reach p → (c : GridPoint) × IsInCore h c × (square_distance p c ≤ square reach)
core_point h reach p aligned n =
    let i = n.first in
    let j = n.second in
    let x = nearest i j h.from.x h.to.x p.x in
    let y = nearest i j h.from.y h.to.y p.y in (
      record { x = x.0; y = y.0 },
      (x.1.between, y.1.between),
      step-le i j reach (abs_diff p.x x.0) (abs_diff p.y y.0) (unsigned_abs (pos (i + j) *ℤ p.x -ℤ (pos i *ℤ h.from.x +ℤ pos j *ℤ h.to.x))) (unsigned_abs (pos (i + j) *ℤ p.y -ℤ (pos i *ℤ h.from.y +ℤ pos j *ℤ h.to.y)))
          n.some x.1.near y.1.near n.near,
    )
  where
    step-le : (i j reach dx dy x y : ℕ) → 1 ≤ i + j → (i + j) * dx ≤ x → (i + j) * dy ≤ y → x * x + y * y ≤ ((i + j) * reach) * ((i + j) * reach) → dx * dx + dy * dy ≤ reach * reach
    step-le i j reach dx dy x y some at_x at_y near =
        let a : ((i + j) * dx) * ((i + j) * dx) ≤ x * x = square-le ((i + j) * dx) x at_x in
        let b : ((i + j) * dy) * ((i + j) * dy) ≤ y * y = square-le ((i + j) * dy) y at_y in
        without_factor (i + j) dx dy reach some (omega (arith, a, b, near))

pub holds_along_axis : (points : GridPoint → Type 0) (ring : ℕ) (h : GridHole) → IsAxisAligned h.from h.to
    → (HoldsHole points ring h → (c p : GridPoint) → IsInCore h c → square_distance p c ≤ square (h.radius + ring) → points p) × (((c p : GridPoint) → IsInCore h c → square_distance p c ≤ square (h.radius + ring) → points p) → HoldsHole points ring h)
holds_along_axis points ring h aligned = (
  λ holds c p inside near. holds p (on_line h (h.radius + ring) p (axis_in_slot h.from h.to c p (h.radius + ring) aligned inside near)),
  λ holds p near. let c = core_point h (h.radius + ring) p aligned near in holds c.0 p c.1 c.2,
)
