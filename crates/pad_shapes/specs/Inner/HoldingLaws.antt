-- Proofs that each shape holds the holes that it covers.
use Rattle.std.proofs.Common.{◌≡◌, ℕ, ℤ, pos, ◌+◌, ◌-◌, ◌*◌, ◌≤◌, ◌<◌, ◌+ℤ◌, ◌-ℤ◌, ◌*ℤ◌, unsigned_abs, Bool, true, [], ◌∷◌, refl, sym, ap, subst, ◌∙◌, ◌⊎◌, inl, inr, arith, mul-le-mul_left}
use Rattle.std.specs.Prelude.{◌&&◌}
use Rattle.std.specs.List.{Contains}
use Rattle.std.proofs.lemmas.Int.{ints, unsigned_abs-mul}
use Rattle.std.proofs.lemmas.Bool.{cases_lt, and_parts}
use Rattle.std.proofs.lemmas.List.Elements.{All-nil, All-cons}
use Rattle.std.proofs.lemmas.Nat.{mul-le}
use Rattle.grid_units.specs.Holes.{GridHole}
use Rattle.grid_units.specs.Laws.{square_length}
use Rattle.grid_units.specs.Points.{GridPoint, abs_diff, square}
use Rattle.grid_units.proofs.TriangleInequalities.{two_steps-le}
use Rattle.pad_shapes.specs.Shapes.{GridRect, GridObround, IsInDisc, IsInRect, IsInObround, end_radius, square_axis_distance, disc_covers, rect_covers, obround_covers}
use Rattle.pad_shapes.specs.Rounded.{GridRounded, IsInSlot, IsInRounded, rounded_covers}
use Rattle.pad_shapes.specs.Inner.Identities.{is_z, is_n, is_add, is_sub, is_mul, same, cancel}
use Rattle.pad_shapes.specs.Inner.Means.{length_same}
use Rattle.pad_shapes.specs.Inner.RoundedLaws.{rounded_contains_lines}
use Rattle.pad_shapes.specs.Inner.RoundedSets.{one_corner_is_disc, one_corner_covers}
use Rattle.pad_shapes.specs.Inner.ShapeLaws.{both_le, near_axis, other_side-le, side-le}
use Rattle.pad_shapes.specs.Pads.{IsInPad, pad_covers}
use Rattle.pad_shapes.specs.declared.pad.Pad.TheVariants.{Disc, Rect, Obround}
use Rattle.pad_shapes.specs.Holding.{IsNearCentreLine, covers_hole, HoldsCoveredHoles}

-- ---- rounded polygons

counted_step : (i j : ℕ) (p f t : ℤ) → pos (i + (j + 0)) *ℤ p -ℤ (pos i *ℤ f +ℤ (pos j *ℤ t +ℤ pos 0)) ≡ pos (i + j) *ℤ p -ℤ (pos i *ℤ f +ℤ pos j *ℤ t)
counted_step i j p f t =
    let total : i + (j + 0) ≡ i + j = omega arith in
    λ n. pos (total n) *ℤ p -ℤ regrouped (pos i *ℤ f) (pos j *ℤ t) n
  where
    regrouped : (a b : ℤ) → a +ℤ (b +ℤ pos 0) ≡ a +ℤ b
    regrouped a b = omega (arith, ints)

-- what is near the centre line is near a mean of the ends
pub in_slot : (h : GridHole) (reach : ℕ) (p : GridPoint) → IsNearCentreLine h reach p → IsInSlot h.from h.to reach p
in_slot h reach p n =
    let i = n.first in
    let j = n.second in
    let total : i + (j + 0) ≡ i + j = omega arith in
    record {
      parts = record { weight = i; point = h.from } ∷ record { weight = j; point = h.to } ∷ [];
      of_points = All-cons (λ w. Contains (h.from ∷ h.to ∷ []) w.point) (record { weight = i; point = h.from }) (record { weight = j; point = h.to } ∷ []) (0, omega arith, refl)
          (All-cons (λ w. Contains (h.from ∷ h.to ∷ []) w.point) (record { weight = j; point = h.to }) [] (1, omega arith, refl) (All-nil (λ w. Contains (h.from ∷ h.to ∷ []) w.point)));
      some = omega (arith, total, n.some);
      near = length_same _ _ _ _ ((i + (j + 0)) * reach) ((i + j) * reach) (counted_step i j p.x h.from.x h.to.x) (counted_step i j p.y h.from.y h.to.y) (ap (λ m. m * reach) total) n.near;
    }

pub rounded_holds : HoldsCoveredHoles IsInRounded rounded_covers
rounded_holds r ring h ends p n = rounded_contains_lines r h.from h.to (h.radius + ring) ends p (in_slot h (h.radius + ring) p n)

-- ---- discs, which are rounded polygons of one corner

pub disc_holds : HoldsCoveredHoles IsInDisc disc_covers
disc_holds d ring h ends p n =
    let reach : ℕ = h.radius + ring in
    let r : GridRounded = record { first = d.centre; others = []; radius = d.radius } in
    let both : covers_hole rounded_covers ring h r ≡ covers_hole disc_covers ring h d =
    λ i. one_corner_covers d.centre d.radius h.from reach i && one_corner_covers d.centre d.radius h.to reach i in
    (one_corner_is_disc d.centre d.radius p).0 (rounded_holds r ring h (both ∙ ends) p n)

-- ---- along one axis

abs-+ℤ : (a b : ℤ) → unsigned_abs (a +ℤ b) ≤ unsigned_abs a + unsigned_abs b
abs-+ℤ a b = omega (arith, ints)

divided : (i j : ℕ) (p f t o x : ℤ) → x ≡ pos i *ℤ f +ℤ pos j *ℤ t
    → pos (i + j) *ℤ (p -ℤ o) ≡ (pos (i + j) *ℤ p -ℤ x) +ℤ (pos i *ℤ (f -ℤ o) +ℤ pos j *ℤ (t -ℤ o))
divided i j p f t o x is =
    same (is_mul (is_n (i + j)) (is_sub (is_z p) (is_z o)))
    (is_add (is_sub (is_mul (is_n (i + j)) (is_z p)) (is_add (is_mul (is_n i) (is_z f)) (is_mul (is_n j) (is_z t)))) (is_add (is_mul (is_n i) (is_sub (is_z f) (is_z o))) (is_mul (is_n j) (is_sub (is_z t) (is_z o))))) (omega arith)
    ∙ ap (λ z. (pos (i + j) *ℤ p -ℤ z) +ℤ (pos i *ℤ (f -ℤ o) +ℤ pos j *ℤ (t -ℤ o))) (sym is)

-- p is no further from o than the ends are in the mean, and the step from the mean to p
distance-le : (i j : ℕ) (p f t o x : ℤ) → x ≡ pos i *ℤ f +ℤ pos j *ℤ t
    → (i + j) * abs_diff p o ≤ unsigned_abs (pos (i + j) *ℤ p -ℤ x) + (i * abs_diff f o + j * abs_diff t o)
distance-le i j p f t o x is =
    let whole : unsigned_abs (pos (i + j) *ℤ (p -ℤ o)) ≡ (i + j) * abs_diff p o = unsigned_abs-mul (pos (i + j)) (p -ℤ o) in
    let first : unsigned_abs (pos i *ℤ (f -ℤ o)) ≡ i * abs_diff f o = unsigned_abs-mul (pos i) (f -ℤ o) in
    let second : unsigned_abs (pos j *ℤ (t -ℤ o)) ≡ j * abs_diff t o = unsigned_abs-mul (pos j) (t -ℤ o) in
    let sum : unsigned_abs (pos (i + j) *ℤ (p -ℤ o)) ≤ unsigned_abs (pos (i + j) *ℤ p -ℤ x) + unsigned_abs (pos i *ℤ (f -ℤ o) +ℤ pos j *ℤ (t -ℤ o)) =
    subst (λ z. unsigned_abs z ≤ unsigned_abs (pos (i + j) *ℤ p -ℤ x) + unsigned_abs (pos i *ℤ (f -ℤ o) +ℤ pos j *ℤ (t -ℤ o))) (sym (divided i j p f t o x is)) (abs-+ℤ (pos (i + j) *ℤ p -ℤ x) (pos i *ℤ (f -ℤ o) +ℤ pos j *ℤ (t -ℤ o))) in
    omega (arith, whole, first, second, sum, abs-+ℤ (pos i *ℤ (f -ℤ o)) (pos j *ℤ (t -ℤ o)))

-- ---- rectangles

within_side : (i j reach half : ℕ) (p f t o x : ℤ) → 1 ≤ i + j → x ≡ pos i *ℤ f +ℤ pos j *ℤ t → unsigned_abs (pos (i + j) *ℤ p -ℤ x) ≤ (i + j) * reach
    → abs_diff f o + reach ≤ half → abs_diff t o + reach ≤ half → abs_diff p o ≤ half
within_side i j reach half p f t o x some is near first second =
    let a : i * (abs_diff f o + reach) ≤ i * half = mul-le-mul_left i first in
    let b : j * (abs_diff t o + reach) ≤ j * half = mul-le-mul_left j second in
    cancel (i + j) (abs_diff p o) half some (omega (arith, a, b, near, distance-le i j p f t o x is))

rect_near : (r : GridRect) (reach i j : ℕ) (f t p : GridPoint) (x y : ℤ) → 1 ≤ i + j → x ≡ pos i *ℤ f.x +ℤ pos j *ℤ t.x → y ≡ pos i *ℤ f.y +ℤ pos j *ℤ t.y
    → square_length (pos (i + j) *ℤ p.x -ℤ x) (pos (i + j) *ℤ p.y -ℤ y) ≤ square ((i + j) * reach) → rect_covers r f reach ≡ true → rect_covers r t reach ≡ true → IsInRect r p
rect_near r reach i j f t p x y some x_is y_is near e g =
    let u = both_le (abs_diff f.x r.centre.x + reach) r.half_x (abs_diff f.y r.centre.y + reach) r.half_y e in
    let v = both_le (abs_diff t.x r.centre.x + reach) r.half_x (abs_diff t.y r.centre.y + reach) r.half_y g in
    let dx = unsigned_abs (pos (i + j) *ℤ p.x -ℤ x) in
    let dy = unsigned_abs (pos (i + j) *ℤ p.y -ℤ y) in
    (within_side i j reach r.half_x p.x f.x t.x r.centre.x x some x_is (side-le dx dy ((i + j) * reach) near) u.0 v.0, within_side i j reach r.half_y p.y f.y t.y r.centre.y y some y_is (other_side-le dx dy ((i + j) * reach) near) u.1 v.1)

-- the tests of both ends are those of the hole
ends_covered : {S : Type 0} (covers : S → GridPoint → ℕ → Bool) (ring : ℕ) (h : GridHole) (s : S) → covers_hole covers ring h s ≡ true → (covers s h.from (h.radius + ring) ≡ true) × (covers s h.to (h.radius + ring) ≡ true)
ends_covered covers ring h s e = and_parts (covers s h.from (h.radius + ring)) (covers s h.to (h.radius + ring)) e

pub rect_holds : HoldsCoveredHoles IsInRect rect_covers
rect_holds r ring h ends p n =
    let reach : ℕ = h.radius + ring in
    let e = ends_covered rect_covers ring h r ends in
    let x : ℤ = pos n.first *ℤ h.from.x +ℤ pos n.second *ℤ h.to.x in
    let y : ℤ = pos n.first *ℤ h.from.y +ℤ pos n.second *ℤ h.to.y in
    rect_near r reach n.first n.second h.from h.to p x y n.some refl refl n.near e.0 e.1

-- ---- obrounds

-- how far a point lies past the end of a line that reaches this far from its middle, along one axis
past-le : (i j u v w a m : ℕ) → (i + j) * u ≤ m + (i * v + j * w) → (i + j) * (u - a) ≤ m + (i * (v - a) + j * (w - a))
past-le i j u v w a m h =
    let b : i * v ≤ i * ((v - a) + a) = mul-le-mul_left i (omega arith) in
    let c : j * w ≤ j * ((w - a) + a) = mul-le-mul_left j (omega arith) in
    by b c (cases_lt a u)
  where
    by : i * v ≤ i * ((v - a) + a) → j * w ≤ j * ((w - a) + a) → (a < u) ⊎ (u ≤ a) → (i + j) * (u - a) ≤ m + (i * (v - a) + j * (w - a))
    by b c (inl past) =
        let whole : (u - a) + a ≡ u = omega (arith, past) in
        let product : (i + j) * ((u - a) + a) ≡ (i + j) * u = ap (λ n. (i + j) * n) whole in
        omega (arith, product, b, c, h)
    by b c (inr within) =
        let none : u - a ≡ 0 = omega (arith, within) in
        let product : (i + j) * (u - a) ≡ (i + j) * 0 = ap (λ n. (i + j) * n) none in
        omega (arith, product)

scaled : (n a b m : ℕ) → a * a + b * b ≤ m * m → (n * a) * (n * a) + (n * b) * (n * b) ≤ (n * m) * (n * m)
scaled n a b m h =
    let k : (n * n) * (a * a + b * b) ≤ (n * n) * (m * m) = mul-le-mul_left (n * n) h in
    omega (arith, k)

pub without_factor : (n a b m : ℕ) → 1 ≤ n → (n * a) * (n * a) + (n * b) * (n * b) ≤ (n * m) * (n * m) → a * a + b * b ≤ m * m
without_factor n a b m some h =
    let one : 1 ≤ n * n = mul-le 1 1 n n some some in
    cancel (n * n) (a * a + b * b) (m * m) one (omega (arith, h))

-- three steps: the parts of two steps of at most m, and one of at most reach for each part
mean_step-le : (i j reach m dx dy fx fy tx ty px py : ℕ) → 1 ≤ i + j → (i + j) * px ≤ dx + (i * fx + j * tx) → (i + j) * py ≤ dy + (i * fy + j * ty)
    → dx * dx + dy * dy ≤ ((i + j) * reach) * ((i + j) * reach) → fx * fx + fy * fy ≤ m * m → tx * tx + ty * ty ≤ m * m → px * px + py * py ≤ (reach + m) * (reach + m)
mean_step-le i j reach m dx dy fx fy tx ty px py some at_x at_y near first second =
    let ends : (i * fx + j * tx) * (i * fx + j * tx) + (i * fy + j * ty) * (i * fy + j * ty) ≤ (i * m + j * m) * (i * m + j * m) =
    two_steps-le (i * fx) (i * fy) (j * tx) (j * ty) (i * fx + j * tx) (i * fy + j * ty) (i * m) (j * m) (omega arith) (omega arith) (scaled i fx fy m first) (scaled j tx ty m second) in
    let all : ((i + j) * px) * ((i + j) * px) + ((i + j) * py) * ((i + j) * py) ≤ ((i + j) * reach + (i * m + j * m)) * ((i + j) * reach + (i * m + j * m)) =
    two_steps-le dx dy (i * fx + j * tx) (i * fy + j * ty) ((i + j) * px) ((i + j) * py) ((i + j) * reach) (i * m + j * m) at_x at_y near ends in
    let length : (i + j) * reach + (i * m + j * m) ≡ (i + j) * (reach + m) = omega arith in
    without_factor (i + j) px py (reach + m) some (subst (λ l. ((i + j) * px) * ((i + j) * px) + ((i + j) * py) * ((i + j) * py) ≤ l * l) length all)

obround_near : (o : GridObround) (reach i j : ℕ) (f t p : GridPoint) (x y : ℤ) → 1 ≤ i + j → x ≡ pos i *ℤ f.x +ℤ pos j *ℤ t.x → y ≡ pos i *ℤ f.y +ℤ pos j *ℤ t.y
    → square_length (pos (i + j) *ℤ p.x -ℤ x) (pos (i + j) *ℤ p.y -ℤ y) ≤ square ((i + j) * reach) → obround_covers o f reach ≡ true → obround_covers o t reach ≡ true → IsInObround o p
obround_near o reach i j f t p x y some x_is y_is near e g =
    let r : ℕ = end_radius o in
    let u = both_le reach (end_radius o) (square_axis_distance o f) (square (end_radius o - reach)) e in
    let v = both_le reach (end_radius o) (square_axis_distance o t) (square (end_radius o - reach)) g in
    let sum : reach + (end_radius o - reach) ≡ end_radius o = omega (arith, u.0) in
    near_axis o p (subst (λ n. square_axis_distance o p ≤ square n) sum
    (mean_step-le i j reach (end_radius o - reach) (unsigned_abs (pos (i + j) *ℤ p.x -ℤ x)) (unsigned_abs (pos (i + j) *ℤ p.y -ℤ y))
    (abs_diff f.x o.centre.x - (o.half_x - end_radius o)) (abs_diff f.y o.centre.y - (o.half_y - end_radius o)) (abs_diff t.x o.centre.x - (o.half_x - end_radius o)) (abs_diff t.y o.centre.y - (o.half_y - end_radius o))
    (abs_diff p.x o.centre.x - (o.half_x - end_radius o)) (abs_diff p.y o.centre.y - (o.half_y - end_radius o)) some
    (past-le i j (abs_diff p.x o.centre.x) (abs_diff f.x o.centre.x) (abs_diff t.x o.centre.x) (o.half_x - end_radius o) (unsigned_abs (pos (i + j) *ℤ p.x -ℤ x)) (distance-le i j p.x f.x t.x o.centre.x x x_is))
    (past-le i j (abs_diff p.y o.centre.y) (abs_diff f.y o.centre.y) (abs_diff t.y o.centre.y) (o.half_y - end_radius o) (unsigned_abs (pos (i + j) *ℤ p.y -ℤ y)) (distance-le i j p.y f.y t.y o.centre.y y y_is))
    near u.1 v.1))

pub obround_holds : HoldsCoveredHoles IsInObround obround_covers
obround_holds o ring h ends p n =
    let reach : ℕ = h.radius + ring in
    let e = ends_covered obround_covers ring h o ends in
    let x : ℤ = pos n.first *ℤ h.from.x +ℤ pos n.second *ℤ h.to.x in
    let y : ℤ = pos n.first *ℤ h.from.y +ℤ pos n.second *ℤ h.to.y in
    obround_near o reach n.first n.second h.from h.to p x y n.some refl refl n.near e.0 e.1

-- ---- plain pads

pub pad_holds : HoldsCoveredHoles IsInPad pad_covers
pad_holds (Disc d) = disc_holds d
pad_holds (Rect r) = rect_holds r
pad_holds (Obround o) = obround_holds o
