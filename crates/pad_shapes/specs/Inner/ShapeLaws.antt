-- Proofs of the laws that the trait asks of each shape. Shapes.antt states what they prove.
use Rattle.std.proofs.Common.{◌≡◌, ℕ, ℤ, pos, ◌+◌, ◌-◌, ◌*◌, ◌≤◌, ◌<◌, ◌+ℤ◌, ◌-ℤ◌, ◌≤ℤ◌, ◌⊎◌, Bool, true, false, inl, inr, ap, subst, arith}
use Rattle.std.specs.Prelude.{◌&&◌, nat_le}
use Rattle.std.proofs.lemmas.Int.{ints, clamps, by_lt_z}
use Rattle.std.proofs.lemmas.Bool.{cases_lt}
use Rattle.std.proofs.lemmas.Bool.Decides.{nat_tests}
use Rattle.grid_units.specs.Holes.{IsBetween}
use Rattle.grid_units.specs.Points.{GridPoint, abs_diff, square, square_distance}
use Rattle.grid_units.proofs.BoolLemmas.{both_true}
use Rattle.grid_units.proofs.TriangleInequalities.{abs_diff_triangle, square-le, le_of_squares, two_steps-le, square_distance-le}
use Rattle.pad_shapes.specs.Shapes.{GridObround, IsInDisc, IsInRect, IsInObround, end_radius, square_axis_distance, disc_covers, rect_covers, obround_covers, IsAxisAligned, IsInBox, ContainsCovered, ContainsCoveredSlots, CoveredIsBetween, HasExtent, RectIsTight}
use Rattle.pad_shapes.specs.declared.pad.Pad.TheVariants.{Disc, Rect, Obround}
use Rattle.pad_shapes.specs.Pads.{IsInPad, pad_covers, pad_left, pad_right}

-- two tests that both passed
pub both_le : (a b c d : ℕ) → (nat_le a b && nat_le c d) ≡ true → (a ≤ b) × (c ≤ d)
both_le a b c d e = (grind (arith, nat_tests), grind (arith, nat_tests))

-- one of two tests failed
not_both_le : (a b c d : ℕ) → (nat_le a b && nat_le c d) ≡ false → (b < a) ⊎ (d < c)
not_both_le a b c d e = elim (cases_lt b a) [
  | inl more ↦ inl more
  | inr within ↦ inr (grind (arith, nat_tests))
]

-- a side of a right triangle is no longer than a bound on the longest one
pub side-le : (a b n : ℕ) → a * a + b * b ≤ n * n → a ≤ n
side-le a b n h = le_of_squares a n (omega (arith, h))

pub other_side-le : (a b n : ℕ) → a * a + b * b ≤ n * n → b ≤ n
other_side-le a b n h = le_of_squares b n (omega (arith, h))

-- a bound on the square of a distance, from the two distances along the axes
pub square_distance_of : (p q : GridPoint) (a b n : ℕ) → abs_diff p.x q.x ≡ a → abs_diff p.y q.y ≡ b → square a + square b ≤ square n → square_distance p q ≤ square n
square_distance_of p q a b n x y h = omega (arith, ap square x, ap square y, h)

within_bounds : (z c : ℤ) (n : ℕ) → abs_diff z c ≤ n → ((c -ℤ pos n) ≤ℤ z) × (z ≤ℤ (c +ℤ pos n))
within_bounds z c n h = (omega (arith, ints), omega (arith, ints))

pub apart_below : (c : ℤ) (n : ℕ) → abs_diff (c -ℤ pos n) c ≡ n
apart_below c n = omega (arith, ints)

pub apart_above : (c : ℤ) (n : ℕ) → abs_diff (c +ℤ pos n) c ≡ n
apart_above c n = omega (arith, ints)

apart_self : (c : ℤ) → abs_diff c c ≡ 0
apart_self c = omega (arith, ints)

pub disc_contains_covered : ContainsCovered IsInDisc disc_covers
disc_contains_covered d c reach e p h =
    let t = both_le reach d.radius (square_distance c d.centre) (square (d.radius - reach)) e in
    let sum : reach + (d.radius - reach) ≡ d.radius = omega (arith, t.0) in
    subst (λ n. square_distance p d.centre ≤ square n) sum (square_distance-le p c d.centre reach (d.radius - reach) h t.1)

pub disc_between : CoveredIsBetween disc_covers (λ d. d.centre.x -ℤ pos d.radius) (λ d. d.centre.x +ℤ pos d.radius)
disc_between d c reach e =
    let t = both_le reach d.radius (square_distance c d.centre) (square (d.radius - reach)) e in
    let near : abs_diff c.x d.centre.x ≤ d.radius - reach = side-le _ (abs_diff c.y d.centre.y) _ t.1 in
    within_bounds c.x d.centre.x d.radius (omega (arith, near))

pub disc_extent : HasExtent IsInDisc (λ d. d.centre.x -ℤ pos d.radius) (λ d. d.centre.x +ℤ pos d.radius)
disc_extent d = record {
  least = λ p h. (within_bounds p.x d.centre.x d.radius (side-le _ (abs_diff p.y d.centre.y) _ h)).0;
  greatest = λ p h. (within_bounds p.x d.centre.x d.radius (side-le _ (abs_diff p.y d.centre.y) _ h)).1;
  attains_least = (d.centre.y, square_distance_of (record { x = d.centre.x -ℤ pos d.radius; y = d.centre.y }) d.centre d.radius 0 d.radius (apart_below d.centre.x d.radius) (apart_self d.centre.y) (omega arith));
  attains_greatest = (d.centre.y, square_distance_of (record { x = d.centre.x +ℤ pos d.radius; y = d.centre.y }) d.centre d.radius 0 d.radius (apart_above d.centre.x d.radius) (apart_self d.centre.y) (omega arith));
}

pub rect_contains_covered : ContainsCovered IsInRect rect_covers
rect_contains_covered r c reach e p h =
    let t = both_le (abs_diff c.x r.centre.x + reach) r.half_x (abs_diff c.y r.centre.y + reach) r.half_y e in
    let x : abs_diff p.x c.x ≤ reach = side-le _ (abs_diff p.y c.y) _ h in
    let y : abs_diff p.y c.y ≤ reach = other_side-le (abs_diff p.x c.x) _ _ h in
    (omega (arith, t.0, x, abs_diff_triangle p.x c.x r.centre.x), omega (arith, t.1, y, abs_diff_triangle p.y c.y r.centre.y))

pub rect_between : CoveredIsBetween rect_covers (λ r. r.centre.x -ℤ pos r.half_x) (λ r. r.centre.x +ℤ pos r.half_x)
rect_between r c reach e =
    let t = both_le (abs_diff c.x r.centre.x + reach) r.half_x (abs_diff c.y r.centre.y + reach) r.half_y e in
    within_bounds c.x r.centre.x r.half_x (omega (arith, t.0))

pub rect_extent : HasExtent IsInRect (λ r. r.centre.x -ℤ pos r.half_x) (λ r. r.centre.x +ℤ pos r.half_x)
rect_extent r = record {
  least = λ p h. (within_bounds p.x r.centre.x r.half_x h.0).0;
  greatest = λ p h. (within_bounds p.x r.centre.x r.half_x h.0).1;
  attains_least = (r.centre.y, (omega (arith, apart_below r.centre.x r.half_x), omega (arith, apart_self r.centre.y)));
  attains_greatest = (r.centre.y, (omega (arith, apart_above r.centre.x r.half_x), omega (arith, apart_self r.centre.y)));
}

-- the distance from a point past an end to that end, along one axis
pub apart_past_above : (z c : ℤ) (a : ℕ) → c ≤ℤ z → a ≤ abs_diff z c → abs_diff z (c +ℤ pos a) ≡ abs_diff z c - a
apart_past_above z c a h k = omega (arith, ints)

pub apart_past_below : (z c : ℤ) (a : ℕ) → z ≤ℤ c → a ≤ abs_diff z c → abs_diff z (c -ℤ pos a) ≡ abs_diff z c - a
apart_past_below z c a h k = omega (arith, ints)

pub by_order : {P : Type 0} (a b : ℤ) → (a ≤ℤ b → P) → (b ≤ℤ a → P) → P
by_order a b f g = by_lt_z a b (λ h. f (omega (arith, ints))) g

-- the point of a line that is nearest, along one axis: the line reaches this far from its middle to both sides
nearest : (z o : ℤ) (a : ℕ) → (c : ℤ) × (abs_diff c o ≤ a) × (abs_diff z c ≡ abs_diff z o - a)
nearest z o a = elim (cases_lt a (abs_diff z o)) [
  | inl past ↦ by_order o z
      (λ k. (o +ℤ pos a, omega (arith, apart_above o a), apart_past_above z o a k (omega (arith, past))))
      (λ k. (o -ℤ pos a, omega (arith, apart_below o a), apart_past_below z o a k (omega (arith, past))))
  | inr within ↦ (z, within, omega (arith, apart_self z, within))
]

-- a point that is no further from the axis than the radius is in the obround
pub near_axis : (o : GridObround) (p : GridPoint) → square_axis_distance o p ≤ square (end_radius o) → IsInObround o p
near_axis o p h =
    let x = nearest p.x o.centre.x (o.half_x - end_radius o) in
    let y = nearest p.y o.centre.y (o.half_y - end_radius o) in
    (record { x = x.0; y = y.0 }, (x.1, y.1), square_distance_of p (record { x = x.0; y = y.0 }) _ _ (end_radius o) x.2 y.2 h)

pub obround_contains_covered : ContainsCovered IsInObround obround_covers
obround_contains_covered o c reach e p h =
    let r : ℕ = end_radius o in
    let t = both_le reach (end_radius o) (square_axis_distance o c) (square (end_radius o - reach)) e in
    let sum : reach + (end_radius o - reach) ≡ end_radius o = omega (arith, t.0) in
    near_axis o p (subst (λ n. square_axis_distance o p ≤ square n) sum
    (two_steps-le (abs_diff p.x c.x) (abs_diff p.y c.y) (abs_diff c.x o.centre.x - (o.half_x - end_radius o)) (abs_diff c.y o.centre.y - (o.half_y - end_radius o)) _ _ reach (end_radius o - reach)
    (omega (arith, abs_diff_triangle p.x c.x o.centre.x)) (omega (arith, abs_diff_triangle p.y c.y o.centre.y)) h t.1))

pub obround_between : CoveredIsBetween obround_covers (λ o. o.centre.x -ℤ pos o.half_x) (λ o. o.centre.x +ℤ pos o.half_x)
obround_between o c reach e =
    let t = both_le reach (end_radius o) (square_axis_distance o c) (square (end_radius o - reach)) e in
    let past : abs_diff c.x o.centre.x - (o.half_x - end_radius o) ≤ end_radius o - reach = side-le _ (abs_diff c.y o.centre.y - (o.half_y - end_radius o)) _ t.1 in
    within_bounds c.x o.centre.x o.half_x (omega (arith, past))

-- no part of an obround is further than half a side from its centre
obround_within_x : (o : GridObround) (p : GridPoint) → IsInObround o p → abs_diff p.x o.centre.x ≤ o.half_x
obround_within_x o p h =
    let c = h.0 in
    let along : abs_diff c.x o.centre.x ≤ o.half_x - end_radius o = h.1.0 in
    omega (arith, side-le _ (abs_diff p.y c.y) _ h.2, abs_diff_triangle p.x c.x o.centre.x, along)

apart_below_end : (c : ℤ) (n r : ℕ) → r ≤ n → abs_diff (c -ℤ pos n) (c -ℤ pos (n - r)) ≡ r
apart_below_end c n r h = omega (arith, ints)

apart_above_end : (c : ℤ) (n r : ℕ) → r ≤ n → abs_diff (c +ℤ pos n) (c +ℤ pos (n - r)) ≡ r
apart_above_end c n r h = omega (arith, ints)

pub obround_extent : HasExtent IsInObround (λ o. o.centre.x -ℤ pos o.half_x) (λ o. o.centre.x +ℤ pos o.half_x)
obround_extent o = record {
  least = λ p h. (within_bounds p.x o.centre.x o.half_x (obround_within_x o p h)).0;
  greatest = λ p h. (within_bounds p.x o.centre.x o.half_x (obround_within_x o p h)).1;
  attains_least = attained (o.centre.x -ℤ pos o.half_x) (o.centre.x -ℤ pos (o.half_x - end_radius o)) (omega (arith, apart_below o.centre.x (o.half_x - end_radius o)))
      (apart_below_end o.centre.x o.half_x (end_radius o) (omega arith));
  attains_greatest = attained (o.centre.x +ℤ pos o.half_x) (o.centre.x +ℤ pos (o.half_x - end_radius o)) (omega (arith, apart_above o.centre.x (o.half_x - end_radius o)))
      (apart_above_end o.centre.x o.half_x (end_radius o) (omega arith));
}
  where
    -- the point at the height of the centre, by an end of the axis
    attained : (x end : ℤ) → abs_diff end o.centre.x ≤ o.half_x - end_radius o → abs_diff x end ≡ end_radius o → (y : ℤ) × IsInObround o (record { x = x; y = y })
    attained x end along far =
        let p : GridPoint = record { x = x; y = o.centre.y } in
        let c : GridPoint = record { x = end; y = o.centre.y } in
        (o.centre.y, (c, (along, omega (arith, apart_self o.centre.y)), square_distance_of p c (end_radius o) 0 (end_radius o) far (apart_self o.centre.y) (omega arith)))

pub pad_contains_covered : ContainsCovered IsInPad pad_covers
pad_contains_covered (Disc d) = disc_contains_covered d
pad_contains_covered (Rect r) = rect_contains_covered r
pad_contains_covered (Obround o) = obround_contains_covered o

pub pad_between : CoveredIsBetween pad_covers pad_left pad_right
pad_between (Disc d) = disc_between d
pad_between (Rect r) = rect_between r
pad_between (Obround o) = obround_between o

pub pad_extent : HasExtent IsInPad pad_left pad_right
pad_extent (Disc d) = disc_extent d
pad_extent (Rect r) = rect_extent r
pad_extent (Obround o) = obround_extent o

-- along both axes, c is no further from o than the end is
abbrev IsNearer : GridPoint → GridPoint → GridPoint → Type 0
IsNearer o c end = (abs_diff c.x o.x ≤ abs_diff end.x o.x) × (abs_diff c.y o.y ≤ abs_diff end.y o.y)

-- a shape that covers an end covers each centre that is nearer to its middle along both axes
abbrev CoversMonotone : {S : Type 0} → (S → GridPoint) → (S → GridPoint → ℕ → Bool) → Type 0
CoversMonotone {S} middle covers = (s : S) (c end : GridPoint) (reach : ℕ) → IsNearer (middle s) c end → covers s end reach ≡ true → covers s c reach ≡ true

-- a number between two others is no further from a third than one of the two
nearer_side : (a b o z : ℤ) → IsBetween a b z → (abs_diff z o ≤ abs_diff a o) ⊎ (abs_diff z o ≤ abs_diff b o)
nearer_side a b o z h = by_order a b
    (λ up. by_order z o (λ low. inl (omega (arith, ints, clamps))) (λ high. inr (omega (arith, ints, clamps))))
    (λ down. by_order z o (λ low. inr (omega (arith, ints, clamps))) (λ high. inl (omega (arith, ints, clamps))))

-- a number between two equal ones is no further from a third than either of them
same_side : (a b o z : ℤ) → a ≡ b → IsBetween a b z → (abs_diff z o ≤ abs_diff a o) × (abs_diff z o ≤ abs_diff b o)
same_side a b o z e h = (omega (arith, ints, clamps), omega (arith, ints, clamps))

-- a point between the ends of a slot along an axis is nearer than one of the ends
nearer_end : (o from to c : GridPoint) → IsAxisAligned from to → IsInBox from to c → IsNearer o c from ⊎ IsNearer o c to
nearer_end o from to c along h = elim along [
  | inl upright ↦ let x = same_side from.x to.x o.x c.x upright h.0 in
      elim (nearer_side from.y to.y o.y c.y h.1) [ inl first ↦ inl (x.0, first) | inr second ↦ inr (x.1, second) ]
  | inr lying ↦ let y = same_side from.y to.y o.y c.y lying h.1 in
      elim (nearer_side from.x to.x o.x c.x h.0) [ inl first ↦ inl (first, y.0) | inr second ↦ inr (second, y.1) ]
]

-- a shape that covers nearer centres holds slots
holds_slots : {S : Type 0} (middle : S → GridPoint) (points : S → GridPoint → Type 0) (covers : S → GridPoint → ℕ → Bool) → ContainsCovered points covers → CoversMonotone middle covers → ContainsCoveredSlots points covers
holds_slots middle points covers holds nearer s from to reach along ends c p inside h =
    let both = both_true (covers s from reach) (covers s to reach) ends in
    elim (nearer_end (middle s) from to c along inside) [
      | inl first ↦ holds s c reach (nearer s c from reach first both.0) p h
      | inr second ↦ holds s c reach (nearer s c to reach second both.1) p h
    ]

le_both : (a b c d : ℕ) → a ≤ b → c ≤ d → (nat_le a b && nat_le c d) ≡ true
le_both a b c d h k = grind (arith, nat_tests)

disc_monotone : CoversMonotone (λ d. d.centre) disc_covers
disc_monotone d c end reach near e =
    let t = both_le reach d.radius (square_distance end d.centre) (square (d.radius - reach)) e in
    le_both reach d.radius (square_distance c d.centre) (square (d.radius - reach)) t.0 (omega (arith, t.1, square-le _ _ near.0, square-le _ _ near.1))

rect_monotone : CoversMonotone (λ r. r.centre) rect_covers
rect_monotone r c end reach near e =
    let t = both_le (abs_diff end.x r.centre.x + reach) r.half_x (abs_diff end.y r.centre.y + reach) r.half_y e in
    le_both (abs_diff c.x r.centre.x + reach) r.half_x (abs_diff c.y r.centre.y + reach) r.half_y (omega (arith, t.0, near.0)) (omega (arith, t.1, near.1))

obround_monotone : CoversMonotone (λ o. o.centre) obround_covers
obround_monotone o c end reach near e =
    let t = both_le reach (end_radius o) (square_axis_distance o end) (square (end_radius o - reach)) e in
    let x : abs_diff c.x o.centre.x - (o.half_x - end_radius o) ≤ abs_diff end.x o.centre.x - (o.half_x - end_radius o) = omega (arith, near.0) in
    let y : abs_diff c.y o.centre.y - (o.half_y - end_radius o) ≤ abs_diff end.y o.centre.y - (o.half_y - end_radius o) = omega (arith, near.1) in
    le_both reach (end_radius o) (square_axis_distance o c) (square (end_radius o - reach)) t.0 (omega (arith, t.1, square-le _ _ x, square-le _ _ y))

pub disc_contains_slots : ContainsCoveredSlots IsInDisc disc_covers
disc_contains_slots = holds_slots (λ d. d.centre) IsInDisc disc_covers disc_contains_covered disc_monotone

pub rect_contains_slots : ContainsCoveredSlots IsInRect rect_covers
rect_contains_slots = holds_slots (λ r. r.centre) IsInRect rect_covers rect_contains_covered rect_monotone

pub obround_contains_slots : ContainsCoveredSlots IsInObround obround_covers
obround_contains_slots = holds_slots (λ o. o.centre) IsInObround obround_covers obround_contains_covered obround_monotone

pub pad_contains_slots : ContainsCoveredSlots IsInPad pad_covers
pad_contains_slots (Disc d) = disc_contains_slots d
pad_contains_slots (Rect r) = rect_contains_slots r
pad_contains_slots (Obround o) = obround_contains_slots o

-- the point that is the reach away from c along one axis, on the side away from z
point_beyond : (c z : ℤ) (reach : ℕ) → (p : ℤ) × (abs_diff p c ≡ reach) × (abs_diff p z ≡ abs_diff c z + reach)
point_beyond c z reach = by_order z c
    (λ h. (c +ℤ pos reach, omega (arith, ints), omega (arith, ints)))
    (λ h. (c -ℤ pos reach, omega (arith, ints), omega (arith, ints)))

pub rect_is_tight : RectIsTight
rect_is_tight r c reach e =
    elim (not_both_le (abs_diff c.x r.centre.x + reach) r.half_x (abs_diff c.y r.centre.y + reach) r.half_y e) [
      | inl x ↦
          let far = point_beyond c.x r.centre.x reach in
          (record { x = far.0; y = c.y }, square_distance_of (record { x = far.0; y = c.y }) c reach 0 reach far.1 (apart_self c.y) (omega arith), λ inside. omega (arith, inside.0, far.2, x))
      | inr y ↦
          let far = point_beyond c.y r.centre.y reach in
          (record { x = c.x; y = far.0 }, square_distance_of (record { x = c.x; y = far.0 }) c 0 reach reach (apart_self c.x) far.1 (omega arith), λ inside. omega (arith, inside.1, far.2, y))
    ]
