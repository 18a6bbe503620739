-- An obround is the rectangle in its middle and the discs round the two ends of its axis.
use Rattle.std.proofs.Common.{◌≡◌, ℕ, ℤ, pos, ◌-◌, ◌≤◌, ◌+ℤ◌, ◌-ℤ◌, ◌⊎◌, ⊎_elim, Bool, true, false, cond, inl, inr, refl, arith, le_of_eq, le_of_lt}
use Rattle.std.specs.Prelude.{◌↔◌, nat_le}
use Rattle.std.proofs.lemmas.Bool.{cases_lt, leb-true, leb-false}
use Rattle.std.proofs.lemmas.Int.{ints}
use Rattle.grid_units.specs.Points.{GridPoint, abs_diff, square}
use Rattle.grid_units.proofs.TriangleInequalities.{abs_diff_triangle, square-le}
use Rattle.pad_shapes.specs.Shapes.{GridObround, GridRect, IsInDisc, IsInRect, IsInObround, ObroundIsRectangleAndDiscs, axis, end_radius, high_disc, low_disc, square_axis_distance}
use Rattle.pad_shapes.specs.Inner.ShapeLaws.{apart_above, apart_below, apart_past_above, apart_past_below, by_order, near_axis, other_side-le, side-le, square_distance_of}

-- a number is no further from the middle of a line than its ends are, or it is as far from one end as from the line
by_ends : {A B C : Type 0} (z c : ℤ) (a : ℕ) → (abs_diff z c ≤ a → A) → (abs_diff z (c -ℤ pos a) ≡ abs_diff z c - a → B) → (abs_diff z (c +ℤ pos a) ≡ abs_diff z c - a → C) → A ⊎ B ⊎ C
by_ends z c a f g h = elim (cases_lt a (abs_diff z c)) [
  | inl past ↦ inr (by_order c z (λ up. inr (h (apart_past_above z c a up (le_of_lt past)))) (λ down. inl (g (apart_past_below z c a down (le_of_lt past)))))
  | inr within ↦ inl (f within)
]

-- both ends of a line of no length are its middle
at_ends : (z c : ℤ) (a : ℕ) → a ≡ 0 → (abs_diff z (c -ℤ pos a) ≡ abs_diff z c - a) × (abs_diff z (c +ℤ pos a) ≡ abs_diff z c - a)
at_ends z c a none = (omega (arith, ints), omega (arith, ints))

-- no point of an obround is further from the axis than the radius of the ends
axis_near : (o : GridObround) (p : GridPoint) → IsInObround o p → square_axis_distance o p ≤ square (end_radius o)
axis_near o p h =
    let c = h.0 in
    let at_x : abs_diff c.x o.centre.x ≤ o.half_x - end_radius o = h.1.0 in
    let at_y : abs_diff c.y o.centre.y ≤ o.half_y - end_radius o = h.1.1 in
    let x : abs_diff p.x o.centre.x - (o.half_x - end_radius o) ≤ abs_diff p.x c.x = omega (arith, at_x, abs_diff_triangle p.x c.x o.centre.x) in
    let y : abs_diff p.y o.centre.y - (o.half_y - end_radius o) ≤ abs_diff p.y c.y = omega (arith, at_y, abs_diff_triangle p.y c.y o.centre.y) in
    omega (arith, h.2, square-le _ _ x, square-le _ _ y)

in_low_disc : (o : GridObround) (p : GridPoint) → IsInDisc (low_disc o) p → IsInObround o p
in_low_disc o p h = ((low_disc o).centre, (le_of_eq (apart_below o.centre.x (o.half_x - end_radius o)), le_of_eq (apart_below o.centre.y (o.half_y - end_radius o))), h)

in_high_disc : (o : GridObround) (p : GridPoint) → IsInDisc (high_disc o) p → IsInObround o p
in_high_disc o p h = ((high_disc o).centre, (le_of_eq (apart_above o.centre.x (o.half_x - end_radius o)), le_of_eq (apart_above o.centre.y (o.half_y - end_radius o))), h)

-- ---- where the axis lies along x

abbrev lying : GridObround → GridRect
lying o = record { centre = o.centre; half_x = (axis o).half_x; half_y = end_radius o }

in_lying : (o : GridObround) (p : GridPoint) → IsInRect (lying o) p → IsInObround o p
in_lying o p h =
    let x : abs_diff p.x o.centre.x - (o.half_x - end_radius o) ≤ 0 = omega (arith, h.0) in
    let y : abs_diff p.y o.centre.y - (o.half_y - end_radius o) ≤ end_radius o = omega (arith, h.1) in
    near_axis o p (omega (arith, square-le _ _ x, square-le _ _ y))

of_lying : (o : GridObround) (p : GridPoint) → o.half_y ≤ o.half_x → IsInObround o p → IsInRect (lying o) p ⊎ IsInDisc (low_disc o) p ⊎ IsInDisc (high_disc o) p
of_lying o p wide h =
    let near = axis_near o p h in
    let flat : o.half_y - end_radius o ≡ 0 = omega (arith, wide) in
    let ends = at_ends p.y o.centre.y (o.half_y - end_radius o) flat in
    let y : abs_diff p.y o.centre.y - (o.half_y - end_radius o) ≤ end_radius o = other_side-le (abs_diff p.x o.centre.x - (o.half_x - end_radius o)) _ _ near in
    by_ends p.x o.centre.x (o.half_x - end_radius o) (λ within. (within, omega (arith, y, flat)))
    (λ low. square_distance_of p (low_disc o).centre _ _ (end_radius o) low ends.0 near) (λ high. square_distance_of p (high_disc o).centre _ _ (end_radius o) high ends.1 near)

-- ---- where it lies along y

abbrev upright : GridObround → GridRect
upright o = record { centre = o.centre; half_x = end_radius o; half_y = (axis o).half_y }

in_upright : (o : GridObround) (p : GridPoint) → IsInRect (upright o) p → IsInObround o p
in_upright o p h =
    let x : abs_diff p.x o.centre.x - (o.half_x - end_radius o) ≤ end_radius o = omega (arith, h.0) in
    let y : abs_diff p.y o.centre.y - (o.half_y - end_radius o) ≤ 0 = omega (arith, h.1) in
    near_axis o p (omega (arith, square-le _ _ x, square-le _ _ y))

of_upright : (o : GridObround) (p : GridPoint) → o.half_x ≤ o.half_y → IsInObround o p → IsInRect (upright o) p ⊎ IsInDisc (low_disc o) p ⊎ IsInDisc (high_disc o) p
of_upright o p tall h =
    let near = axis_near o p h in
    let flat : o.half_x - end_radius o ≡ 0 = omega (arith, tall) in
    let ends = at_ends p.x o.centre.x (o.half_x - end_radius o) flat in
    let x : abs_diff p.x o.centre.x - (o.half_x - end_radius o) ≤ end_radius o = side-le _ (abs_diff p.y o.centre.y - (o.half_y - end_radius o)) _ near in
    by_ends p.y o.centre.y (o.half_y - end_radius o) (λ within. (omega (arith, x, flat), within))
    (λ low. square_distance_of p (low_disc o).centre _ _ (end_radius o) ends.0 low near) (λ high. square_distance_of p (high_disc o).centre _ _ (end_radius o) ends.1 high near)

pub obround_is_rectangle_and_discs : ObroundIsRectangleAndDiscs
obround_is_rectangle_and_discs o p = by (nat_le o.half_y o.half_x) refl
  where
    by : (t : Bool) → nat_le o.half_y o.half_x ≡ t → IsInObround o p ↔ (IsInRect (cond t (lying o) (upright o)) p ⊎ IsInDisc (low_disc o) p ⊎ IsInDisc (high_disc o) p)
    by true e = (of_lying o p (leb-true o.half_y o.half_x e), ⊎_elim (in_lying o p) (⊎_elim (in_low_disc o p) (in_high_disc o p)))
    by false e = (of_upright o p (le_of_lt (leb-false o.half_y o.half_x e)), ⊎_elim (in_upright o p) (⊎_elim (in_low_disc o p) (in_high_disc o p)))
