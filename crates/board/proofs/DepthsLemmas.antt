-- Depths from roots that are rounded up.
use Rattle.board.proofs.Common.{◌≡◌, ◌↔◌, ℕ, ℤ, pos, negsuc, ◌+◌, ◌-◌, ◌≤◌, ◌<◌, ◌-ℤ◌, ◌≤ℤ◌, Bool, true, false, refl, sym, subst, ◌∙◌, w64, to_z, arith, ◌&&◌, nat_le, int_min, ints, clamps, false≢true, GridPoint, abs_diff, square, square_distance, GridHole, GridDisc, GridObround, end_radius, square_axis_distance, disc_covers, obround_covers, IsDepth, IsDepthOfHole, both_true}
use Rattle.pad_shapes.specs.Rounded.{GridRounded, IsGreatestReach, rounded_covers}
use Rattle.board.specs.Inner.DepthLaws.{both_le, le_both, rounded_covers_less}

-- within a circle: a point is covered up to the radius less its distance, rounded up
pub round_depth : (radius far root n : ℕ) → ((t : ℕ) → (far ≤ square t) ↔ (root ≤ t)) → ((nat_le n radius && nat_le far (square (radius - n))) ≡ true) ↔ (pos n ≤ℤ (pos radius -ℤ pos root))
round_depth radius far root n exact = (
  λ e.
      let t = both_le n radius far (square (radius - n)) e in
      let u : root ≤ radius - n = (exact (radius - n)).0 t.1 in omega (arith, ints, t.0, u),
  λ h.
      let u : root ≤ radius - n = omega (arith, ints) in
      let s : n ≤ radius = omega (arith, ints) in le_both n radius far (square (radius - n)) s ((exact (radius - n)).1 u),
)

-- within a rectangle: a point is covered up to the lesser distance from a side
pub straight_depth : (dx dy half_x half_y n : ℕ) → ((nat_le (dx + n) half_x && nat_le (dy + n) half_y) ≡ true) ↔ (pos n ≤ℤ int_min (pos half_x -ℤ pos dx) (pos half_y -ℤ pos dy))
straight_depth dx dy half_x half_y n = (
  λ e. let t = both_le (dx + n) half_x (dy + n) half_y e in omega (arith, ints, clamps, t.0, t.1),
  λ h. le_both (dx + n) half_x (dy + n) half_y (omega (arith, ints, clamps)) (omega (arith, ints, clamps)),
)

-- the lesser of two depths
pub lesser_depth : (a b : Bool) (x y : ℤ) (n : ℕ) → (a ≡ true) ↔ (pos n ≤ℤ x) → (b ≡ true) ↔ (pos n ≤ℤ y) → ((a && b) ≡ true) ↔ (pos n ≤ℤ int_min x y)
lesser_depth a b x y n p q = (
  λ e. let t = both_true a b e in let u : pos n ≤ℤ x = p.0 t.0 in let v : pos n ≤ℤ y = q.0 t.1 in omega (arith, ints, clamps),
  λ h. let u : a ≡ true = p.1 (omega (arith, ints, clamps)) in let v : b ≡ true = q.1 (omega (arith, ints, clamps)) in rw (u, v) refl,
)

-- a root that is rounded up, by equal numbers
root_of : (dx dy a b root : ℕ) → dx ≡ a → dy ≡ b → ((t : ℕ) → (square dx + square dy ≤ square t) ↔ (root ≤ t)) → (t : ℕ) → (square a + square b ≤ square t) ↔ (root ≤ t)
root_of dx dy a b root x y exact = subst (λ (k : ℕ). (t : ℕ) → (square a + square k ≤ square t) ↔ (root ≤ t)) y (subst (λ (k : ℕ). (t : ℕ) → (square k + square dy ≤ square t) ↔ (root ≤ t)) x exact)

pub disc_depth : (d : GridDisc) (p : GridPoint) (radius dx dy root : ℕ) → radius ≡ d.radius → dx ≡ abs_diff p.x d.centre.x → dy ≡ abs_diff p.y d.centre.y
    → ((t : ℕ) → (square dx + square dy ≤ square t) ↔ (root ≤ t)) → IsDepth disc_covers d p (pos radius -ℤ pos root)
disc_depth d p radius dx dy root r x y exact n =
    subst (λ (k : ℕ). (disc_covers d p n ≡ true) ↔ (pos n ≤ℤ (pos k -ℤ pos root))) (sym r)
    (round_depth d.radius (square_distance p d.centre) root n (root_of dx dy (abs_diff p.x d.centre.x) (abs_diff p.y d.centre.y) root x y exact))

pub obround_depth : (o : GridObround) (p : GridPoint) (radius dx dy root : ℕ) → radius ≡ end_radius o → dx ≡ abs_diff p.x o.centre.x - (o.half_x - end_radius o) → dy ≡ abs_diff p.y o.centre.y - (o.half_y - end_radius o)
    → ((t : ℕ) → (square dx + square dy ≤ square t) ↔ (root ≤ t)) → IsDepth obround_covers o p (pos radius -ℤ pos root)
obround_depth o p radius dx dy root r x y exact n =
    subst (λ (k : ℕ). (obround_covers o p n ≡ true) ↔ (pos n ≤ℤ (pos k -ℤ pos root))) (sym r)
    (round_depth (end_radius o) (square_axis_distance o p) root n (root_of dx dy (abs_diff p.x o.centre.x - (o.half_x - end_radius o)) (abs_diff p.y o.centre.y - (o.half_y - end_radius o)) root x y exact))

-- a round hole lies as deep as its centre
pub round_hole : {S : Type 0} (covers : S → GridPoint → ℕ → Bool) (pad : S) (h : GridHole) (depth : ℤ) → h.from ≡ h.to → IsDepth covers pad h.from depth → IsDepthOfHole covers pad h depth
round_hole covers pad h depth same is reach = (
  λ e. (is reach).0 (both_true (covers pad h.from reach) (covers pad h.to reach) e).0,
  λ l.
      let first : covers pad h.from reach ≡ true = (is reach).1 l in
      let second : covers pad h.to reach ≡ true = subst (λ (p : GridPoint). covers pad p reach ≡ true) same first in rw (first, second) refl,
)

-- a rounded polygon: the greatest reach, as the code answers it
pub reach_is_depth : (r : GridRounded) (c : GridPoint) (reach : ℕ) → IsGreatestReach r c reach → IsDepth rounded_covers r c (to_z w64 reach)
reach_is_depth r c reach is n =
    let bound : reach < 20000000000000 = is.in_range in (
      λ e. let below : n ≤ reach = is.greatest n e in omega (arith, ints, below, bound),
      λ h. rounded_covers_less r c n reach (omega (arith, ints, h, bound)) is.covered,
    )

-- what does not cover a point with the reach 0 covers it with none
pub none_is_depth : (r : GridRounded) (c : GridPoint) → rounded_covers r c 0 ≡ false → IsDepth rounded_covers r c (negsuc 0)
none_is_depth r c not_covered n = (
  λ e. absurd (false≢true (sym not_covered ∙ rounded_covers_less r c 0 n (omega arith) e)),
  λ h. absurd (omega (arith, ints, h)),
)
