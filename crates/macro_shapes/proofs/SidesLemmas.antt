-- Rectangles by their four sides: a point of one lies between them.
use Rattle.macro_shapes.proofs.Common.{◌≡◌, ℕ, ℤ, pos, ◌*◌, ◌/◌, ◌≤◌, ◌≤ℤ◌, ◌<ℤ◌, ◌+ℤ◌, ◌-ℤ◌, ◌*ℤ◌, unsigned_abs, Bool, true, false, cond, List, [], ◌∷◌, length, Option, None, Some, refl, sym, ap, subst, ◌∙◌, inl, inr, arith, ◌&&◌, nat_le, nat_lt, int_le, int_lt, and_parts, or_cases, false≢true, ints, by_lt_z, cond_some, option_and_then_some, GridPoint, max_coordinate, square, GridRounded, Edge, cross, square_edge, is_deep_left, is_deep_left_of_all, has_area, is_convex, is_outline, max_corners, IsInRounded, is_z, is_sub, is_mul, same, of_natural, edge, no_area, area_of, at_least_0, times_no, no_times, no_cross, grid_point, rounded_of, rectangle_of, rectangle_about}
use Rattle.pad_shapes.specs.Shapes.{max_half_side}
use Rattle.pad_shapes.specs.Inner.RoundedLaws.{left_of}
use Rattle.pad_shapes.specs.Inner.RoundedSets.{polygon_is_left_of_edges}

-- ---- rounded polygons

pub cond_is : {A : Type 0} (t : Bool) (x : Option A) (y : A) → cond t x None ≡ Some y → (t ≡ true) × (x ≡ Some y)
cond_is true x y h = (refl, h)
cond_is false x y h = absurd cc

abbrev pub with_radius : GridPoint → List GridPoint → ℕ → GridRounded
with_radius first others radius = record { first = first; others = others; radius = radius }

pub rounded_parts : (first : GridPoint) (others : List GridPoint) (size : ℕ) (s : GridRounded) → rounded_of first others size ≡ Some s → (with_radius first others (size / 2) ≡ s) × (is_outline first others ≡ true)
rounded_parts first others size s h =
    let both = cond_some (nat_lt (length others) max_corners && (nat_le (size / 2) max_half_side && is_outline first others)) (with_radius first others (size / 2)) s h in
    (both.1, (and_parts (nat_le (size / 2) max_half_side) (is_outline first others) (and_parts (nat_lt (length others) max_corners) (nat_le (size / 2) max_half_side && is_outline first others) both.0).1).1)

-- ---- rectangles

-- a point is in the rectangle with these sides, which has an area
pub record IsInSides (left bottom right top : ℤ) (p : GridPoint) : Type 0 where
  pub wide : left <ℤ right
  pub tall : bottom <ℤ top
  pub left_of_it : left ≤ℤ p.x
  pub right_of_it : p.x ≤ℤ right
  pub below_it : bottom ≤ℤ p.y
  pub above_it : p.y ≤ℤ top

abbrev pub at : ℤ → ℤ → GridPoint
at x y = record { x = x; y = y }

abbrev pub sided : ℤ → ℤ → ℤ → ℤ → GridRounded
sided l b r t = with_radius (at l b) (at r b ∷ at r t ∷ at l t ∷ []) 0

-- the areas of the first corner at the second and third edge
second_area : (l b r t : ℤ) → (r -ℤ r) *ℤ (b -ℤ b) -ℤ (t -ℤ b) *ℤ (l -ℤ r) ≡ (t -ℤ b) *ℤ (r -ℤ l)
second_area l b r t =
    same (is_sub (is_mul (is_sub (is_z r) (is_z r)) (is_sub (is_z b) (is_z b))) (is_mul (is_sub (is_z t) (is_z b)) (is_sub (is_z l) (is_z r)))) (is_mul (is_sub (is_z t) (is_z b)) (is_sub (is_z r) (is_z l))) (omega arith)

third_area : (l b r t : ℤ) → (l -ℤ r) *ℤ (b -ℤ t) -ℤ (t -ℤ t) *ℤ (l -ℤ r) ≡ (t -ℤ b) *ℤ (r -ℤ l)
third_area l b r t =
    same (is_sub (is_mul (is_sub (is_z l) (is_z r)) (is_sub (is_z b) (is_z t))) (is_mul (is_sub (is_z t) (is_z t)) (is_sub (is_z l) (is_z r)))) (is_mul (is_sub (is_z t) (is_z b)) (is_sub (is_z r) (is_z l))) (omega arith)

pub has_sides : (l b r t : ℤ) → has_area (sided l b r t) ≡ true → pos 0 <ℤ ((t -ℤ b) *ℤ (r -ℤ l))
has_sides l b r t h =
    elim (or_cases (int_lt (pos 0) (cross (edge (at l b) (at r b)) (at l b))) _ h) [
      | inl first ↦ absurd (never (cross (edge (at l b) (at r b)) (at l b)) (no_cross (edge (at l b) (at r b))) first)
      | inr rest ↦ elim (or_cases (int_lt (pos 0) (cross (edge (at r b) (at r t)) (at l b))) _ rest) [
        | inl second ↦ subst (λ z. pos 0 <ℤ z) (second_area l b r t) (above_of (cross (edge (at r b) (at r t)) (at l b)) second)
        | inr later ↦ elim (or_cases (int_lt (pos 0) (cross (edge (at r t) (at l t)) (at l b))) _ later) [
          | inl third ↦ subst (λ z. pos 0 <ℤ z) (third_area l b r t) (above_of (cross (edge (at r t) (at l t)) (at l b)) third)
          | inr last ↦ elim (or_cases (int_lt (pos 0) (cross (edge (at l t) (at l b)) (at l b))) false last) [
            | inl fourth ↦ absurd (never (cross (edge (at l t) (at l b)) (at l b)) (no_area (at l t) (at l b)) fourth)
            | inr none ↦ absurd (false≢true none)
          ]
        ]
      ]
    ]
  where
    above_of : (z : ℤ) → int_lt (pos 0) z ≡ true → pos 0 <ℤ z
    above_of z t = omega (arith, ints)

    never : (z : ℤ) → z ≡ pos 0 → int_lt (pos 0) z ≡ true → ⊥
    never z e t = omega (arith, ints)

pub bottom_edge : (l b r x y : ℤ) → (r -ℤ l) *ℤ (y -ℤ b) -ℤ (b -ℤ b) *ℤ (x -ℤ l) ≡ (r -ℤ l) *ℤ (y -ℤ b)
bottom_edge l b r x y = same (is_sub (is_mul (is_sub (is_z r) (is_z l)) (is_sub (is_z y) (is_z b))) (is_mul (is_sub (is_z b) (is_z b)) (is_sub (is_z x) (is_z l)))) (is_mul (is_sub (is_z r) (is_z l)) (is_sub (is_z y) (is_z b))) (omega arith)

pub right_edge : (b r t x y : ℤ) → (r -ℤ r) *ℤ (y -ℤ b) -ℤ (t -ℤ b) *ℤ (x -ℤ r) ≡ (t -ℤ b) *ℤ (r -ℤ x)
right_edge b r t x y = same (is_sub (is_mul (is_sub (is_z r) (is_z r)) (is_sub (is_z y) (is_z b))) (is_mul (is_sub (is_z t) (is_z b)) (is_sub (is_z x) (is_z r)))) (is_mul (is_sub (is_z t) (is_z b)) (is_sub (is_z r) (is_z x))) (omega arith)

top_edge : (l r t x y : ℤ) → (l -ℤ r) *ℤ (y -ℤ t) -ℤ (t -ℤ t) *ℤ (x -ℤ r) ≡ (r -ℤ l) *ℤ (t -ℤ y)
top_edge l r t x y = same (is_sub (is_mul (is_sub (is_z l) (is_z r)) (is_sub (is_z y) (is_z t))) (is_mul (is_sub (is_z t) (is_z t)) (is_sub (is_z x) (is_z r)))) (is_mul (is_sub (is_z r) (is_z l)) (is_sub (is_z t) (is_z y))) (omega arith)

left_edge : (l b t x y : ℤ) → (l -ℤ l) *ℤ (y -ℤ t) -ℤ (b -ℤ t) *ℤ (x -ℤ l) ≡ (t -ℤ b) *ℤ (x -ℤ l)
left_edge l b t x y = same (is_sub (is_mul (is_sub (is_z l) (is_z l)) (is_sub (is_z y) (is_z t))) (is_mul (is_sub (is_z b) (is_z t)) (is_sub (is_z x) (is_z l)))) (is_mul (is_sub (is_z t) (is_z b)) (is_sub (is_z x) (is_z l))) (omega arith)

-- a factor is not below 0 where the product with one above 0 is not
factor : (w z c : ℤ) → pos 0 <ℤ w → c ≡ w *ℤ z → int_le (pos 0) c ≡ true → pos 0 ≤ℤ z
factor w z c some e h =
    at_least_0 (unsigned_abs w) z (one_at_least w some) (subst (λ u. pos 0 ≤ℤ u) (e ∙ ap (λ u. u *ℤ z) (sym (of_natural w (weaker w some)))) (left_of c h))
  where
    one_at_least : (u : ℤ) → pos 0 <ℤ u → 1 ≤ unsigned_abs u
    one_at_least u l = omega (arith, ints)

    weaker : (u : ℤ) → pos 0 <ℤ u → pos 0 ≤ℤ u
    weaker u l = omega (arith, ints)

-- a convex rectangle has a width and a height
pub are_apart : (l b r t : ℤ) → is_convex (sided l b r t) ≡ true → l ≤ℤ r → b ≤ℤ t → (l <ℤ r) × (b <ℤ t)
are_apart l b r t convex x y =
    let area = has_sides l b r t (area_of (sided l b r t) convex) in
    (wide_of l r x area, tall_of b t y area)
  where
    never : (z : ℤ) → z ≡ pos 0 → pos 0 <ℤ z → ⊥
    never z e d = omega (arith, ints)

    no_gap : (u v : ℤ) → u ≤ℤ v → v ≤ℤ u → v -ℤ u ≡ pos 0
    no_gap u v d e = omega (arith, ints)

    wide_of : (u v : ℤ) → u ≤ℤ v → pos 0 <ℤ ((t -ℤ b) *ℤ (v -ℤ u)) → u <ℤ v
    wide_of u v d a = by_lt_z u v (λ less. less) (λ more. absurd (never ((t -ℤ b) *ℤ (v -ℤ u)) (ap (λ z. (t -ℤ b) *ℤ z) (no_gap u v d more) ∙ times_no (t -ℤ b)) a))

    tall_of : (u v : ℤ) → u ≤ℤ v → pos 0 <ℤ ((v -ℤ u) *ℤ (r -ℤ l)) → u <ℤ v
    tall_of u v d a = by_lt_z u v (λ less. less) (λ more. absurd (never ((v -ℤ u) *ℤ (r -ℤ l)) (ap (λ z. z *ℤ (r -ℤ l)) (no_gap u v d more) ∙ no_times (r -ℤ l)) a))

pub in_sides : (l b r t : ℤ) → (l <ℤ r) × (b <ℤ t) → (p : GridPoint) → is_deep_left_of_all (sided l b r t) 0 p ≡ true → IsInSides l b r t p
in_sides l b r t (w, v) p all =
    let first = and_parts (is_deep_left (edge (at l b) (at r b)) 0 p) _ all in
    let second = and_parts (is_deep_left (edge (at r b) (at r t)) 0 p) _ first.1 in
    let third = and_parts (is_deep_left (edge (at r t) (at l t)) 0 p) _ second.1 in
    let fourth = and_parts (is_deep_left (edge (at l t) (at l b)) 0 p) true third.1 in
    record {
      wide = w;
      tall = v;
      left_of_it = ahead_of p.x l (factor (t -ℤ b) (p.x -ℤ l) (cross (edge (at l t) (at l b)) p) (apart b t v) (left_edge l b t p.x p.y) (side (edge (at l t) (at l b)) fourth.0));
      right_of_it = ahead_of r p.x (factor (t -ℤ b) (r -ℤ p.x) (cross (edge (at r b) (at r t)) p) (apart b t v) (right_edge b r t p.x p.y) (side (edge (at r b) (at r t)) second.0));
      below_it = ahead_of p.y b (factor (r -ℤ l) (p.y -ℤ b) (cross (edge (at l b) (at r b)) p) (apart l r w) (bottom_edge l b r p.x p.y) (side (edge (at l b) (at r b)) first.0));
      above_it = ahead_of t p.y (factor (r -ℤ l) (t -ℤ p.y) (cross (edge (at r t) (at l t)) p) (apart l r w) (top_edge l r t p.x p.y) (side (edge (at r t) (at l t)) third.0));
    }
  where
    side : (e : Edge) → is_deep_left e 0 p ≡ true → int_le (pos 0) (cross e p) ≡ true
    side e d = (and_parts (int_le (pos 0) (cross e p)) (nat_le (square 0 * square_edge e) (square (unsigned_abs (cross e p)))) d).0

    ahead_of : (u v : ℤ) → pos 0 ≤ℤ (u -ℤ v) → v ≤ℤ u
    ahead_of u v d = omega (arith, ints)

    apart : (u v : ℤ) → u <ℤ v → pos 0 <ℤ (v -ℤ u)
    apart u v d = omega (arith, ints)

grid_point_is : (x y : ℤ) (a : GridPoint) → grid_point x y ≡ Some a → at x y ≡ a
grid_point_is x y a h = (cond_some (nat_le (unsigned_abs x) max_coordinate && nat_le (unsigned_abs y) max_coordinate) (at x y) a h).1

-- a rectangle with these sides is the polygon of its four corners, and convex
pub rectangle_is : (l b r t : ℤ) (s : GridRounded) → rectangle_of l b r t ≡ Some s → (sided l b r t ≡ s) × (is_convex (sided l b r t) ≡ true)
rectangle_is l b r t s h =
    option_and_then_some _ (grid_point l b) s h (λ a ea ha.
    option_and_then_some _ (grid_point r b) s ha (λ c ec hc.
    option_and_then_some _ (grid_point r t) s hc (λ d ed hd.
    option_and_then_some _ (grid_point l t) s hd (λ f ef hf.
    by a c d f (grid_point_is l b a ea) (grid_point_is r b c ec) (grid_point_is r t d ed) (grid_point_is l t f ef) hf))))
  where
    by : (a c d f : GridPoint) → at l b ≡ a → at r b ≡ c → at r t ≡ d → at l t ≡ f → rounded_of a (c ∷ d ∷ f ∷ []) 0 ≡ Some s → (sided l b r t ≡ s) × (is_convex (sided l b r t) ≡ true)
    by a c d f ea ec ed ef hf = rounded_parts (at l b) (at r b ∷ at r t ∷ at l t ∷ []) 0 s ((λ i. rounded_of (ea i) (ec i ∷ ed i ∷ ef i ∷ []) 0) ∙ hf)

pub rectangle_inside : (l b r t : ℤ) (s : GridRounded) → rectangle_of l b r t ≡ Some s → l ≤ℤ r → b ≤ℤ t → (p : GridPoint) → IsInRounded s p → IsInSides l b r t p
rectangle_inside l b r t s h x y p inside =
    let parts = rectangle_is l b r t s h in
    in_sides l b r t (are_apart l b r t parts.1 x y) p ((polygon_is_left_of_edges (sided l b r t) parts.1 p).0 (subst (λ z. IsInRounded z p) (sym parts.0) inside))

-- the sides of a rectangle about a centre
pub about_sides : (c : GridPoint) (w h : ℕ) (s : GridRounded) → rectangle_about c w h ≡ Some s → rectangle_of (c.x -ℤ pos (w / 2)) (c.y -ℤ pos (h / 2)) (c.x +ℤ pos (w / 2)) (c.y +ℤ pos (h / 2)) ≡ Some s
about_sides c w h s e = (cond_is (nat_le w max_coordinate && nat_le h max_coordinate) (rectangle_of (c.x -ℤ pos (w / 2)) (c.y -ℤ pos (h / 2)) (c.x +ℤ pos (w / 2)) (c.y +ℤ pos (h / 2))) s e).1

pub half_side : (x c : ℤ) (w : ℕ) → (c -ℤ pos (w / 2)) ≤ℤ x → x ≤ℤ (c +ℤ pos (w / 2)) → 2 * unsigned_abs (x -ℤ c) ≤ w
half_side x c w low high = halves (w / 2) (omega arith) low high
  where
    halves : (n : ℕ) → 2 * n ≤ w → (c -ℤ pos n) ≤ℤ x → x ≤ℤ (c +ℤ pos n) → 2 * unsigned_abs (x -ℤ c) ≤ w
    halves n half l h = omega (arith, ints)

pub both_sides : (c : ℤ) (n : ℕ) → (c -ℤ pos n) ≤ℤ (c +ℤ pos n)
both_sides c n = omega (arith, ints)
