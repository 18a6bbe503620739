-- A cross: each point of the common part of two rectangles with its border is a point of one of them, or of a circle at a corner.
use Rattle.macro_shapes.proofs.Common.{◌≡◌, ℕ, ℤ, pos, ◌+◌, ◌*◌, ◌/◌, ◌≤◌, ◌≤ℤ◌, ◌<ℤ◌, ◌+ℤ◌, ◌-ℤ◌, ◌*ℤ◌, unsigned_abs, min, true, List, [], ◌∷◌, Option, None, Some, refl, sym, ap, subst, ◌∙◌, ◌⊎◌, inl, inr, arith, ◌&&◌, nat_le, nat_lt, All, Contains, and_parts, or_cases, leb-true, ints, unsigned_abs-mul, All-nil, All-cons, All-contains, option_and_then_some, same_Some, GridPoint, square, le_of_squares, GridRounded, Edge, corners, edges, cross, along, square_edge, has_area, is_deep_left_of_all, is_beside, IsInRounded, is_z, is_add, is_sub, is_mul, same, of_natural, cancel, untimes-le, edge, parts_of, at_least_0, IsInLine, IsInRectangle, rounded_of, least, discs_in_turn, disc_at, do_cross, cross_border, with_arms, cross_shape, rectangle_about, Primitive}
use Rattle.std.specs.Int.{abs_diff}
use Rattle.std.specs.Prelude.{unwrap_or}
use Rattle.macro_shapes.proofs.BordersInTurn.{cross_border_is}
use Rattle.macro_shapes.proofs.BorderLemmas.{IsAtLeast, IsInSome, least_parts, weaker, in_line, line_back, near_corner, corners_given}
use Rattle.macro_shapes.proofs.SidesLemmas.{cond_is, with_radius, rounded_parts, at, sided, bottom_edge, right_edge, are_apart, in_sides, rectangle_is, about_sides, half_side, both_sides}

-- ---- beside an edge along an axis

-- u along an edge of the length n from its start, and v beside it, no further than half of the size
record IsBeside (n : ℕ) (u v : ℤ) (size : ℕ) : Type 0 where
  after : pos 0 ≤ℤ u
  before : u ≤ℤ pos n
  near : 2 * unsigned_abs v ≤ size

beside_by : (n : ℕ) (u v a c : ℤ) (s size : ℕ) → 1 ≤ n → a ≡ pos n *ℤ u → unsigned_abs c ≡ n * unsigned_abs v → s ≡ n * n → pos 0 ≤ℤ a → a ≤ℤ pos s → 4 * square (unsigned_abs c) ≤ square size * s → IsBeside n u v size
beside_by n u v a c s size some is_a is_c is_s after before near =
    let short : (pos n *ℤ u) ≤ℤ (pos n *ℤ pos n) = subst (λ z. z ≤ℤ (pos n *ℤ pos n)) is_a (subst (λ m. a ≤ℤ pos m) is_s before) in
    let close : 4 * square (n * unsigned_abs v) ≤ square size * (n * n) = subst (λ m. 4 * square m ≤ square size * (n * n)) is_c (subst (λ m. 4 * square (unsigned_abs c) ≤ square size * m) is_s near) in
    record {
      after = at_least_0 n u some (subst (λ z. pos 0 ≤ℤ z) is_a after);
      before = untimes-le n u (pos n) some short;
      near = cancel n (2 * unsigned_abs v) size some (le_of_squares (n * (2 * unsigned_abs v)) (n * size) (squares (unsigned_abs v) close));
    }
  where
    squares : (m : ℕ) → 4 * ((n * m) * (n * m)) ≤ (size * size) * (n * n) → (n * (2 * m)) * (n * (2 * m)) ≤ (n * size) * (n * size)
    squares m h = omega (arith, h)

apart_by : (u v : ℤ) → u <ℤ v → 1 ≤ unsigned_abs (v -ℤ u)
apart_by u v h = omega (arith, ints)

or_equal : (u v : ℤ) → u <ℤ v → pos 0 ≤ℤ (v -ℤ u)
or_equal u v h = omega (arith, ints)

-- the square of the length of an edge along an axis
flat_square : (n k : ℕ) → k ≡ 0 → n * n + k * k ≡ n * n
flat_square n k e = ap (λ m. n * n + m * m) e ∙ omega arith

upright_square : (n k : ℕ) → k ≡ 0 → k * k + n * n ≡ n * n
upright_square n k e = ap (λ m. m * m + n * n) e ∙ omega arith

no_step : (u : ℤ) → unsigned_abs (u -ℤ u) ≡ 0
no_step u = omega (arith, ints)

lying_along : (l b r x y : ℤ) → (r -ℤ l) *ℤ (x -ℤ l) +ℤ (b -ℤ b) *ℤ (y -ℤ b) ≡ (r -ℤ l) *ℤ (x -ℤ l)
lying_along l b r x y =
    same (is_add (is_mul (is_sub (is_z r) (is_z l)) (is_sub (is_z x) (is_z l))) (is_mul (is_sub (is_z b) (is_z b)) (is_sub (is_z y) (is_z b)))) (is_mul (is_sub (is_z r) (is_z l)) (is_sub (is_z x) (is_z l))) (omega arith)

upright_along : (b r t x y : ℤ) → (r -ℤ r) *ℤ (x -ℤ r) +ℤ (t -ℤ b) *ℤ (y -ℤ b) ≡ (t -ℤ b) *ℤ (y -ℤ b)
upright_along b r t x y =
    same (is_add (is_mul (is_sub (is_z r) (is_z r)) (is_sub (is_z x) (is_z r))) (is_mul (is_sub (is_z t) (is_z b)) (is_sub (is_z y) (is_z b)))) (is_mul (is_sub (is_z t) (is_z b)) (is_sub (is_z y) (is_z b))) (omega arith)

-- an edge along the x, and one along the y
lying : (l b r : ℤ) (size : ℕ) (p : GridPoint) → l <ℤ r → IsInLine (edge (at l b) (at r b)) size p → IsBeside (unsigned_abs (r -ℤ l)) (p.x -ℤ l) (p.y -ℤ b) size
lying l b r size p wide h =
    let e = edge (at l b) (at r b) in
    let n = unsigned_abs (r -ℤ l) in
    let length_is : r -ℤ l ≡ pos n = sym (of_natural (r -ℤ l) (or_equal l r wide)) in
    beside_by n (p.x -ℤ l) (p.y -ℤ b) (along e p) (cross e p) (square_edge e) size (apart_by l r wide)
    (lying_along l b r p.x p.y ∙ ap (λ z. z *ℤ (p.x -ℤ l)) length_is)
    (ap unsigned_abs (bottom_edge l b r p.x p.y) ∙ unsigned_abs-mul (r -ℤ l) (p.y -ℤ b))
    (flat_square n (unsigned_abs (b -ℤ b)) (no_step b))
    h.after h.before h.near

upright : (b r t : ℤ) (size : ℕ) (p : GridPoint) → b <ℤ t → IsInLine (edge (at r b) (at r t)) size p → IsBeside (unsigned_abs (t -ℤ b)) (p.y -ℤ b) (r -ℤ p.x) size
upright b r t size p tall h =
    let e = edge (at r b) (at r t) in
    let n = unsigned_abs (t -ℤ b) in
    let length_is : t -ℤ b ≡ pos n = sym (of_natural (t -ℤ b) (or_equal b t tall)) in
    beside_by n (p.y -ℤ b) (r -ℤ p.x) (along e p) (cross e p) (square_edge e) size (apart_by b t tall)
    (upright_along b r t p.x p.y ∙ ap (λ z. z *ℤ (p.y -ℤ b)) length_is)
    (ap unsigned_abs (right_edge b r t p.x p.y) ∙ unsigned_abs-mul (t -ℤ b) (r -ℤ p.x))
    (upright_square n (unsigned_abs (r -ℤ r)) (no_step r))
    h.after h.before h.near

-- ---- the arms

-- a point lies in one of two strips: as wide as the one size, or as high as the other, and longer by a third
abbrev IsInStrips : GridPoint → ℕ → ℕ → ℕ → GridPoint → Type 0
IsInStrips c width height more p = IsInRectangle c width (height + more) p ⊎ IsInRectangle c (width + more) height p

-- from the sides about a centre to twice the distance from it
along_side : (c x : ℤ) (w : ℕ) → pos 0 ≤ℤ (x -ℤ (c -ℤ pos (w / 2))) → (x -ℤ (c -ℤ pos (w / 2))) ≤ℤ pos (unsigned_abs ((c +ℤ pos (w / 2)) -ℤ (c -ℤ pos (w / 2)))) → 2 * unsigned_abs (x -ℤ c) ≤ w
along_side c x w low high = half_side x c w (above (w / 2) low) (below (w / 2) high)
  where
    above : (n : ℕ) → pos 0 ≤ℤ (x -ℤ (c -ℤ pos n)) → (c -ℤ pos n) ≤ℤ x
    above n h = omega (arith, ints)

    below : (n : ℕ) → (x -ℤ (c -ℤ pos n)) ≤ℤ pos (unsigned_abs ((c +ℤ pos n) -ℤ (c -ℤ pos n))) → x ≤ℤ (c +ℤ pos n)
    below n h = omega (arith, ints)

beyond_high : (c y : ℤ) (h size : ℕ) → 2 * unsigned_abs (y -ℤ (c +ℤ pos (h / 2))) ≤ size → 2 * unsigned_abs (y -ℤ c) ≤ h + size
beyond_high c y h size near = by (h / 2) (omega arith) near
  where
    by : (n : ℕ) → 2 * n ≤ h → 2 * unsigned_abs (y -ℤ (c +ℤ pos n)) ≤ size → 2 * unsigned_abs (y -ℤ c) ≤ h + size
    by n half k = omega (arith, ints)

beyond_low : (c y : ℤ) (h size : ℕ) → 2 * unsigned_abs (y -ℤ (c -ℤ pos (h / 2))) ≤ size → 2 * unsigned_abs (y -ℤ c) ≤ h + size
beyond_low c y h size near = by (h / 2) (omega arith) near
  where
    by : (n : ℕ) → 2 * n ≤ h → 2 * unsigned_abs (y -ℤ (c -ℤ pos n)) ≤ size → 2 * unsigned_abs (y -ℤ c) ≤ h + size
    by n half k = omega (arith, ints)

back : (u v : ℤ) (size : ℕ) → 2 * unsigned_abs (u -ℤ v) ≤ size → 2 * unsigned_abs (v -ℤ u) ≤ size
back u v size h = omega (arith, ints)

one_of_four : (P : Edge → Type 0) (a b c d : Edge) → P a → P b → P c → P d → (e : Edge) → Contains (a ∷ b ∷ c ∷ d ∷ []) e → P e
one_of_four P a b c d is_a is_b is_c is_d e among =
    All-contains P (a ∷ b ∷ c ∷ d ∷ []) e (All-cons P a (b ∷ c ∷ d ∷ []) is_a (All-cons P b (c ∷ d ∷ []) is_b (All-cons P c (d ∷ []) is_c (All-cons P d [] is_d (All-nil P))))) among

-- beside an edge of the common part lies a strip
beside_some : (c : GridPoint) (w h size : ℕ) (p : GridPoint) → ((c.x -ℤ pos (w / 2)) <ℤ (c.x +ℤ pos (w / 2))) × ((c.y -ℤ pos (h / 2)) <ℤ (c.y +ℤ pos (h / 2)))
    → (e : Edge) → Contains (edges (sided (c.x -ℤ pos (w / 2)) (c.y -ℤ pos (h / 2)) (c.x +ℤ pos (w / 2)) (c.y +ℤ pos (h / 2)))) e → is_beside e (size / 2) p ≡ true → IsInStrips c w h size p
beside_some c w h size p (wide, tall) e among =
    one_of_four Holds (edge (at l b) (at r b)) (edge (at r b) (at r t)) (edge (at r t) (at l t)) (edge (at l t) (at l b)) bottom right top left e among
  where
    l : ℤ
    l = c.x -ℤ pos (w / 2)

    b : ℤ
    b = c.y -ℤ pos (h / 2)

    r : ℤ
    r = c.x +ℤ pos (w / 2)

    t : ℤ
    t = c.y +ℤ pos (h / 2)

    Holds : Edge → Type 0
    Holds f = is_beside f (size / 2) p ≡ true → IsInStrips c w h size p

    bottom : Holds (edge (at l b) (at r b))
    bottom near =
        let k = lying l b r size p wide (in_line (edge (at l b) (at r b)) p size size (omega arith) near) in
        inl (along_side c.x p.x w k.after k.before, beyond_low c.y p.y h size k.near)

    top : Holds (edge (at r t) (at l t))
    top near =
        let k = lying l t r size p wide (line_back (at r t) (at l t) size p (in_line (edge (at r t) (at l t)) p size size (omega arith) near)) in
        inl (along_side c.x p.x w k.after k.before, beyond_high c.y p.y h size k.near)

    right : Holds (edge (at r b) (at r t))
    right near =
        let k = upright b r t size p tall (in_line (edge (at r b) (at r t)) p size size (omega arith) near) in
        inr (beyond_high c.x p.x w size (back r p.x size k.near), along_side c.y p.y h k.after k.before)

    left : Holds (edge (at l t) (at l b))
    left near =
        let k = upright b l t size p tall (line_back (at l t) (at l b) size p (in_line (edge (at l t) (at l b)) p size size (omega arith) near)) in
        inr (beyond_low c.x p.x w size (back l p.x size k.near), along_side c.y p.y h k.after k.before)

-- a point of one of two rectangles about a centre
abbrev IsInArms : GridPoint → ℕ → ℕ → ℕ → ℕ → GridPoint → Type 0
IsInArms c w h v g p = IsInRectangle c w h p ⊎ IsInRectangle c v g p

-- the strips lie in the arms
in_arms : (c : GridPoint) (w h v g size : ℕ) (p : GridPoint) → do_cross w h v g ≡ true → size ≤ abs_diff w v → size ≤ abs_diff h g → IsInStrips c (min w v) (min h g) size p → IsInArms c w h v g p
in_arms c w h v g size p crosses widths heights strips = elim (or_cases (nat_le v w && nat_le h g) (nat_le w v && nat_le g h) crosses) [
  | inl first_wide ↦
      let both = and_parts (nat_le v w) (nat_le h g) first_wide in
      wide_first (leb-true v w both.0) (leb-true h g both.1) strips
  | inr first_tall ↦
      let both = and_parts (nat_le w v) (nat_le g h) first_tall in
      tall_first (leb-true w v both.0) (leb-true g h both.1) strips
]
  where
    wide_first : v ≤ w → h ≤ g → IsInStrips c (min w v) (min h g) size p → IsInArms c w h v g p
    wide_first x y (inl k) = inr (omega (arith, k.0), omega (arith, k.1, heights))
    wide_first x y (inr k) = inl (omega (arith, k.0, widths), omega (arith, k.1))

    tall_first : w ≤ v → g ≤ h → IsInStrips c (min w v) (min h g) size p → IsInArms c w h v g p
    tall_first x y (inl k) = inl (omega (arith, k.0), omega (arith, k.1, heights))
    tall_first x y (inr k) = inr (omega (arith, k.0, widths), omega (arith, k.1))

-- ---- the cross

-- what the border of a cross says
record IsBorder (qs : List Primitive) (common : GridRounded) (widths heights size : ℕ) : Type 0 where
  discs : All (λ v. IsAtLeast (disc_at qs v) size) (corners common)
  wide : size ≤ widths
  tall : size ≤ heights

border_says : (qs : List Primitive) (common : GridRounded) (widths heights size : ℕ) → cross_border qs common widths heights ≡ Some size → IsBorder qs common widths heights size
border_says qs common widths heights size h =
    let last = least_parts (least (discs_in_turn qs common) (Some widths)) (Some heights) size (cross_border_is qs common widths heights ∙ h) in
    let first = least_parts (discs_in_turn qs common) (Some widths) last.0.size last.0.found in
    let all = corners_given qs common first.0.size first.0.found in
    record {
      discs = λ k d l. weaker (disc_at qs _) first.0.size size (omega (arith, first.0.enough, last.0.enough)) (all k d l);
      wide = let e = same_Some widths first.1.size first.1.found in omega (arith, e, first.1.enough, last.0.enough);
      tall = let e = same_Some heights last.1.size last.1.found in omega (arith, e, last.1.enough);
    }

-- the points of a rectangle about a centre with a border
around : (qs : List Primitive) (c : GridPoint) (w h v g size : ℕ) (common s : GridRounded) → do_cross w h v g ≡ true → rectangle_about c (min w v) (min h g) ≡ Some common → IsBorder qs common (abs_diff w v) (abs_diff h g) size
    → rounded_of common.first common.others size ≡ Some s → (p : GridPoint) → IsInRounded s p → IsInSome qs p ⊎ IsInArms c w h v g p
around qs c w h v g size common s crosses about is_border made p inside =
    let m = min w v in
    let n = min h g in
    let l = c.x -ℤ pos (m / 2) in
    let b = c.y -ℤ pos (n / 2) in
    let r = c.x +ℤ pos (m / 2) in
    let t = c.y +ℤ pos (n / 2) in
    let is = rectangle_is l b r t common (about_sides c m n common about) in
    let discs : All (λ u. IsAtLeast (disc_at qs u) size) (corners (sided l b r t)) = subst (λ z. All (λ u. IsAtLeast (disc_at qs u) size) (corners z)) (sym is.0) is_border.discs in
    let built : rounded_of (at l b) (at r b ∷ at r t ∷ at l t ∷ []) size ≡ Some s = subst (λ z. rounded_of z.first z.others size ≡ Some s) (sym is.0) made in
    let parts = rounded_parts (at l b) (at r b ∷ at r t ∷ at l t ∷ []) size s built in
    let apart = are_apart l b r t is.1 (both_sides c.x (m / 2)) (both_sides c.y (n / 2)) in
    elim (parts_of (with_radius (at l b) (at r b ∷ at r t ∷ at l t ∷ []) (size / 2)) parts.1 p (subst (λ z. IsInRounded z p) (sym parts.0) inside)) [
      | inl deep ↦
          let box = in_sides l b r t apart p (and_parts (has_area (sided l b r t)) (is_deep_left_of_all (sided l b r t) 0 p) deep).1 in
          inr (inl (narrow w v (half_side p.x c.x m box.left_of_it box.right_of_it), narrow h g (half_side p.y c.y n box.below_it box.above_it)))
      | inr rim ↦ elim rim [
        | inl corner ↦ inl (near_corner qs corner.0 p size (All-contains (λ u. IsAtLeast (disc_at qs u) size) (corners (sided l b r t)) corner.0 discs corner.1) corner.2)
        | inr beside ↦ inr (in_arms c w h v g size p crosses is_border.wide is_border.tall (beside_some c m n size p apart beside.0 beside.1 beside.2))
      ]
    ]
  where
    narrow : {d : ℕ} (a b : ℕ) → d ≤ min a b → d ≤ a
    narrow {d} a b h = omega (arith, h)

pub cross_inside : (qs : List Primitive) (c : GridPoint) (w h : ℕ) (other : ℕ × ℕ) (s : GridRounded) → do_cross w h other.0 other.1 ≡ true → cross_shape qs c w h other ≡ Some s → (p : GridPoint) → IsInRounded s p
    → IsInSome qs p ⊎ IsInArms c w h other.0 other.1 p
cross_inside qs c w h other s crosses made p inside =
    option_and_then_some _ (rectangle_about c (min w other.0) (min h other.1)) s made (λ common about arms.
    by common about (cross_border qs common (abs_diff w other.0) (abs_diff h other.1)) refl arms)
  where
    by : (common : GridRounded) → rectangle_about c (min w other.0) (min h other.1) ≡ Some common → (o : Option ℕ) → cross_border qs common (abs_diff w other.0) (abs_diff h other.1) ≡ o
        → with_arms common (unwrap_or o 0) ≡ Some s → IsInSome qs p ⊎ IsInArms c w h other.0 other.1 p
    by common about None e arms = absurd cc
    by common about (Some size) e arms =
        around qs c w h other.0 other.1 size common s crosses about (border_says qs common (abs_diff w other.0) (abs_diff h other.1) size e) (cond_is (nat_lt 0 size) (rounded_of common.first common.others size) s arms).1 p inside
