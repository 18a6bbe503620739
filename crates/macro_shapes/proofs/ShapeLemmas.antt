-- Each point of a macro's shape is a point of one of its primitives.
use Rattle.macro_shapes.proofs.Common.{◌≡◌, ℕ, suc, ℤ, pos, ◌+◌, ◌*◌, ◌/◌, ◌≤◌, ◌<◌, ◌≤ℤ◌, ◌<ℤ◌, ◌+ℤ◌, ◌-ℤ◌, ◌*ℤ◌, unsigned_abs, Bool, true, false, cond, not, eqb, List, [], ◌∷◌, length, Option, None, Some, refl, sym, ap, subst, ◌∙◌, ◌⊎◌, inl, inr, arith, ◌&&◌, ◌||◌, nat_le, nat_lt, int_lt, option_and_then, int_min, int_max, Contains, fold, int_eq, and_parts, and_from, false≢true, Decides-int_eq, nat_tests, ints, clamps, by_lt_z, unsigned_abs-mul, All-contains, mul-le, option_or, cond_some, option_and_then_some, same_Some, GridPoint, max_coordinate, square, square_distance, square-le, GridRounded, edges, corners, cross, along, square_edge, is_deep_left_of_all, is_deep_inside, has_area, is_convex, is_outline, IsNear, IsInRounded, is_n, is_sub, is_mul, same, of_natural, edge, no_area, parts_of, area_of, no_times, no_cross, IsInLine, IsInRectangle, is_same, rounded_of, least, discs_in_turn, disc_at, line_along, border, rectangle_of, rectangle_about, rectangle_along, segment, with_border, do_cross, second_crossing, cross_shape, centre_shape, ShapeIsInPrimitives, Primitive}
use Rattle.macro_shapes.specs.Primitives.{IsInCircle}
use Rattle.std.specs.Prelude.{unwrap_or}
use Rattle.std.specs.Option.{option_map_or}
use Rattle.pad_shapes.specs.Inner.RoundedSets.{one_corner_is_disc, polygon_is_left_of_edges}
use Rattle.macro_shapes.proofs.BordersInTurn.{border_is, shape_is}
use Rattle.macro_shapes.proofs.BorderLemmas.{IsAtLeast, IsInSome, given, same_point, in_circle, near_corner, near_edge, corners_given, edges_given}
use Rattle.macro_shapes.proofs.SidesLemmas.{cond_is, with_radius, rounded_parts, rectangle_inside, about_sides, half_side, both_sides}
use Rattle.macro_shapes.proofs.CrossLemmas.{cross_inside}
use Rattle.macro_shapes.specs.Shapes.{holds, is_centred_disc, shape_from, wider}
use Rattle.macro_shapes.specs.declared.primitive.Primitive.TheVariants as primitive

-- ---- borders

-- more than one corner has edges
some_edges : (n : ℕ) → eqb (suc n) 0 ≡ false
some_edges n = grind (arith, nat_tests)

with_edges : (qs : List Primitive) (r : GridRounded) (size : ℕ) (t : Bool) → t ≡ false → cond t (discs_in_turn qs r) (fold (λ found e. least found (line_along qs e)) (discs_in_turn qs r) (edges r)) ≡ Some size
    → fold (λ found e. least found (line_along qs e)) (discs_in_turn qs r) (edges r) ≡ Some size
with_edges qs r size true none h = absurd (false≢true (sym none))
with_edges qs r size false none h = h

-- the points of a polygon with a border are points of the circles and lines, or lie inside of the polygon
bordered : (qs : List Primitive) (first : GridPoint) (others : List GridPoint) (size : ℕ) → border qs (with_radius first others 0) ≡ Some size → is_outline first others ≡ true → (p : GridPoint) → IsInRounded (with_radius first others (size / 2)) p
    → IsInSome qs p ⊎ (is_deep_inside (with_radius first others 0) 0 p ≡ true)
bordered qs first [] size h outline p inside =
    let all = corners_given qs (with_radius first [] 0) size (border_is qs (with_radius first [] 0) ∙ h) in
    inl (near_corner qs first p size (All-contains (λ v. IsAtLeast (disc_at qs v) size) (first ∷ []) first all (0, omega arith, refl)) ((one_corner_is_disc first (size / 2) p).0 inside))
bordered qs first (b ∷ bs) size h outline p inside =
    let all = edges_given qs (with_radius first (b ∷ bs) 0) size (with_edges qs (with_radius first (b ∷ bs) 0) size (eqb (suc (length bs)) 0) (some_edges (length bs)) (border_is qs (with_radius first (b ∷ bs) 0) ∙ h)) in
    elim (parts_of (with_radius first (b ∷ bs) (size / 2)) outline p inside) [
      | inl deep ↦ inr deep
      | inr rim ↦ elim rim [
        | inl corner ↦ inl (near_corner qs corner.0 p size (All-contains (λ v. IsAtLeast (disc_at qs v) size) (first ∷ b ∷ bs) corner.0 all.0 corner.1) corner.2)
        | inr beside ↦ inl (near_edge qs beside.0 p size (All-contains (λ e. IsAtLeast (line_along qs e) size) (edges (with_radius first (b ∷ bs) 0)) beside.0 all.1 beside.1) beside.2)
      ]
    ]

-- ---- circles, and lines with round ends

disc_inside : (c : GridPoint) (d : ℕ) (s : GridRounded) → rounded_of c [] d ≡ Some s → (p : GridPoint) → IsInRounded s p → IsInCircle c d p
disc_inside c d s h p inside =
    let parts = rounded_parts c [] d s h in
    in_circle (square_distance p c) d d (omega arith) ((one_corner_is_disc c (d / 2) p).0 (subst (λ r. IsInRounded r p) (sym parts.0) inside))

-- a line has no area
no_inside : (a b : GridPoint) → has_area (with_radius a (b ∷ []) 0) ≡ true → ⊥
no_inside a b h =
    let none : has_area (with_radius a (b ∷ []) 0) ≡ false = λ i. int_lt (pos 0) (no_cross (edge a b) i) || (int_lt (pos 0) (no_area b a i) || false) in
    false≢true (sym none ∙ h)

no_inside_point : (a : GridPoint) → has_area (with_radius a [] 0) ≡ true → ⊥
no_inside_point a h =
    let none : has_area (with_radius a [] 0) ≡ false = λ i. int_lt (pos 0) (no_cross (edge a a) i) || false in
    false≢true (sym none ∙ h)

rounded_line : (qs : List Primitive) (a b : GridPoint) (size : ℕ) (t : Bool) → border qs (with_radius a (cond t [] (b ∷ [])) 0) ≡ Some size → is_outline a (cond t [] (b ∷ [])) ≡ true → (p : GridPoint)
    → IsInRounded (with_radius a (cond t [] (b ∷ [])) (size / 2)) p → IsInSome qs p
rounded_line qs a b size true h outline p inside = elim (bordered qs a [] size h outline p inside) [
  | inl some ↦ some
  | inr deep ↦ absurd (no_inside_point a (and_parts (has_area (with_radius a [] 0)) (is_deep_left_of_all (with_radius a [] 0) 0 p) deep).0)
]
rounded_line qs a b size false h outline p inside = elim (bordered qs a (b ∷ []) size h outline p inside) [
  | inl some ↦ some
  | inr deep ↦ absurd (no_inside a b (and_parts (has_area (with_radius a (b ∷ []) 0)) (is_deep_left_of_all (with_radius a (b ∷ []) 0) 0 p) deep).0)
]

-- ---- centre lines

centre_inside : (qs : List Primitive) (c : GridPoint) (w h : ℕ) → Contains qs (primitive.CentreLine c w h) → (s : GridRounded) → rectangle_about c w h ≡ Some s → (p : GridPoint) → IsInRounded s p → IsInSome qs p
centre_inside qs c w h among s e p inside =
    let sides = about_sides c w h s e in
    let box = rectangle_inside (c.x -ℤ pos (w / 2)) (c.y -ℤ pos (h / 2)) (c.x +ℤ pos (w / 2)) (c.y +ℤ pos (h / 2)) s sides (both_sides c.x (w / 2)) (both_sides c.y (h / 2)) p inside in
    (primitive.CentreLine c w h, among, (half_side p.x c.x w box.left_of_it box.right_of_it, half_side p.y c.y h box.below_it box.above_it))

-- a second rectangle that crosses the first one
record IsSecond (qs : List Primitive) (c : GridPoint) (w h : ℕ) (other : ℕ × ℕ) : Type 0 where
  crosses : do_cross w h other.0 other.1 ≡ true
  among : (p : GridPoint) → IsInRectangle c other.0 other.1 p → IsInSome qs p

second_is : (qs : List Primitive) (c : GridPoint) (w h : ℕ) (other : ℕ × ℕ) → second_crossing c w h qs ≡ Some other → IsSecond qs c w h other
second_is (q ∷ primitive.CentreLine a v g ∷ qs) c w h other e =
    let made = cond_some {A = ℕ × ℕ} (is_same a c && do_cross w h v g) (v, g) other e in
    let both = and_parts (is_same a c) (do_cross w h v g) made.0 in
    record {
      crosses = subst (λ (o : ℕ × ℕ). do_cross w h o.0 o.1 ≡ true) made.1 both.1;
      among = λ p inside. (primitive.CentreLine a v g, (1, omega arith, refl), subst (λ z. IsInRectangle z v g p) (sym (same_point a c both.0)) (subst (λ (o : ℕ × ℕ). IsInRectangle c o.0 o.1 p) (sym made.1) inside));
    }
second_is _ c w h other e = absurd cc

-- a centre line, with the one that crosses it or alone
centre_shape_inside : (all : List Primitive) (c : GridPoint) (w h : ℕ) → Contains all (primitive.CentreLine c w h) → (s : GridRounded) → centre_shape all c w h ≡ Some s → (p : GridPoint) → IsInRounded s p → IsInSome all p
centre_shape_inside all c w h among s made p inside = by (option_and_then (cross_shape all c w h) (second_crossing c w h all)) refl made
  where
    crossed : (t : GridRounded) → t ≡ s → option_and_then (cross_shape all c w h) (second_crossing c w h all) ≡ Some t → IsInSome all p
    crossed t same e =
        option_and_then_some (cross_shape all c w h) (second_crossing c w h all) t e (λ other second shape.
        let is = second_is all c w h other second in
        elim (cross_inside all c w h other t is.crosses shape p (subst (λ z. IsInRounded z p) (sym same) inside)) [
          | inl some ↦ some
          | inr arms ↦ elim arms [
            | inl first ↦ (primitive.CentreLine c w h, among, first)
            | inr other ↦ is.among p other
          ]
        ])

    by : (o : Option GridRounded) → option_and_then (cross_shape all c w h) (second_crossing c w h all) ≡ o → option_or o (rectangle_about c w h) ≡ Some s → IsInSome all p
    by None e r = centre_inside all c w h among s r p inside
    by (Some t) e r = crossed t (same_Some t s r) e

-- ---- lines along an axis

-- a number between two others lies on the way from one to the other
record IsOnWay (a b x : ℤ) : Type 0 where
  some : 1 ≤ unsigned_abs (b -ℤ a)
  short : unsigned_abs (x -ℤ a) ≤ unsigned_abs (b -ℤ a)
  product : (b -ℤ a) *ℤ (x -ℤ a) ≡ pos (unsigned_abs (b -ℤ a) * unsigned_abs (x -ℤ a))

on_way : (a b x : ℤ) → int_min a b <ℤ int_max a b → int_min a b ≤ℤ x → x ≤ℤ int_max a b → IsOnWay a b x
on_way a b x apart low high =
    by_lt_z a b
    (λ less. record {
      some = some less;
      short = short_up less (at_least less) (at_most less);
      product = λ i. sym (of_natural (b -ℤ a) (above a b (or_less less))) i *ℤ sym (of_natural (x -ℤ a) (above a x (at_least less))) i;
    })
    (λ more. record {
      some = some_down (strictly more);
      short = short_down (strictly more) (from_below more) (from_above more);
      product = (λ i. sym (down_is a b more) i *ℤ sym (down_is a x (from_above more)) i) ∙ opposite (unsigned_abs (b -ℤ a)) (unsigned_abs (x -ℤ a));
    })
  where
    some : a <ℤ b → 1 ≤ unsigned_abs (b -ℤ a)
    some l = omega (arith, ints)

    or_less : a <ℤ b → a ≤ℤ b
    or_less l = omega (arith, ints)

    above : (u v : ℤ) → u ≤ℤ v → pos 0 ≤ℤ (v -ℤ u)
    above u v l = omega (arith, ints)

    at_least : a <ℤ b → a ≤ℤ x
    at_least l = omega (arith, ints, clamps)

    at_most : a <ℤ b → x ≤ℤ b
    at_most l = omega (arith, ints, clamps)

    short_up : a <ℤ b → a ≤ℤ x → x ≤ℤ b → unsigned_abs (x -ℤ a) ≤ unsigned_abs (b -ℤ a)
    short_up l h k = omega (arith, ints)

    strictly : b ≤ℤ a → b <ℤ a
    strictly l = omega (arith, ints, clamps)

    some_down : b <ℤ a → 1 ≤ unsigned_abs (b -ℤ a)
    some_down l = omega (arith, ints)

    from_below : b ≤ℤ a → b ≤ℤ x
    from_below l = omega (arith, ints, clamps)

    from_above : b ≤ℤ a → x ≤ℤ a
    from_above l = omega (arith, ints, clamps)

    short_down : b <ℤ a → b ≤ℤ x → x ≤ℤ a → unsigned_abs (x -ℤ a) ≤ unsigned_abs (b -ℤ a)
    short_down l h k = omega (arith, ints)

    down_is : (u v : ℤ) → v ≤ℤ u → pos 0 -ℤ pos (unsigned_abs (v -ℤ u)) ≡ v -ℤ u
    down_is u v l = omega (arith, ints)

    opposite : (m n : ℕ) → (pos 0 -ℤ pos m) *ℤ (pos 0 -ℤ pos n) ≡ pos (m * n)
    opposite m n = same (is_mul (is_sub (is_n 0) (is_n m)) (is_sub (is_n 0) (is_n n))) (is_n (m * n)) (omega arith)

-- the numbers of a line along an axis: n its length, m how far a point lies along it, c how far beside it, and k, which is 0
line_by : (n m c k w : ℕ) → 1 ≤ n → m ≤ n → 2 * c ≤ w → (0 < n * n + k * k) × (n * m ≤ n * n + k * k) × (4 * ((n * c) * (n * c)) ≤ (w * w) * (n * n + k * k))
line_by n m c k w some short near =
    let one : 1 * 1 ≤ n * n = mul-le 1 1 n n some some in
    let less : n * m ≤ n * n = mul-le n m n n (omega arith) short in
    let wide : (2 * c) * (2 * c) ≤ w * w = square-le (2 * c) w near in
    let all : ((2 * c) * (2 * c)) * (n * n + k * k) ≤ (w * w) * (n * n + k * k) = mul-le ((2 * c) * (2 * c)) (n * n + k * k) (w * w) (n * n + k * k) wide (omega arith) in
    (omega (arith, one), omega (arith, less), omega (arith, all))

not_less : (n : ℕ) (z : ℤ) → z ≡ pos n → pos 0 ≤ℤ z
not_less n z e = omega (arith, ints)

not_more : (n s : ℕ) (z : ℤ) → z ≡ pos n → n ≤ s → z ≤ℤ pos s
not_more n s z e h = omega (arith, ints)

no_sum : (z : ℤ) → pos 0 +ℤ z ≡ z
no_sum z = omega (arith, ints)

sum_no : (z : ℤ) → z +ℤ pos 0 ≡ z
sum_no z = omega (arith, ints)

less_no : (z : ℤ) → z -ℤ pos 0 ≡ z
less_no z = omega (arith, ints)

opposite_size : (z : ℤ) → unsigned_abs (pos 0 -ℤ z) ≡ unsigned_abs z
opposite_size z = omega (arith, ints)

-- a line along the x, and one along the y
along_x : (a b : GridPoint) (w : ℕ) (p : GridPoint) → b.y -ℤ a.y ≡ pos 0 → IsOnWay a.x b.x p.x → 2 * unsigned_abs (p.y -ℤ a.y) ≤ w → IsInLine (edge a b) w p
along_x a b w p level way near =
    let n = unsigned_abs (b.x -ℤ a.x) in
    let m = unsigned_abs (p.x -ℤ a.x) in
    let c = unsigned_abs (p.y -ℤ a.y) in
    let by = line_by n m c (unsigned_abs (b.y -ℤ a.y)) w way.some way.short near in
    let along_is : along (edge a b) p ≡ pos (n * m) = (λ i. way.product i +ℤ level i *ℤ (p.y -ℤ a.y)) ∙ (λ i. pos (n * m) +ℤ no_times (p.y -ℤ a.y) i) ∙ sum_no (pos (n * m)) in
    let cross_is : cross (edge a b) p ≡ (b.x -ℤ a.x) *ℤ (p.y -ℤ a.y) =
    (λ i. (b.x -ℤ a.x) *ℤ (p.y -ℤ a.y) -ℤ level i *ℤ (p.x -ℤ a.x)) ∙ (λ i. (b.x -ℤ a.x) *ℤ (p.y -ℤ a.y) -ℤ no_times (p.x -ℤ a.x) i) ∙ less_no ((b.x -ℤ a.x) *ℤ (p.y -ℤ a.y)) in
    let size : unsigned_abs (cross (edge a b) p) ≡ n * c = ap unsigned_abs cross_is ∙ unsigned_abs-mul (b.x -ℤ a.x) (p.y -ℤ a.y) in
    record {
      some = by.0;
      after = not_less (n * m) (along (edge a b) p) along_is;
      before = not_more (n * m) (square_edge (edge a b)) (along (edge a b) p) along_is by.1;
      near = subst (λ k. 4 * square k ≤ square w * square_edge (edge a b)) (sym size) by.2;
    }

along_y : (a b : GridPoint) (w : ℕ) (p : GridPoint) → b.x -ℤ a.x ≡ pos 0 → IsOnWay a.y b.y p.y → 2 * unsigned_abs (p.x -ℤ a.x) ≤ w → IsInLine (edge a b) w p
along_y a b w p level way near =
    let n = unsigned_abs (b.y -ℤ a.y) in
    let m = unsigned_abs (p.y -ℤ a.y) in
    let c = unsigned_abs (p.x -ℤ a.x) in
    let k = unsigned_abs (b.x -ℤ a.x) in
    let by = line_by n m c (unsigned_abs (b.x -ℤ a.x)) w way.some way.short near in
    let along_is : along (edge a b) p ≡ pos (n * m) = (λ i. level i *ℤ (p.x -ℤ a.x) +ℤ way.product i) ∙ (λ i. no_times (p.x -ℤ a.x) i +ℤ pos (n * m)) ∙ no_sum (pos (n * m)) in
    let cross_is : cross (edge a b) p ≡ pos 0 -ℤ (b.y -ℤ a.y) *ℤ (p.x -ℤ a.x) =
    (λ i. level i *ℤ (p.y -ℤ a.y) -ℤ (b.y -ℤ a.y) *ℤ (p.x -ℤ a.x)) ∙ (λ i. no_times (p.y -ℤ a.y) i -ℤ (b.y -ℤ a.y) *ℤ (p.x -ℤ a.x)) in
    let size : unsigned_abs (cross (edge a b) p) ≡ n * c = ap unsigned_abs cross_is ∙ opposite_size ((b.y -ℤ a.y) *ℤ (p.x -ℤ a.x)) ∙ unsigned_abs-mul (b.y -ℤ a.y) (p.x -ℤ a.x) in
    let turned : n * n + k * k ≡ square_edge (edge a b) = omega arith in
    record {
      some = subst (λ l. 0 < l) turned by.0;
      after = not_less (n * m) (along (edge a b) p) along_is;
      before = not_more (n * m) (square_edge (edge a b)) (along (edge a b) p) along_is (subst (λ l. n * m ≤ l) turned by.1);
      near = subst (λ l. 4 * square l ≤ square w * square_edge (edge a b)) (sym size) (subst (λ l. 4 * ((n * c) * (n * c)) ≤ (w * w) * l) turned by.2);
    }

least_first : (a b : ℤ) → int_min a b ≤ℤ int_max a b
least_first a b = omega (arith, ints, clamps)

level_of : (a b : ℤ) → int_eq a b ≡ true → b -ℤ a ≡ pos 0
level_of a b h = same_0 a b ((Decides-int_eq a b).0 h)
  where
    same_0 : (u v : ℤ) → u ≡ v → v -ℤ u ≡ pos 0
    same_0 u v e = omega (arith, ints)

line_inside : (a b : GridPoint) (w : ℕ) (s : GridRounded) → rectangle_along a b w ≡ Some s → (p : GridPoint) → IsInRounded s p → IsInLine (edge a b) w p
line_inside a b w s h p inside = by (not (nat_le w max_coordinate)) (int_eq a.y b.y) (int_eq a.x b.x) refl refl h
  where
    lying : int_eq a.y b.y ≡ true → rectangle_of (int_min a.x b.x) (a.y -ℤ pos (w / 2)) (int_max a.x b.x) (a.y +ℤ pos (w / 2)) ≡ Some s → IsInLine (edge a b) w p
    lying e r =
        let box = rectangle_inside (int_min a.x b.x) (a.y -ℤ pos (w / 2)) (int_max a.x b.x) (a.y +ℤ pos (w / 2)) s r (least_first a.x b.x) (both_sides a.y (w / 2)) p inside in
        along_x a b w p (level_of a.y b.y e) (on_way a.x b.x p.x box.wide box.left_of_it box.right_of_it) (half_side p.y a.y w box.below_it box.above_it)

    upright : int_eq a.x b.x ≡ true → rectangle_of (a.x -ℤ pos (w / 2)) (int_min a.y b.y) (a.x +ℤ pos (w / 2)) (int_max a.y b.y) ≡ Some s → IsInLine (edge a b) w p
    upright e r =
        let box = rectangle_inside (a.x -ℤ pos (w / 2)) (int_min a.y b.y) (a.x +ℤ pos (w / 2)) (int_max a.y b.y) s r (both_sides a.x (w / 2)) (least_first a.y b.y) p inside in
        along_y a b w p (level_of a.x b.x e) (on_way a.y b.y p.y box.tall box.below_it box.above_it) (half_side p.x a.x w box.left_of_it box.right_of_it)

    by : (wide y x : Bool) → int_eq a.y b.y ≡ y → int_eq a.x b.x ≡ x
        → cond wide None (cond y (rectangle_of (int_min a.x b.x) (a.y -ℤ pos (w / 2)) (int_max a.x b.x) (a.y +ℤ pos (w / 2))) (cond x (rectangle_of (a.x -ℤ pos (w / 2)) (int_min a.y b.y) (a.x +ℤ pos (w / 2)) (int_max a.y b.y)) None)) ≡ Some s
        → IsInLine (edge a b) w p
    by true y x ey ex r = absurd cc
    by false true x ey ex r = lying ey r
    by false false true ey ex r = upright ex r
    by false false false ey ex r = absurd cc

-- ---- outlines

polygon_inside : (r : GridRounded) → is_convex r ≡ true → (p : GridPoint) → IsNear (corners r) 0 p → is_deep_inside r 0 p ≡ true
polygon_inside r convex p h = and_from (has_area r) (is_deep_left_of_all r 0 p) (area_of r convex) ((polygon_is_left_of_edges r convex p).0 h)

outline_inside : (qs : List Primitive) (r : GridRounded) → Contains qs (primitive.Outline r) → (o : Option ℕ) (s : GridRounded) → border qs r ≡ o → with_border r (unwrap_or o 0) ≡ Some s → (p : GridPoint) → IsInRounded s p → IsInSome qs p
unfolding border
outline_inside qs r among None s e h p inside = by r.others (cond_is (nat_lt 1 (length r.others) || nat_lt 0 0) (rounded_of r.first r.others 0) s h) refl
  where
    by : (others : List GridPoint) → ((nat_lt 1 (length others) || nat_lt 0 0) ≡ true) × (rounded_of r.first others 0 ≡ Some s) → others ≡ r.others → IsInSome qs p
    by [] h same_others = absurd (false≢true h.0)
    by (b ∷ []) h same_others = absurd (false≢true h.0)
    by (b ∷ c ∷ rest) h same_others =
        let parts = rounded_parts r.first (b ∷ c ∷ rest) 0 s h.1 in
        let deep = polygon_inside (with_radius r.first (b ∷ c ∷ rest) 0) parts.1 p (subst (λ z. IsInRounded z p) (sym parts.0) inside) in
        (primitive.Outline r, among, subst (λ l. is_deep_inside (with_radius r.first l 0) 0 p ≡ true) same_others deep)
outline_inside qs r among (Some size) s e h p inside =
    let parts = rounded_parts r.first r.others size s (cond_is (nat_lt 1 (length r.others) || nat_lt 0 size) (rounded_of r.first r.others size) s h).1 in
    elim (bordered qs r.first r.others size e parts.1 p (subst (λ z. IsInRounded z p) (sym parts.0) inside)) [
      | inl some ↦ some
      | inr deep ↦ (primitive.Outline r, among, deep)
    ]

-- ---- the law

vector_inside : (qs : List Primitive) (a b : GridPoint) (w : ℕ) → Contains qs (primitive.VectorLine a b w) → (o : Option ℕ) (s : GridRounded) → border qs (segment a b) ≡ o → option_map_or (rounded_of a (segment a b).others) o (rectangle_along a b w) ≡ Some s → (p : GridPoint)
    → IsInRounded s p → IsInSome qs p
vector_inside qs a b w among None s e h p inside = (primitive.VectorLine a b w, among, line_inside a b w s h p inside)
vector_inside qs a b w among (Some size) s e h p inside =
    let parts = rounded_parts a (segment a b).others size s h in
    rounded_line qs a b size (is_same a b) e parts.1 p (subst (λ z. IsInRounded z p) (sym parts.0) inside)

-- the shape by one of the primitives
inside_by : (qs : List Primitive) (q : Primitive) → Contains qs q → (s : GridRounded) → shape_from qs q ≡ Some s → (p : GridPoint) → IsInRounded s p → IsInSome qs p
inside_by qs (primitive.Circle c d) among s h p inside = (primitive.Circle c d, among, disc_inside c d s h p inside)
inside_by qs (primitive.VectorLine a b w) among s h p inside = vector_inside qs a b w among (border qs (segment a b)) s refl h p inside
inside_by qs (primitive.CentreLine c w l) among s h p inside = centre_shape_inside qs c w l among s h p inside
inside_by qs (primitive.Outline r) among s h p inside = outline_inside qs r among (border qs r) s refl h p inside
inside_by qs (primitive.Turned d) among s h p inside = (primitive.Turned d, among, disc_inside (record { x = pos 0; y = pos 0 }) d s h p inside)

one_of_two : (a b : GridRounded) → (wider a b ≡ a) ⊎ (wider a b ≡ b)
one_of_two a b = by (not (is_centred_disc a) && holds b a)
  where
    by : (t : Bool) → (cond t b a ≡ a) ⊎ (cond t b a ≡ b)
    by true = inr refl
    by false = inl refl

pub shape_is_in_primitives : ShapeIsInPrimitives
shape_is_in_primitives qs s h p inside =
    let one = given wider one_of_two (shape_from qs) qs s (shape_is qs ∙ h) in
    inside_by qs one.q one.among s one.gives p inside
