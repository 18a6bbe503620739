-- A contour is a convex polygon, wherever it is moved.
use Rattle.layer_features.proofs.Common.{◌≡◌, ◌∙◌, ℕ, Bool, true, false, ◌&&◌, List, [], ◌∷◌, length, reverse, Option, None, Some, refl, sym, subst, ◌↔◌, nat_le, nat_lt, if◌then◌else◌, option_and_then, option_or, list_all, list_any, false≢true, none-some, GridPoint, GridRounded, IsNear, PolygonIsLeftOfEdges, corners, is_convex, is_deep_left_of_all, is_outline, max_corners, are_different, is_closed, polygon_of, polygon_round, stops, Part, is_near, moved_shape, clockwise_round, contour_of, counterclockwise_round, is_clockwise, is_counterclockwise, points_of, polygon_by, polygon_of_sides, sides_of, ContoursAreInsideEdges}
use Rattle.grid_units.proofs.BoolLemmas.{both_true}
use Rattle.pad_shapes.specs.Shapes.{max_half_side}
use Rattle.pad_shapes.proofs.MovedShapes.{convex-moved}
use Rattle.layer_features.proofs.PointsLemmas.{some_is}

-- a convex polygon without a border
record IsPolygon (r : GridRounded) : Type 0 where
  convex : is_convex r ≡ true
  bare : r.radius ≡ 0

by_condition : {X : Type 0} (b : Bool) (o : Option X) (y : X) → (if b then o else None) ≡ Some y → (b ≡ true) × (o ≡ Some y)
by_condition true o y e = (refl, e)
by_condition false o y e = absurd (none-some y e)

otherwise : {X : Type 0} (b : Bool) (o : Option X) (y : X) → (if b then None else o) ≡ Some y → o ≡ Some y
otherwise true o y e = absurd (none-some y e)
otherwise false o y e = e

either : {X : Type 0} (P : X → Type 0) (a b : Option X) (y : X) → (a ≡ Some y → P y) → (b ≡ Some y → P y) → option_or a b ≡ Some y → P y
either P None b y h k e = k e
either P (Some x) b y h k e = h e

after_some : {X Y : Type 0} (f : X → Option Y) (o : Option X) (y : Y) → option_and_then f o ≡ Some y → (x : X) × (f x ≡ Some y)
after_some f None y e = absurd (none-some y e)
after_some f (Some x) y e = (x, e)

made : (points : List GridPoint) (r : GridRounded) → nat_le 3 (length points) ≡ true → polygon_of points ≡ Some r → IsPolygon r
made [] r few e = absurd (none-some r e)
made (a ∷ []) r few e = absurd (false≢true few)
made (a ∷ b ∷ []) r few e = absurd (false≢true few)
made (a ∷ b ∷ d ∷ rest) r few e =
    let others = b ∷ d ∷ rest in
    let found = by_condition (nat_lt (length others) max_corners && (nat_le 0 max_half_side && is_outline a others)) (Some (record { first = a; others = others; radius = 0 })) r e in
    let is : record { first = a; others = others; radius = 0 } ≡ r = some_is _ r found.1 in
    subst IsPolygon is (record { convex = (both_true (nat_le 0 max_half_side) _ ((both_true (nat_lt (length others) max_corners) _ found.0).1)).1; bare = refl })

round : (points : List GridPoint) (r : GridRounded) → polygon_round points ≡ Some r → IsPolygon r
round points r e =
    let found = by_condition (is_closed points && (nat_le 3 (length (stops points)) && (nat_le (length (stops points)) max_corners && are_different (stops points)))) (polygon_of (stops points)) r e in
    made (stops points) r ((both_true (nat_le 3 (length (stops points))) _ ((both_true (is_closed points) _ found.0).1)).0) found.1

contour_is : (parts : List Part) (r : GridRounded) → contour_of parts ≡ Some r → IsPolygon r
contour_is parts r e =
    let (sides, f) = after_some polygon_of_sides (sides_of parts) r e in
    let (points, g) = after_some (polygon_by sides) (points_of sides) r f in
    either IsPolygon (counterclockwise_round sides points) (clockwise_round sides points) r (λ h. round points r (otherwise (list_any is_clockwise sides) (polygon_round points) r h))
    (λ h. round (reverse points) r (otherwise (list_any is_counterclockwise sides) (polygon_round (reverse points)) r h)) g

moved : (o : GridPoint) (r : GridRounded) → IsPolygon r → IsPolygon (moved_shape o r)
moved o r h = record { convex = convex-moved o r ∙ h.convex; bare = h.bare }

pub contours_inside : PolygonIsLeftOfEdges → ContoursAreInsideEdges
contours_inside law parts contour pad is_contour offset is_pad p =
    let found = by_condition (list_all is_near (corners (moved_shape offset contour))) (Some (moved_shape offset contour)) pad is_pad in
    let polygon = subst IsPolygon (some_is _ pad found.1) (moved offset contour (contour_is parts contour is_contour)) in
    subst (λ (n : ℕ). IsNear (corners pad) n p ↔ (is_deep_left_of_all pad 0 p ≡ true)) (sym polygon.bare) (law pad polygon.convex p)
