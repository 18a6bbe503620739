-- Rounded polygons: convex polygons, and all that lies within a radius of them. Lengths are whole picometres.
use Rattle.std.specs.Prelude.{◌↔◌, ℕ, ℤ, pos, ◌+◌, ◌-◌, ◌*◌, ◌≤◌, ◌<◌, ◌+ℤ◌, ◌-ℤ◌, ◌*ℤ◌, ◌≡◌, Bool, true, not, ◌&&◌, ◌||◌, nat_le, int_le, int_lt, unsigned_abs, List, [], ◌∷◌, length}
use Rattle.std.specs.Int.{int_min, int_max}
use Rattle.std.specs.List.{All, Contains, list_all, list_any, fold}
use Rattle.std.specs.Ordering.{int_eq}
use Rattle.grid_units.specs.Laws.{square_length}
use Rattle.grid_units.specs.Points.{GridPoint, square, square_distance}
use Rattle.pad_shapes.specs.Shapes.{max_reach, IsPadRadius, IsInDisc, disc_covers, covers_both_ends}

-- a convex polygon, by its corners counterclockwise, and how far round it the copper reaches; one corner is a point, two are a line
pub record GridRounded : Type 0 where
  pub first : GridPoint
  pub others : List GridPoint
  pub radius : ℕ

-- the corners, in order
abbrev pub corners : GridRounded → List GridPoint
corners r = r.first ∷ r.others

-- the largest number of corners
abbrev pub max_corners : ℕ
max_corners = 256

-- a point that counts several times in a mean
pub record WeightedPoint : Type 0 where
  pub weight : ℕ
  pub point : GridPoint

-- how often all of the points count together
abbrev pub total_weight : List WeightedPoint → ℕ
total_weight [] = 0
total_weight (w ∷ ws) = w.weight + total_weight ws

-- the sum of one coordinate of the points, each as often as its point counts
abbrev pub weighted_sum : (GridPoint → ℤ) → List WeightedPoint → ℤ
weighted_sum coordinate [] = pos 0
weighted_sum coordinate (w ∷ ws) = pos w.weight *ℤ coordinate w.point +ℤ weighted_sum coordinate ws

-- p is no further than the radius from some mean of the points, each of which counts as often as it takes: these means are the
-- points with rational coordinates of the least convex area that holds the points. Both sides are taken times the total weight.
pub record IsNear (points : List GridPoint) (radius : ℕ) (p : GridPoint) : Type 0 where
  pub parts : List WeightedPoint
  pub of_points : All (λ w. Contains points w.point) parts
  pub some : 1 ≤ total_weight parts
  pub near : square_length (pos (total_weight parts) *ℤ p.x -ℤ weighted_sum (λ v. v.x) parts) (pos (total_weight parts) *ℤ p.y -ℤ weighted_sum (λ v. v.y) parts) ≤ square (total_weight parts * radius)

-- p is no further than the radius from a point of the polygon's filled area
abbrev pub IsInRounded : GridRounded → GridPoint → Type 0
IsInRounded r p = IsNear (corners r) r.radius p

-- p is no further than the reach from a point of the straight line between two ends, which may lie at any angle
abbrev pub IsInSlot : GridPoint → GridPoint → ℕ → GridPoint → Type 0
IsInSlot from to reach p = IsNear (from ∷ to ∷ []) reach p

-- a side of a polygon, from one corner to the next
pub record Edge : Type 0 where
  pub from : GridPoint
  pub to : GridPoint

-- the edges from a corner through the next ones back to the first
abbrev pub edges_back : GridPoint → GridPoint → List GridPoint → List Edge
edges_back first from [] = record { from = from; to = first } ∷ []
edges_back first from (to ∷ rest) = record { from = from; to = to } ∷ edges_back first to rest

-- the edges, from each corner to the next and from the last to the first
abbrev pub edges : GridRounded → List Edge
edges r = edges_back r.first r.first r.others

-- twice the area of the triangle of an edge and a point: above 0 where the point lies to the left of the edge, below 0 to its right
abbrev pub cross : Edge → GridPoint → ℤ
cross e p = (e.to.x -ℤ e.from.x) *ℤ (p.y -ℤ e.from.y) -ℤ (e.to.y -ℤ e.from.y) *ℤ (p.x -ℤ e.from.x)

-- how far a point lies along an edge from its start, times the edge's length
abbrev pub along : Edge → GridPoint → ℤ
along e p = (e.to.x -ℤ e.from.x) *ℤ (p.x -ℤ e.from.x) +ℤ (e.to.y -ℤ e.from.y) *ℤ (p.y -ℤ e.from.y)

-- the square of an edge's length
abbrev pub square_edge : Edge → ℕ
square_edge e = square_distance e.to e.from

-- the point lies to the left of the edge's line, and no nearer to it than the depth; or on it, for the depth 0; an edge without length keeps no point out
abbrev pub is_deep_left : Edge → ℕ → GridPoint → Bool
is_deep_left e depth p = int_le (pos 0) (cross e p) && nat_le (square depth * square_edge e) (square (unsigned_abs (cross e p)))

-- the corners enclose an area: the first one lies to the left of some edge
abbrev pub has_area : GridRounded → Bool
has_area r = list_any (λ e. int_lt (pos 0) (cross e r.first)) (edges r)

-- the point lies to the left of each edge, no nearer to it than the depth
abbrev pub is_deep_left_of_all : GridRounded → ℕ → GridPoint → Bool
is_deep_left_of_all r depth p = list_all (λ e. is_deep_left e depth p) (edges r)

-- the point lies deep inside the area that the corners enclose
abbrev pub is_deep_inside : GridRounded → ℕ → GridPoint → Bool
is_deep_inside r depth p = has_area r && is_deep_left_of_all r depth p

-- the point is no further from a corner than the distance
abbrev pub is_near_corner : GridRounded → ℕ → GridPoint → Bool
is_near_corner r distance p = list_any (λ v. nat_le (square_distance p v) (square distance)) (corners r)

-- the point lies beside an edge, between its ends, no further from its line than the distance
abbrev pub is_beside : Edge → ℕ → GridPoint → Bool
is_beside e distance p =
    (int_lt (pos 0) (along e p) && int_lt (along e p) (pos (square_edge e))) && nat_le (square (unsigned_abs (cross e p))) (square distance * square_edge e)

-- the point lies beside some edge
abbrev pub is_beside_some : GridRounded → ℕ → GridPoint → Bool
is_beside_some r distance p = list_any (λ e. is_beside e distance p) (edges r)

-- the point is no further from the rim of the polygon than the distance
abbrev pub is_near_rim : GridRounded → ℕ → GridPoint → Bool
is_near_rim r distance p = is_near_corner r distance p || is_beside_some r distance p

-- the reach stays inside the copper: c lies so deep in the polygon that what the radius lacks for the reach stays inside each edge,
-- or the radius is no less than the reach, and c no further from the polygon than what is left of it
abbrev pub rounded_covers : GridRounded → GridPoint → ℕ → Bool
rounded_covers r c reach = is_deep_inside r (reach - r.radius) c || (nat_le reach r.radius && is_near_rim r (r.radius - reach) c)

-- a corner of the box along the axes that holds the corners: along each axis it has their least coordinate, by `int_min`, or their greatest, by `int_max`
abbrev pub box_corner : (ℤ → ℤ → ℤ) → GridRounded → GridPoint
box_corner better r = record { x = fold (λ best v. better best v.x) r.first.x r.others; y = fold (λ best v. better best v.y) r.first.y r.others }

-- the least x of the corners, less the radius
abbrev pub rounded_left : GridRounded → ℤ
rounded_left r = (box_corner int_min r).x -ℤ pos r.radius

-- the greatest x of the corners and the radius
abbrev pub rounded_right : GridRounded → ℤ
rounded_right r = (box_corner int_max r).x +ℤ pos r.radius

-- the least y of the corners, less the radius
abbrev pub rounded_bottom : GridRounded → ℤ
rounded_bottom r = (box_corner int_min r).y -ℤ pos r.radius

-- the greatest y of the corners and the radius
abbrev pub rounded_top : GridRounded → ℤ
rounded_top r = (box_corner int_max r).y +ℤ pos r.radius

-- the greatest reach that a shape covers round a centre, which is one that a call may have
pub record IsGreatestReach (r : GridRounded) (c : GridPoint) (reach : ℕ) : Type 0 where
  pub covered : rounded_covers r c reach ≡ true
  pub in_range : reach < max_reach
  pub greatest : (n : ℕ) → rounded_covers r c n ≡ true → n ≤ reach

-- the corners enclose an area, and none of them lies to the right of an edge: they go round it counterclockwise, and it is convex
abbrev pub is_convex : GridRounded → Bool
is_convex r = list_all (λ v. is_deep_inside r 0 v) (corners r)

-- one corner, two different ones, or the corners of a convex polygon
abbrev pub is_outline : GridPoint → List GridPoint → Bool
is_outline first [] = true
is_outline first (other ∷ []) = not (int_eq first.x other.x && int_eq first.y other.y)
is_outline first (second ∷ third ∷ rest) = is_convex (record { first = first; others = second ∷ third ∷ rest; radius = 0 })

-- corners and a radius that make a rounded polygon
pub record IsRounded (first : GridPoint) (others : List GridPoint) (radius : ℤ) : Type 0 where
  pub few : length others < max_corners
  pub in_range : IsPadRadius radius
  pub outline : is_outline first others ≡ true

-- where both ends of a slot at any angle are covered, each point of the slot is a point of the shape
abbrev pub HoldsObliqueSlots : Type 0
HoldsObliqueSlots =
    (r : GridRounded) (from to : GridPoint) (reach : ℕ) → covers_both_ends rounded_covers r from to reach ≡ true → (p : GridPoint) → IsInSlot from to reach p → IsInRounded r p

-- one corner makes a disc, by its points
abbrev pub OneCornerIsDisc : Type 0
OneCornerIsDisc =
    (centre : GridPoint) (radius : ℕ) (p : GridPoint) → IsInRounded (record { first = centre; others = []; radius = radius }) p ↔ IsInDisc (record { centre = centre; radius = radius }) p

-- and by what it covers
abbrev pub OneCornerCovers : Type 0
OneCornerCovers =
    (centre : GridPoint) (radius : ℕ) (c : GridPoint) (reach : ℕ) → rounded_covers (record { first = centre; others = []; radius = radius }) c reach ≡ disc_covers (record { centre = centre; radius = radius }) c reach

-- a greater radius round the same corners holds no less
abbrev pub GreaterRadiusHolds : Type 0
GreaterRadiusHolds =
    (first : GridPoint) (others : List GridPoint) (radius greater : ℕ) → radius ≤ greater → (p : GridPoint) → IsInRounded (record { first = first; others = others; radius = radius }) p → IsInRounded (record { first = first; others = others; radius = greater }) p

-- a shape that covers a centre with one reach covers it with each lesser one
abbrev pub CoversLess : Type 0
CoversLess =
    (r : GridRounded) (c : GridPoint) (reach less : ℕ) → less ≤ reach → rounded_covers r c reach ≡ true → rounded_covers r c less ≡ true

-- the points of a convex polygon are those that lie to the right of no edge
abbrev pub PolygonIsLeftOfEdges : Type 0
PolygonIsLeftOfEdges =
    (r : GridRounded) → is_convex r ≡ true → (p : GridPoint) → IsNear (corners r) 0 p ↔ (is_deep_left_of_all r 0 p ≡ true)

-- The points of a rounded polygon are those that it covers with the reach 0: those that lie in the polygon, no further than the
-- radius from a corner, or beside an edge and no further than the radius from its line.
abbrev pub PointsAreCovered : Type 0
PointsAreCovered =
    (r : GridRounded) → is_outline r.first r.others ≡ true → (p : GridPoint) → IsInRounded r p ↔ (rounded_covers r p 0 ≡ true)
