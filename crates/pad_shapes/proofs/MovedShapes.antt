-- What a moved polygon is and covers, and where it lies, by the polygon that is not moved.
use Rattle.std.proofs.Common.{◌≡◌, ◌∙◌, ℕ, ℤ, pos, ◌+◌, ◌-◌, ◌*◌, ◌+ℤ◌, ◌-ℤ◌, ◌*ℤ◌, Bool, not, ◌&&◌, ◌||◌, List, [], ◌∷◌, map, unsigned_abs, refl, sym, ap, arith}
use Rattle.std.specs.Prelude.{nat_le, int_le, int_lt}
use Rattle.std.specs.Cmp.{both_ways}
use Rattle.std.specs.Ordering.{int_eq}
use Rattle.std.specs.List.{fold, list_all, list_any}
use Rattle.std.proofs.lemmas.Bool.Decides.{Decides-int_eq}
use Rattle.std.proofs.lemmas.Int.{clamps, ints}
use Rattle.std.proofs.lemmas.List.Folds.{list_all-map}
use Rattle.std.specs.Int.{int_min, int_max}
use Rattle.grid_units.specs.Points.{GridPoint, square, square_distance}
use Rattle.pad_shapes.specs.Rounded.{GridRounded, Edge, along, box_corner, corners, cross, edges, edges_back, has_area, is_beside, is_beside_some, is_convex, is_deep_inside, is_deep_left, is_deep_left_of_all, is_near_corner, is_outline, rounded_bottom, rounded_covers, rounded_left, rounded_right, rounded_top, square_edge}
use Rattle.pad_shapes.specs.Placed.{moved_point, moved_shape}

shift : (o a b : ℤ) → (o +ℤ a) -ℤ (o +ℤ b) ≡ a -ℤ b
shift o a b = omega (arith, ints)

abbrev moved_edge : GridPoint → Edge → Edge
moved_edge o e = record { from = moved_point o e.from; to = moved_point o e.to }

cross-moved : (o : GridPoint) (e : Edge) (p : GridPoint) → cross (moved_edge o e) (moved_point o p) ≡ cross e p
cross-moved o e p = λ i. (shift o.x e.to.x e.from.x i) *ℤ (shift o.y p.y e.from.y i) -ℤ (shift o.y e.to.y e.from.y i) *ℤ (shift o.x p.x e.from.x i)

square_edge-moved : (o : GridPoint) (e : Edge) → square_edge (moved_edge o e) ≡ square_edge e
square_edge-moved o e = λ i. square (unsigned_abs (shift o.x e.to.x e.from.x i)) + square (unsigned_abs (shift o.y e.to.y e.from.y i))

deep_left-moved : (o : GridPoint) (e : Edge) (depth : ℕ) (p : GridPoint) → is_deep_left (moved_edge o e) depth (moved_point o p) ≡ is_deep_left e depth p
deep_left-moved o e depth p = λ i. int_le (pos 0) (cross-moved o e p i) && nat_le (square depth * square_edge-moved o e i) (square (unsigned_abs (cross-moved o e p i)))

edges_back-moved : (o first from : GridPoint) (rest : List GridPoint) → edges_back (moved_point o first) (moved_point o from) (map (moved_point o) rest) ≡ map (moved_edge o) (edges_back first from rest)
edges_back-moved o first from [] = refl
edges_back-moved o first from (to ∷ rest) = ap (λ es. moved_edge o (record { from = from; to = to }) ∷ es) (edges_back-moved o first to rest)

edges-moved : (o : GridPoint) (r : GridRounded) → edges (moved_shape o r) ≡ map (moved_edge o) (edges r)
edges-moved o r = edges_back-moved o r.first r.first r.others

any-map : {X Y : Type 0} (test : Y → Bool) (f : X → Y) (xs : List X) → list_any test (map f xs) ≡ list_any (λ x. test (f x)) xs
any-map test f [] = refl
any-map test f (x ∷ xs) = ap (λ (b : Bool). test (f x) || b) (any-map test f xs)

area-moved : (o : GridPoint) (r : GridRounded) → has_area (moved_shape o r) ≡ has_area r
area-moved o r =
    let turns_left : Edge → Bool = λ e. int_lt (pos 0) (cross e (moved_point o r.first)) in
    ap (list_any turns_left) (edges-moved o r) ∙ any-map turns_left (moved_edge o) (edges r) ∙ (λ i. list_any (λ (e : Edge). int_lt (pos 0) (cross-moved o e r.first i)) (edges r))

left_of_all-moved : (o : GridPoint) (r : GridRounded) (depth : ℕ) (p : GridPoint) → is_deep_left_of_all (moved_shape o r) depth (moved_point o p) ≡ is_deep_left_of_all r depth p
left_of_all-moved o r depth p =
    let is_left : Edge → Bool = λ e. is_deep_left e depth (moved_point o p) in
    ap (list_all is_left) (edges-moved o r) ∙ list_all-map is_left (moved_edge o) (edges r) ∙ (λ i. list_all (λ (e : Edge). deep_left-moved o e depth p i) (edges r))

deep_inside-moved : (o : GridPoint) (r : GridRounded) (depth : ℕ) (p : GridPoint) → is_deep_inside (moved_shape o r) depth (moved_point o p) ≡ is_deep_inside r depth p
deep_inside-moved o r depth p = λ i. area-moved o r i && left_of_all-moved o r depth p i

pub convex-moved : (o : GridPoint) (r : GridRounded) → is_convex (moved_shape o r) ≡ is_convex r
convex-moved o r =
    let is_in : GridPoint → Bool = λ v. is_deep_inside (moved_shape o r) 0 v in
    list_all-map is_in (moved_point o) (corners r) ∙ (λ i. list_all (λ (v : GridPoint). deep_inside-moved o r 0 v i) (corners r))

unshifted : (o a b : ℤ) → o +ℤ a ≡ o +ℤ b → a ≡ b
unshifted o a b e = omega (arith, ints, e)

same-moved : (o a b : ℤ) → int_eq (o +ℤ a) (o +ℤ b) ≡ int_eq a b
same-moved o a b =
    both_ways (int_eq (o +ℤ a) (o +ℤ b)) (int_eq a b) (λ e. (Decides-int_eq a b).1 (unshifted o a b ((Decides-int_eq (o +ℤ a) (o +ℤ b)).0 e)))
    (λ e. (Decides-int_eq (o +ℤ a) (o +ℤ b)).1 (ap (λ (z : ℤ). o +ℤ z) ((Decides-int_eq a b).0 e)))

-- the corners that are those of a rounded polygon stay so
pub outline-moved : (o first : GridPoint) (others : List GridPoint) → is_outline (moved_point o first) (map (moved_point o) others) ≡ is_outline first others
outline-moved o first [] = refl
outline-moved o first (other ∷ []) = λ i. not (same-moved o.x first.x other.x i && same-moved o.y first.y other.y i)
outline-moved o first (second ∷ third ∷ rest) = convex-moved o (record { first = first; others = second ∷ third ∷ rest; radius = 0 })

-- ---- what it covers

along-moved : (o : GridPoint) (e : Edge) (p : GridPoint) → along (moved_edge o e) (moved_point o p) ≡ along e p
along-moved o e p = λ i. (shift o.x e.to.x e.from.x i) *ℤ (shift o.x p.x e.from.x i) +ℤ (shift o.y e.to.y e.from.y i) *ℤ (shift o.y p.y e.from.y i)

beside-moved : (o : GridPoint) (e : Edge) (distance : ℕ) (p : GridPoint) → is_beside (moved_edge o e) distance (moved_point o p) ≡ is_beside e distance p
beside-moved o e distance p = λ i. (int_lt (pos 0) (along-moved o e p i) && int_lt (along-moved o e p i) (pos (square_edge-moved o e i))) && nat_le (square (unsigned_abs (cross-moved o e p i))) (square distance * square_edge-moved o e i)

distance-moved : (o p v : GridPoint) → square_distance (moved_point o p) (moved_point o v) ≡ square_distance p v
distance-moved o p v = λ i. square (unsigned_abs (shift o.x p.x v.x i)) + square (unsigned_abs (shift o.y p.y v.y i))

near_corner-moved : (o : GridPoint) (r : GridRounded) (distance : ℕ) (p : GridPoint) → is_near_corner (moved_shape o r) distance (moved_point o p) ≡ is_near_corner r distance p
near_corner-moved o r distance p =
    any-map (λ (v : GridPoint). nat_le (square_distance (moved_point o p) v) (square distance)) (moved_point o) (corners r) ∙ (λ i. list_any (λ (v : GridPoint). nat_le (distance-moved o p v i) (square distance)) (corners r))

beside_some-moved : (o : GridPoint) (r : GridRounded) (distance : ℕ) (p : GridPoint) → is_beside_some (moved_shape o r) distance (moved_point o p) ≡ is_beside_some r distance p
beside_some-moved o r distance p =
    let is_by : Edge → Bool = λ e. is_beside e distance (moved_point o p) in
    ap (list_any is_by) (edges-moved o r) ∙ any-map is_by (moved_edge o) (edges r) ∙ (λ i. list_any (λ (e : Edge). beside-moved o e distance p i) (edges r))

covers-moved : (o : GridPoint) (r : GridRounded) (p : GridPoint) (reach : ℕ) → rounded_covers (moved_shape o r) (moved_point o p) reach ≡ rounded_covers r p reach
covers-moved o r p reach = λ i. deep_inside-moved o r (reach - r.radius) p i || (nat_le reach r.radius && (near_corner-moved o r (r.radius - reach) p i || beside_some-moved o r (r.radius - reach) p i))

-- a point relative to an offset
abbrev pub relative : GridPoint → GridPoint → GridPoint
relative o p = record { x = p.x -ℤ o.x; y = p.y -ℤ o.y }

there : (o p : ℤ) → o +ℤ (p -ℤ o) ≡ p
there o p = omega (arith, ints)

-- a moved shape covers what the shape covers relative to the offset
pub covers-relative : (o : GridPoint) (r : GridRounded) (p : GridPoint) (reach : ℕ) → rounded_covers (moved_shape o r) p reach ≡ rounded_covers r (relative o p) reach
covers-relative o r p reach = (λ i. rounded_covers (moved_shape o r) (record { x = sym (there o.x p.x) i; y = sym (there o.y p.y) i }) reach) ∙ covers-moved o r (relative o p) reach

-- ---- where it lies

min_shift : (o a b : ℤ) → int_min (o +ℤ a) (o +ℤ b) ≡ o +ℤ int_min a b
min_shift o a b = omega (arith, ints, clamps)

max_shift : (o a b : ℤ) → int_max (o +ℤ a) (o +ℤ b) ≡ o +ℤ int_max a b
max_shift o a b = omega (arith, ints, clamps)

pub least-shift : (f : GridPoint → ℤ) (o : GridPoint) (by : ℤ) → ((v : GridPoint) → f (moved_point o v) ≡ by +ℤ f v) → (a : ℤ) (vs : List GridPoint)
    → fold (λ least v. int_min least (f v)) (by +ℤ a) (map (moved_point o) vs) ≡ by +ℤ fold (λ least v. int_min least (f v)) a vs
least-shift f o by e a [] = refl
least-shift f o by e a (v ∷ vs) =
    ap (λ (z : ℤ). fold (λ least v. int_min least (f v)) z (map (moved_point o) vs)) (ap (int_min (by +ℤ a)) (e v) ∙ min_shift by a (f v)) ∙ least-shift f o by e (int_min a (f v)) vs

pub greatest-shift : (f : GridPoint → ℤ) (o : GridPoint) (by : ℤ) → ((v : GridPoint) → f (moved_point o v) ≡ by +ℤ f v) → (a : ℤ) (vs : List GridPoint)
    → fold (λ greatest v. int_max greatest (f v)) (by +ℤ a) (map (moved_point o) vs) ≡ by +ℤ fold (λ greatest v. int_max greatest (f v)) a vs
greatest-shift f o by e a [] = refl
greatest-shift f o by e a (v ∷ vs) =
    ap (λ (z : ℤ). fold (λ greatest v. int_max greatest (f v)) z (map (moved_point o) vs)) (ap (int_max (by +ℤ a)) (e v) ∙ max_shift by a (f v)) ∙ greatest-shift f o by e (int_max a (f v)) vs

pub left-moved : (o : GridPoint) (r : GridRounded) → (o.x +ℤ (box_corner int_min r).x) -ℤ pos r.radius ≡ rounded_left (moved_shape o r)
left-moved o r = ap (λ (z : ℤ). z -ℤ pos r.radius) (sym (least-shift (λ v. v.x) o o.x (λ v. refl) r.first.x r.others))

pub right-moved : (o : GridPoint) (r : GridRounded) → (o.x +ℤ (box_corner int_max r).x) +ℤ pos r.radius ≡ rounded_right (moved_shape o r)
right-moved o r = ap (λ (z : ℤ). z +ℤ pos r.radius) (sym (greatest-shift (λ v. v.x) o o.x (λ v. refl) r.first.x r.others))

pub bottom-moved : (o : GridPoint) (r : GridRounded) → (o.y +ℤ (box_corner int_min r).y) -ℤ pos r.radius ≡ rounded_bottom (moved_shape o r)
bottom-moved o r = ap (λ (z : ℤ). z -ℤ pos r.radius) (sym (least-shift (λ v. v.y) o o.y (λ v. refl) r.first.y r.others))

pub top-moved : (o : GridPoint) (r : GridRounded) → (o.y +ℤ (box_corner int_max r).y) +ℤ pos r.radius ≡ rounded_top (moved_shape o r)
top-moved o r = ap (λ (z : ℤ). z +ℤ pos r.radius) (sym (greatest-shift (λ v. v.y) o o.y (λ v. refl) r.first.y r.others))
