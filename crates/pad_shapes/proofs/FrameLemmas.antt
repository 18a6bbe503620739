-- The corners of a polygon lie near just where both corners of their box do.
use Rattle.std.proofs.Common.{◌≡◌, ◌∙◌, ℤ, ◌≤ℤ◌, ◌&&◌, arith, true, not, List, [], ◌∷◌, refl, sym}
use Rattle.std.specs.List.{fold, list_all}
use Rattle.std.specs.Cmp.{both_ways}
use Rattle.std.specs.Int.{int_min, int_max}
use Rattle.std.proofs.lemmas.Int.{clamps, ints}
use Rattle.std.proofs.lemmas.Grind.{common_steps}
use Rattle.grid_units.proofs.BoolLemmas.{both_true}
use Rattle.grid_units.specs.Numbers.{is_too_far}
use Rattle.grid_units.specs.Points.{GridPoint, IsCoordinate}
use Rattle.pad_shapes.specs.Rounded.{GridRounded, box_corner, corners}
use Rattle.pad_shapes.specs.Placed.{is_near, moved_point, moved_shape}
use Rattle.pad_shapes.proofs.MovedShapes.{greatest-shift, least-shift}
use Rattle.pad_shapes.proofs.PlacedLemmas.{greatest_near, least_near, near_x, near_y}

min_low : (a b : ℤ) → (int_min a b ≤ℤ a) × (int_min a b ≤ℤ b)
min_low a b = (omega (arith, ints, clamps), omega (arith, ints, clamps))

max_high : (a b : ℤ) → (a ≤ℤ int_max a b) × (b ≤ℤ int_max a b)
max_high a b = (omega (arith, ints, clamps), omega (arith, ints, clamps))

up_to : (a b c : ℤ) → a ≤ℤ b → b ≤ℤ c → a ≤ℤ c
up_to a b c h k = omega (arith, ints, h, k)

least_low : (f : GridPoint → ℤ) (a : ℤ) (vs : List GridPoint) → fold (λ least v. int_min least (f v)) a vs ≤ℤ a
least_low f a [] = omega (arith, ints)
least_low f a (v ∷ vs) = up_to (fold (λ least v. int_min least (f v)) (int_min a (f v)) vs) (int_min a (f v)) a (least_low f (int_min a (f v)) vs) (min_low a (f v)).0

greatest_high : (f : GridPoint → ℤ) (a : ℤ) (vs : List GridPoint) → a ≤ℤ fold (λ greatest v. int_max greatest (f v)) a vs
greatest_high f a [] = omega (arith, ints)
greatest_high f a (v ∷ vs) = up_to a (int_max a (f v)) (fold (λ greatest v. int_max greatest (f v)) (int_max a (f v)) vs) (max_high a (f v)).0 (greatest_high f (int_max a (f v)) vs)

between : (low z high : ℤ) → low ≤ℤ z → z ≤ℤ high → IsCoordinate low → IsCoordinate high → IsCoordinate z
between low z high h k near far = omega (arith, ints, h, k, near, far)

not_far : (z : ℤ) → IsCoordinate z → not (is_too_far z) ≡ true
not_far z h = grind (arith, common_steps)

near_point : (p : GridPoint) → IsCoordinate p.x → IsCoordinate p.y → is_near p ≡ true
near_point p x y = (λ i. not_far p.x x i && not_far p.y y i)

-- a point in the box of others, where that is near
in_box : (v : GridPoint) (l g b t : ℤ) → l ≤ℤ v.x → v.x ≤ℤ g → b ≤ℤ v.y → v.y ≤ℤ t → IsCoordinate l → IsCoordinate g → IsCoordinate b → IsCoordinate t → is_near v ≡ true
in_box v l g b t h k m n nl ng nb nt = near_point v (between l v.x g h k nl ng) (between b v.y t m n nb nt)

all_in_box : (vs : List GridPoint) (l g b t : ℤ) → IsCoordinate (fold (λ least v. int_min least v.x) l vs) → IsCoordinate (fold (λ greatest v. int_max greatest v.x) g vs)
    → IsCoordinate (fold (λ least v. int_min least v.y) b vs) → IsCoordinate (fold (λ greatest v. int_max greatest v.y) t vs) → list_all is_near vs ≡ true
all_in_box [] l g b t nl ng nb nt = refl
all_in_box (v ∷ vs) l g b t nl ng nb nt =
    let first = in_box v (fold (λ least v. int_min least v.x) (int_min l v.x) vs) (fold (λ greatest v. int_max greatest v.x) (int_max g v.x) vs)
    (fold (λ least v. int_min least v.y) (int_min b v.y) vs) (fold (λ greatest v. int_max greatest v.y) (int_max t v.y) vs)
    (up_to _ (int_min l v.x) v.x (least_low (λ v. v.x) (int_min l v.x) vs) (min_low l v.x).1)
    (up_to v.x (int_max g v.x) _ (max_high g v.x).1 (greatest_high (λ v. v.x) (int_max g v.x) vs))
    (up_to _ (int_min b v.y) v.y (least_low (λ v. v.y) (int_min b v.y) vs) (min_low b v.y).1)
    (up_to v.y (int_max t v.y) _ (max_high t v.y).1 (greatest_high (λ v. v.y) (int_max t v.y) vs))
    nl ng nb nt in
    (λ i. first i && all_in_box vs (int_min l v.x) (int_max g v.x) (int_min b v.y) (int_max t v.y) nl ng nb nt i)

-- of a shape at its place
near_by_box : (s : GridRounded) → is_near (box_corner int_min s) && is_near (box_corner int_max s) ≡ true → list_all is_near (corners s) ≡ true
near_by_box s h =
    let both = both_true (is_near (box_corner int_min s)) (is_near (box_corner int_max s)) h in
    let nl = near_x (box_corner int_min s) both.0 in
    let ng = near_x (box_corner int_max s) both.1 in
    let nb = near_y (box_corner int_min s) both.0 in
    let nt = near_y (box_corner int_max s) both.1 in
    let first = in_box s.first (box_corner int_min s).x (box_corner int_max s).x (box_corner int_min s).y (box_corner int_max s).y (least_low (λ v. v.x) s.first.x s.others) (greatest_high (λ v. v.x) s.first.x s.others)
    (least_low (λ v. v.y) s.first.y s.others) (greatest_high (λ v. v.y) s.first.y s.others) nl ng nb nt in
    (λ i. first i && all_in_box s.others s.first.x s.first.x s.first.y s.first.y nl ng nb nt i)

box_by_near : (s : GridRounded) → list_all is_near (corners s) ≡ true → is_near (box_corner int_min s) && is_near (box_corner int_max s) ≡ true
box_by_near s h =
    let both = both_true (is_near s.first) (list_all is_near s.others) h in
    let x = near_x s.first both.0 in
    let y = near_y s.first both.0 in
    let low = near_point (box_corner int_min s) (least_near (λ v. v.x) near_x s.others s.first.x x both.1) (least_near (λ v. v.y) near_y s.others s.first.y y both.1) in
    let high = near_point (box_corner int_max s) (greatest_near (λ v. v.x) near_x s.others s.first.x x both.1) (greatest_near (λ v. v.y) near_y s.others s.first.y y both.1) in
    (λ i. low i && high i)

-- the corners of the box move with the shape
low-moved : (o : GridPoint) (s : GridRounded) → moved_point o (box_corner int_min s) ≡ box_corner int_min (moved_shape o s)
low-moved o s = (λ i. record { x = sym (least-shift (λ v. v.x) o o.x (λ v. refl) s.first.x s.others) i; y = sym (least-shift (λ v. v.y) o o.y (λ v. refl) s.first.y s.others) i })

high-moved : (o : GridPoint) (s : GridRounded) → moved_point o (box_corner int_max s) ≡ box_corner int_max (moved_shape o s)
high-moved o s = (λ i. record { x = sym (greatest-shift (λ v. v.x) o o.x (λ v. refl) s.first.x s.others) i; y = sym (greatest-shift (λ v. v.y) o o.y (λ v. refl) s.first.y s.others) i })

-- all corners of a shape that is moved are near just where both corners of the box are
pub near_as_box : (o : GridPoint) (s : GridRounded) → is_near (moved_point o (box_corner int_min s)) && is_near (moved_point o (box_corner int_max s)) ≡ list_all is_near (corners (moved_shape o s))
near_as_box o s =
    (λ i. is_near (low-moved o s i) && is_near (high-moved o s i))
    ∙ both_ways (is_near (box_corner int_min (moved_shape o s)) && is_near (box_corner int_max (moved_shape o s))) (list_all is_near (corners (moved_shape o s))) (near_by_box (moved_shape o s)) (box_by_near (moved_shape o s))
