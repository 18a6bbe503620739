-- Rectangles that are made of four corners, where each of them is in range.
use Rattle.macro_shapes.proofs.Common.{◌≡◌, ℕ, ℤ, pos, ◌/◌, ◌≤◌, ◌+ℤ◌, ◌-ℤ◌, Bool, true, false, cond, List, [], ◌∷◌, Option, None, Some, refl, sym, ap, ◌∙◌, unsigned_abs, w64, arith, ◌&&◌, nat_le, option_and_then, int_min, int_max, int_eq, le-leb, and_from, Decides-int_eq, ints, clamps, to_z, of_z, GridPoint, max_coordinate, GridRounded, grid_point, rounded_of, rectangle_of, rectangle_about, rectangle_along}
use Rattle.std.specs.Prelude.{not}

-- a corner whose coordinates were passed on
pub corner_made : (x y u v : ℤ) (p : GridPoint) (found : Option GridPoint) → u ≡ x → v ≡ y → found ≡ grid_point u v → found ≡ Some p → grid_point x y ≡ Some p
corner_made x y u v p found same_x same_y made is = sym (made ∙ (λ i. grid_point (same_x i) (same_y i))) ∙ is

pub rectangle_made : (l b r t : ℤ) (first second third fourth : GridPoint) (others : List GridPoint) (answer : Option GridRounded) → grid_point l b ≡ Some first → grid_point r b ≡ Some second → grid_point r t ≡ Some third → grid_point l t ≡ Some fourth
    → others ≡ second ∷ third ∷ fourth ∷ [] → answer ≡ rounded_of first others 0 → answer ≡ rectangle_of l b r t
rectangle_made l b r t first second third fourth others answer is_first is_second is_third is_fourth are made =
    let found : rectangle_of l b r t ≡ rounded_of first (second ∷ third ∷ fourth ∷ []) 0 =
    λ i. option_and_then (λ a. option_and_then (λ c. option_and_then (λ d. option_and_then (λ f. rounded_of a (c ∷ d ∷ f ∷ []) 0) (is_fourth i)) (is_third i)) (is_second i)) (is_first i) in
    made ∙ (ap (λ (o : List GridPoint). rounded_of first o 0) are ∙ sym found)

pub about_made : (centre : GridPoint) (width height : ℕ) (l b r t : ℤ) → width ≤ max_coordinate → height ≤ max_coordinate → l ≡ centre.x -ℤ pos (width / 2) → b ≡ centre.y -ℤ pos (height / 2) → r ≡ centre.x +ℤ pos (width / 2) → t ≡ centre.y +ℤ pos (height / 2)
    → rectangle_of l b r t ≡ rectangle_about centre width height
about_made centre width height l b r t wide tall is_l is_b is_r is_t =
    let fits : (nat_le width max_coordinate && nat_le height max_coordinate) ≡ true = and_from (nat_le width max_coordinate) (nat_le height max_coordinate) (le-leb width max_coordinate wide) (le-leb height max_coordinate tall) in
    let same : rectangle_of l b r t ≡ rectangle_of (centre.x -ℤ pos (width / 2)) (centre.y -ℤ pos (height / 2)) (centre.x +ℤ pos (width / 2)) (centre.y +ℤ pos (height / 2)) = λ i. rectangle_of (is_l i) (is_b i) (is_r i) (is_t i) in
    same ∙ sym (ap (λ (fit : Bool). cond fit (rectangle_of (centre.x -ℤ pos (width / 2)) (centre.y -ℤ pos (height / 2)) (centre.x +ℤ pos (width / 2)) (centre.y +ℤ pos (height / 2))) None) fits)

-- the rectangles about a line along the x, and about one along the y
abbrev lying : GridPoint → GridPoint → ℕ → Option GridRounded
lying a b width = rectangle_of (int_min a.x b.x) (a.y -ℤ pos (width / 2)) (int_max a.x b.x) (a.y +ℤ pos (width / 2))

abbrev upright : GridPoint → GridPoint → ℕ → Option GridRounded
upright a b width = rectangle_of (a.x -ℤ pos (width / 2)) (int_min a.y b.y) (a.x +ℤ pos (width / 2)) (int_max a.y b.y)

not_level : (x y : ℤ) → (x ≡ y → ⊥) → int_eq x y ≡ false
not_level x y apart = by (int_eq x y) refl
  where
    by : (t : Bool) → int_eq x y ≡ t → t ≡ false
    by true e = absurd (apart ((Decides-int_eq x y).0 e))
    by false e = refl

pub lying_made : (a b : GridPoint) (width : ℕ) (l d r u : ℤ) → width ≤ max_coordinate → a.y ≡ b.y → l ≡ int_min a.x b.x → d ≡ a.y -ℤ pos (width / 2) → r ≡ int_max a.x b.x → u ≡ a.y +ℤ pos (width / 2) → rectangle_of l d r u ≡ rectangle_along a b width
lying_made a b width l d r u wide level is_l is_d is_r is_u =
    let fits : nat_le width max_coordinate ≡ true = le-leb width max_coordinate wide in
    let flat : int_eq a.y b.y ≡ true = (Decides-int_eq a.y b.y).1 level in
    let same : rectangle_of l d r u ≡ lying a b width = λ i. rectangle_of (is_l i) (is_d i) (is_r i) (is_u i) in
    let along : rectangle_along a b width ≡ lying a b width = λ i. cond (not (fits i)) None (cond (flat i) (lying a b width) (cond (int_eq a.x b.x) (upright a b width) None)) in
    same ∙ sym along

pub upright_made : (a b : GridPoint) (width : ℕ) (l d r u : ℤ) → width ≤ max_coordinate → (a.y ≡ b.y → ⊥) → a.x ≡ b.x → l ≡ a.x -ℤ pos (width / 2) → d ≡ int_min a.y b.y → r ≡ a.x +ℤ pos (width / 2) → u ≡ int_max a.y b.y → rectangle_of l d r u ≡ rectangle_along a b width
upright_made a b width l d r u wide apart level is_l is_d is_r is_u =
    let fits : nat_le width max_coordinate ≡ true = le-leb width max_coordinate wide in
    let slanted : int_eq a.y b.y ≡ false = not_level a.y b.y apart in
    let steep : int_eq a.x b.x ≡ true = (Decides-int_eq a.x b.x).1 level in
    let same : rectangle_of l d r u ≡ upright a b width = λ i. rectangle_of (is_l i) (is_d i) (is_r i) (is_u i) in
    let along : rectangle_along a b width ≡ upright a b width = λ i. cond (not (fits i)) None (cond (slanted i) (lying a b width) (cond (steep i) (upright a b width) None)) in
    same ∙ sym along

-- a coordinate less half of a size, and half of a size more, as they are computed
pub less_half : (x c : ℤ) (n : ℕ) → x ≡ c → unsigned_abs x ≤ max_coordinate → n ≤ max_coordinate → to_z w64 (of_z w64 (to_z w64 (of_z w64 x) -ℤ to_z w64 (n / 2))) ≡ c -ℤ pos (n / 2)
less_half x c n same near small = omega (arith, ints)

pub and_half : (x c : ℤ) (n : ℕ) → x ≡ c → unsigned_abs x ≤ max_coordinate → n ≤ max_coordinate → to_z w64 (of_z w64 (to_z w64 (of_z w64 x) +ℤ to_z w64 (n / 2))) ≡ c +ℤ pos (n / 2)
and_half x c n same near small = omega (arith, ints)

-- the lesser and the greater of two coordinates, as they are computed
pub least_made : (m x y u v : ℤ) → m ≡ int_min (to_z w64 (of_z w64 x)) (to_z w64 (of_z w64 y)) → x ≡ u → y ≡ v → unsigned_abs x ≤ max_coordinate → unsigned_abs y ≤ max_coordinate → to_z w64 (of_z w64 m) ≡ int_min u v
least_made m x y u v is same_x same_y near_x near_y = omega (arith, ints, clamps)

pub greatest_made : (m x y u v : ℤ) → m ≡ int_max (to_z w64 (of_z w64 x)) (to_z w64 (of_z w64 y)) → x ≡ u → y ≡ v → unsigned_abs x ≤ max_coordinate → unsigned_abs y ≤ max_coordinate → to_z w64 (of_z w64 m) ≡ int_max u v
greatest_made m x y u v is same_x same_y near_x near_y = omega (arith, ints, clamps)
