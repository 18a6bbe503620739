-- Products of differences of coordinates, and the comparison of an area with a depth and an edge by their squares.
use Rattle.std.proofs.Common.{◌≡◌, ℕ, ℤ, ◌+◌, ◌*◌, ◌/◌, ◌≤◌, ◌<◌, pos, ◌+ℤ◌, ◌-ℤ◌, ◌*ℤ◌, ◌≤ℤ◌, unsigned_abs, FitsSigned, Ordering, Less, Equal, Greater, ap, ◌∙◌, arith, to_z, of_z, mul-le-mul, mul-le-mul_left, lit<}
use Rattle.std.proofs.lemmas.Int.{ints, fits_signed_mul, unsigned_abs-mul, to_z-of_z}
use Rattle.std.proofs.lemmas.Nat.{mul-le}
use Rattle.std.specs.Ordering.{MatchOrdering}
use Rattle.grid_units.specs.Points.{square}
use mir.Syntax.{w64, w128}

in_128 : (z : ℤ) → FitsSigned w64 z → to_z w128 (of_z w128 z) ≡ z
in_128 z h = to_z-of_z w128 z (omega (arith, ints))

pub factors : (a b x y : ℤ) → FitsSigned w64 x → FitsSigned w64 y → a ≡ x → b ≡ y → to_z w128 (of_z w128 a) *ℤ to_z w128 (of_z w128 b) ≡ x *ℤ y
factors a b x y h l e f = λ i. (ap (λ z. to_z w128 (of_z w128 z)) e ∙ in_128 x h) i *ℤ (ap (λ z. to_z w128 (of_z w128 z)) f ∙ in_128 y l) i

pub product_fits : (x y : ℤ) → unsigned_abs x ≤ 20000000000000 → unsigned_abs y ≤ 40000000000000 → FitsSigned w128 (x *ℤ y)
product_fits x y h l = fits_signed_mul w128 x y 20000000000000 40000000000000 h l (lit< tt)

pub product_bound : (x y : ℤ) → unsigned_abs x ≤ 20000000000000 → unsigned_abs y ≤ 40000000000000 → unsigned_abs (x *ℤ y) ≤ 800000000000000000000000000
product_bound x y h l =
    let p : unsigned_abs x * unsigned_abs y ≤ 20000000000000 * 40000000000000 = mul-le-mul h l in
    rw unsigned_abs-mul (omega arith)

-- a difference of coordinates, as the code forms it
pub difference : (a b p q : ℤ) → a ≡ p → b ≡ q → unsigned_abs a ≤ 10000000000000 → unsigned_abs b ≤ 10000000000000 → to_z w64 (of_z w64 (to_z w64 (of_z w64 a) -ℤ to_z w64 (of_z w64 b))) ≡ p -ℤ q
difference a b p q e f h l =
    (λ i. to_z w64 (of_z w64 (to_z-of_z w64 a (in_64 a h) i -ℤ to_z-of_z w64 b (in_64 b l) i))) ∙ to_z-of_z w64 (a -ℤ b) (omega (arith, ints)) ∙ (λ i. e i -ℤ f i)
  where
    in_64 : (z : ℤ) → unsigned_abs z ≤ 10000000000000 → FitsSigned w64 z
    in_64 z k = omega (arith, ints)

-- a difference of a coordinate relative to an offset and one of a corner, as the code forms it
pub far_difference : (a b p q : ℤ) → a ≡ p → b ≡ q → unsigned_abs a ≤ 30000000000000 → unsigned_abs b ≤ 10000000000000 → to_z w64 (of_z w64 (to_z w64 (of_z w64 a) -ℤ to_z w64 (of_z w64 b))) ≡ p -ℤ q
far_difference a b p q e f h l =
    (λ i. to_z w64 (of_z w64 (to_z-of_z w64 a (omega (arith, ints)) i -ℤ to_z-of_z w64 b (omega (arith, ints)) i))) ∙ to_z-of_z w64 (a -ℤ b) (omega (arith, ints)) ∙ (λ i. e i -ℤ f i)

-- a coordinate less an offset, as the code forms it
pub offset_difference : (a b p : ℤ) → a ≡ p → unsigned_abs a ≤ 10000000000000 → unsigned_abs b ≤ 20000000000000 → to_z w64 (of_z w64 (to_z w64 (of_z w64 a) -ℤ to_z w64 (of_z w64 b))) ≡ p -ℤ b
offset_difference a b p e h l =
    (λ i. to_z w64 (of_z w64 (to_z-of_z w64 a (omega (arith, ints)) i -ℤ to_z-of_z w64 b (omega (arith, ints)) i))) ∙ to_z-of_z w64 (a -ℤ b) (omega (arith, ints)) ∙ (λ i. e i -ℤ b)

-- a product of two steps, as the code has them
pub product_is : (r x y p q : ℤ) → unsigned_abs p ≤ 20000000000000 → unsigned_abs q ≤ 40000000000000 → p ≡ x → q ≡ y → r ≡ to_z w64 (of_z w64 p) *ℤ to_z w64 (of_z w64 q) → r ≡ x *ℤ y
product_is r x y p q h l e f g = g ∙ (λ i. (to_z-of_z w64 p (omega (arith, ints)) ∙ e) i *ℤ (to_z-of_z w64 q (omega (arith, ints)) ∙ f) i)

pub fits_difference : (r s : ℤ) → unsigned_abs r ≤ 800000000000000000000000000 → unsigned_abs s ≤ 800000000000000000000000000 → FitsSigned w128 (to_z w128 (of_z w128 r) -ℤ to_z w128 (of_z w128 s))
fits_difference r s h l = omega (arith, ints)

in_128_bits : (z : ℤ) → unsigned_abs z ≤ 1600000000000000000000000000 → to_z w128 (of_z w128 z) ≡ z
in_128_bits z h = to_z-of_z w128 z (omega (arith, ints))

-- a difference and a sum of products, as the code forms them
pub difference_of_products : (r s : ℤ) → unsigned_abs r ≤ 800000000000000000000000000 → unsigned_abs s ≤ 800000000000000000000000000 → to_z w128 (of_z w128 (to_z w128 (of_z w128 r) -ℤ to_z w128 (of_z w128 s))) ≡ r -ℤ s
difference_of_products r s h l =
    (λ i. to_z w128 (of_z w128 (in_128_bits r (omega (arith, h)) i -ℤ in_128_bits s (omega (arith, l)) i))) ∙ in_128_bits (r -ℤ s) (omega (arith, ints))

pub sum_of_products : (r s : ℤ) → unsigned_abs r ≤ 800000000000000000000000000 → unsigned_abs s ≤ 800000000000000000000000000 → to_z w128 (of_z w128 (to_z w128 (of_z w128 r) +ℤ to_z w128 (of_z w128 s))) ≡ r +ℤ s
sum_of_products r s h l =
    (λ i. to_z w128 (of_z w128 (in_128_bits r (omega (arith, h)) i +ℤ in_128_bits s (omega (arith, l)) i))) ∙ in_128_bits (r +ℤ s) (omega (arith, ints))

pub difference_bound : (r s : ℤ) → unsigned_abs r ≤ 800000000000000000000000000 → unsigned_abs s ≤ 800000000000000000000000000 → unsigned_abs (r -ℤ s) ≤ 1600000000000000000000000000
difference_bound r s h l = omega (arith, ints)

-- the square of a step between two points
pub square_bound : (a b : ℕ) → a ≤ 20000000000000 → b ≤ 20000000000000 → square a + square b ≤ 800000000000000000000000000
square_bound a b h l =
    let p : a * a ≤ 20000000000000 * 20000000000000 = mul-le a a 20000000000000 20000000000000 h h in
    let q : b * b ≤ 20000000000000 * 20000000000000 = mul-le b b 20000000000000 20000000000000 l l in
    omega (arith, p, q)

pub one-le-square : (n : ℕ) → 1 ≤ n → 1 ≤ n * n
one-le-square n h = mul-le 1 1 n n h h

-- an area whose whole part is more than an edge's length
pub above : (area depth s whole rest : ℕ) → area ≡ whole * depth + rest → 1 ≤ depth → s < whole * whole → square depth * s < square area
above area depth s whole rest e some more =
    let f : (depth * depth) * (s + 1) ≤ (depth * depth) * (whole * whole) = mul-le-mul_left (depth * depth) (omega (arith, more)) in
    let one : 1 ≤ depth * depth = one-le-square depth some in
    omega (arith, f, one, ap (λ a. a * a) e)

pub far_above : (area depth s whole rest : ℕ) → area ≡ whole * depth + rest → 1 ≤ depth → s ≤ 800000000000000000000000000 → 30000000000000 < whole → square depth * s < square area
far_above area depth s whole rest e some small far =
    let f : 30000000000001 * 30000000000001 ≤ whole * whole = mul-le 30000000000001 30000000000001 whole whole far far in
    above area depth s whole rest e some (omega (arith, f))

-- an area whose whole part and one more is at most an edge's length
pub below : (area depth s whole rest lack : ℕ) → area ≡ whole * depth + rest → rest < depth → s ≡ whole * whole + lack → 2 * whole < lack → square area < square depth * s
below area depth s whole rest lack e less f more =
    let g : area + 1 ≤ (whole + 1) * depth = omega (arith, e, less) in
    let h : (area + 1) * (area + 1) ≤ ((whole + 1) * depth) * ((whole + 1) * depth) = mul-le (area + 1) (area + 1) ((whole + 1) * depth) ((whole + 1) * depth) g g in
    let k : (depth * depth) * ((whole + 1) * (whole + 1)) ≤ (depth * depth) * s = mul-le-mul_left (depth * depth) (omega (arith, f, more)) in
    omega (arith, h, k)

-- what is left of both sides, where the whole part of the area is the whole part of the length
pub rests : (area depth s whole rest lack gain loss : ℕ) → area ≡ whole * depth + rest → s ≡ whole * whole + lack → gain ≡ lack * depth → loss ≡ (2 * whole) * rest
    → square area + depth * gain ≡ square depth * s + (square rest + depth * loss)
rests area depth s whole rest lack gain loss e f g h =
    omega (arith, ap (λ a. a * a) e, ap (λ t. (depth * depth) * t) f, ap (λ t. depth * t) g, ap (λ t. depth * t) h)

pub carried : (o : Ordering) (a b c d : ℕ) → a + d ≡ b + c → MatchOrdering o (c < d) (c ≡ d) (d < c) → MatchOrdering o (a < b) (a ≡ b) (b < a)
carried Less a b c d e h = omega (arith, e, h)
carried Equal a b c d e h = omega (arith, e, h)
carried Greater a b c d e h = omega (arith, e, h)

pub gain_above : (depth rest gain loss more : ℕ) → rest < depth → gain ≡ loss + more → depth ≤ more → square rest + depth * loss < depth * gain
gain_above depth rest gain loss more less e far =
    let f : (rest + 1) * (rest + 1) ≤ depth * depth = mul-le (rest + 1) (rest + 1) depth depth (omega (arith, less)) (omega (arith, less)) in
    let g : depth * depth ≤ depth * more = mul-le-mul_left depth far in
    omega (arith, f, g, ap (λ t. depth * t) e)

-- a side of a box, as the code forms it
pub zone_low : (l k z : ℤ) (reach radius : ℕ) → l ≡ k → unsigned_abs l ≤ 10000000000000 → reach ≤ 20000000000000 → radius ≤ 5000000000000 → ((k -ℤ pos radius) +ℤ pos reach) ≤ℤ z
    → to_z w64 (of_z w64 (to_z w64 (of_z w64 l) +ℤ to_z w64 (of_z w64 (to_z w64 reach -ℤ to_z w64 radius)))) ≤ℤ z
zone_low l k z reach radius e h p q near = omega (arith, ints)

pub zone_high : (l k z : ℤ) (reach radius : ℕ) → l ≡ k → unsigned_abs l ≤ 10000000000000 → reach ≤ 20000000000000 → radius ≤ 5000000000000 → z ≤ℤ ((k +ℤ pos radius) -ℤ pos reach)
    → z ≤ℤ to_z w64 (of_z w64 (to_z w64 (of_z w64 l) -ℤ to_z w64 (of_z w64 (to_z w64 reach -ℤ to_z w64 radius))))
zone_high l k z reach radius e h p q near = omega (arith, ints)

-- a side of a box moved by an offset, as the code forms it
pub low_side : (x l p : ℤ) → unsigned_abs x ≤ 20000000000000 → unsigned_abs l ≤ 40000000000000 → l ≤ℤ (p -ℤ x) → to_z w64 (of_z w64 (to_z w64 (of_z w64 x) +ℤ to_z w64 (of_z w64 l))) ≤ℤ p
low_side x l p h k low = omega (arith, ints)

pub high_side : (x l p : ℤ) → unsigned_abs x ≤ 20000000000000 → unsigned_abs l ≤ 40000000000000 → (p -ℤ x) ≤ℤ l → p ≤ℤ to_z w64 (of_z w64 (to_z w64 (of_z w64 x) +ℤ to_z w64 (of_z w64 l)))
high_side x l p h k high = omega (arith, ints)

-- the least and the greatest x of a moved shape, as the code forms them
pub moved_least : (x l k r q : ℤ) → unsigned_abs x ≤ 20000000000000 → unsigned_abs l ≤ 10000000000000 → (pos 0 ≤ℤ r) × (r ≤ℤ pos 5000000000000) → l ≡ k → r ≡ q
    → to_z w64 (of_z w64 (to_z w64 (of_z w64 (to_z w64 (of_z w64 x) +ℤ to_z w64 (of_z w64 l))) -ℤ to_z w64 (of_z w64 r))) ≡ (x +ℤ k) -ℤ q
moved_least x l k r q h m n e f = omega (arith, ints, n.0, n.1)

pub moved_greatest : (x l k r q : ℤ) → unsigned_abs x ≤ 20000000000000 → unsigned_abs l ≤ 10000000000000 → (pos 0 ≤ℤ r) × (r ≤ℤ pos 5000000000000) → l ≡ k → r ≡ q
    → to_z w64 (of_z w64 (to_z w64 (of_z w64 (to_z w64 (of_z w64 x) +ℤ to_z w64 (of_z w64 l))) +ℤ to_z w64 (of_z w64 r))) ≡ (x +ℤ k) +ℤ q
moved_greatest x l k r q h m n e f = omega (arith, ints, n.0, n.1)

-- a reach above half of the width is covered nowhere
pub beyond_half : (l g k m x : ℤ) (width radius reach : ℕ) → l ≡ k → g ≡ m → unsigned_abs l ≤ 10000000000000 → unsigned_abs g ≤ 10000000000000
    → width ≡ unsigned_abs (to_z w64 (of_z w64 (to_z w64 (of_z w64 g) -ℤ to_z w64 (of_z w64 l)))) → radius + width / 2 < reach
    → ((k -ℤ pos radius) +ℤ pos reach) ≤ℤ x → x ≤ℤ ((m +ℤ pos radius) -ℤ pos reach) → ⊥
beyond_half l g k m x width radius reach e f p q is more low high = omega (arith, ints)
