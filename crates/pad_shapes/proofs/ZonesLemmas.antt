-- Where a shape covers a centre: how near each axis the centre lies, and which zones it misses.
use Rattle.std.proofs.Common.{◌≡◌, ℕ, ◌+◌, ◌-◌, ◌*◌, ◌≤◌, true, arith}
use Rattle.std.specs.Prelude.{◌&&◌, nat_le}
use Rattle.std.proofs.lemmas.Bool.Decides.{nat_tests}
use Rattle.std.proofs.lemmas.Nat.{mul-le}
use Rattle.grid_units.specs.Points.{GridPoint, abs_diff, square, square_distance}
use Rattle.pad_shapes.specs.Zones.{IsInset}
use Rattle.pad_shapes.specs.Inner.ShapeLaws.{both_le, other_side-le, side-le}
use Rattle.pad_shapes.specs.Shapes.{GridDisc, GridRect, GridObround, end_radius, square_axis_distance, disc_covers, rect_covers, obround_covers}

pub disc_inset : (d : GridDisc) (c : GridPoint) (reach r : ℕ) → reach ≤ r → disc_covers d c r ≡ true → IsInset (abs_diff c.x d.centre.x) (abs_diff c.y d.centre.y) reach d.radius d.radius
disc_inset d c reach r less e =
    let t = both_le r d.radius (square_distance c d.centre) (square (d.radius - r)) e in
    let x : abs_diff c.x d.centre.x ≤ d.radius - r = side-le _ (abs_diff c.y d.centre.y) _ t.1 in
    let y : abs_diff c.y d.centre.y ≤ d.radius - r = other_side-le (abs_diff c.x d.centre.x) _ _ t.1 in
    record { x = omega (arith, t.0, x, less); y = omega (arith, t.0, y, less) }

pub rect_inset : (d : GridRect) (c : GridPoint) (reach r : ℕ) → reach ≤ r → rect_covers d c r ≡ true → IsInset (abs_diff c.x d.centre.x) (abs_diff c.y d.centre.y) reach d.half_x d.half_y
rect_inset d c reach r less e =
    let t = both_le (abs_diff c.x d.centre.x + r) d.half_x (abs_diff c.y d.centre.y + r) d.half_y e in
    record { x = omega (arith, t.0, less); y = omega (arith, t.1, less) }

pub obround_inset : (d : GridObround) (c : GridPoint) (reach r : ℕ) → reach ≤ r → obround_covers d c r ≡ true → IsInset (abs_diff c.x d.centre.x) (abs_diff c.y d.centre.y) reach d.half_x d.half_y
obround_inset d c reach r less e =
    let t = both_le r (end_radius d) (square_axis_distance d c) (square (end_radius d - r)) e in
    let x : abs_diff c.x d.centre.x - (d.half_x - end_radius d) ≤ end_radius d - r = side-le _ (abs_diff c.y d.centre.y - (d.half_y - end_radius d)) _ t.1 in
    let y : abs_diff c.y d.centre.y - (d.half_y - end_radius d) ≤ end_radius d - r = other_side-le (abs_diff c.x d.centre.x - (d.half_x - end_radius d)) _ _ t.1 in
    record { x = omega (arith, t.0, x, less); y = omega (arith, t.0, y, less) }

pub squares-le : (a b : ℕ) → a ≤ b → a * a ≤ b * b
squares-le a b h = mul-le a a b b h h

-- the test passes for a step that is no longer along either axis than one that is short enough
fits : (a b dx dy m n : ℕ) → dx ≤ a → dy ≤ b → m ≤ n → square a + square b ≤ square m → (nat_le dx n && (nat_le dy n && nat_le (square dx + square dy) (square n))) ≡ true
fits a b dx dy m n x y less h =
    let t : dx ≤ n = (let s = side-le a b m h in omega (arith, s, x, less)) in
    let u : dy ≤ n = (let s = other_side-le a b m h in omega (arith, s, y, less)) in
    let p : dx * dx ≤ a * a = squares-le dx a x in
    let q : dy * dy ≤ b * b = squares-le dy b y in
    let r : m * m ≤ n * n = squares-le m n less in
    let v : square dx + square dy ≤ square n = omega (arith, p, q, r, h) in
    grind (arith, nat_tests)

pub disc_square_bound : (d : GridDisc) (c : GridPoint) (reach r dx dy : ℕ) → reach ≤ r → disc_covers d c r ≡ true → dx ≤ abs_diff c.x d.centre.x → dy ≤ abs_diff c.y d.centre.y → (nat_le dx (d.radius - reach) && (nat_le dy (d.radius - reach) && nat_le (square dx + square dy) (square (d.radius - reach)))) ≡ true
disc_square_bound d c reach r dx dy less e x y =
    let t = both_le r d.radius (square_distance c d.centre) (square (d.radius - r)) e in
    fits (abs_diff c.x d.centre.x) (abs_diff c.y d.centre.y) dx dy (d.radius - r) (d.radius - reach) x y (omega (arith, less)) t.1

pub obround_square_bound : (d : GridObround) (c : GridPoint) (reach r dx dy radius past_x past_y : ℕ) → reach ≤ r → obround_covers d c r ≡ true → dx ≤ abs_diff c.x d.centre.x → dy ≤ abs_diff c.y d.centre.y
    → radius ≡ end_radius d → past_x ≡ dx - (d.half_x - radius) → past_y ≡ dy - (d.half_y - radius)
    → (nat_le past_x (radius - reach) && (nat_le past_y (radius - reach) && nat_le (square past_x + square past_y) (square (radius - reach)))) ≡ true
obround_square_bound d c reach r dx dy radius past_x past_y less e x y same at_x at_y =
    let t = both_le r (end_radius d) (square_axis_distance d c) (square (end_radius d - r)) e in
    fits (abs_diff c.x d.centre.x - (d.half_x - end_radius d)) (abs_diff c.y d.centre.y - (d.half_y - end_radius d)) past_x past_y (end_radius d - r) (radius - reach) (omega (arith, x, same, at_x)) (omega (arith, y, same, at_y)) (omega (arith, less, same)) t.1
