-- Hulls of shapes, and hulls about other hulls.
use Rattle.board.proofs.Common.{◌≡◌, ℕ, ◌+◌, ◌-◌, ◌*◌, ◌≤◌, min, ap, ◌∙◌, arith, GridPoint, abs_diff, square, square_distance, abs_diff_triangle, abs_diff_comm, square-le, le_of_squares, two_steps-le, GridDisc, GridRect, GridObround, end_radius, square_axis_distance, disc_covers, rect_covers, obround_covers, IsDeepIn, IsHullOf, IsWiderThan}
use Rattle.board.specs.Inner.DepthLaws.{both_le}
use Rattle.board.specs.declared.hull.Hull.{Hull}

-- a side of a right triangle is no longer than a bound on the longest one
side-le : (a b n : ℕ) → a * a + b * b ≤ n * n → a ≤ n
side-le a b n h = le_of_squares a n (omega (arith, h))

other_side-le : (a b n : ℕ) → a * a + b * b ≤ n * n → b ≤ n
other_side-le a b n h = le_of_squares b n (omega (arith, h))

-- the hull of a disc
pub disc_hull : (d : GridDisc) (hull : Hull) → hull.centre ≡ d.centre → hull.half_x ≡ d.radius → hull.half_y ≡ d.radius → hull.radius ≡ d.radius → hull.axis_x ≡ 0 → hull.axis_y ≡ 0 → hull.depth ≡ d.radius → IsHullOf disc_covers d hull
disc_hull d hull centre half_x half_y radius axis_x axis_y depth c reach e =
    let t = both_le reach d.radius (square_distance c d.centre) (square (d.radius - reach)) e in
    let x : abs_diff c.x d.centre.x ≤ d.radius - reach = side-le _ (abs_diff c.y d.centre.y) _ t.1 in
    let y : abs_diff c.y d.centre.y ≤ d.radius - reach = other_side-le (abs_diff c.x d.centre.x) _ _ t.1 in
    let at_x : abs_diff c.x hull.centre.x ≡ abs_diff c.x d.centre.x = ap (λ (p : GridPoint). abs_diff c.x p.x) centre in
    let at_y : abs_diff c.y hull.centre.y ≡ abs_diff c.y d.centre.y = ap (λ (p : GridPoint). abs_diff c.y p.y) centre in
    let past_x : abs_diff c.x hull.centre.x - hull.axis_x ≡ abs_diff c.x d.centre.x = omega (arith, at_x, axis_x) in
    let past_y : abs_diff c.y hull.centre.y - hull.axis_y ≡ abs_diff c.y d.centre.y = omega (arith, at_y, axis_y) in
    record {
      depth = omega (arith, depth, t.0);
      x = omega (arith, half_x, at_x, x, t.0);
      y = omega (arith, half_y, at_y, y, t.0);
      radius = omega (arith, radius, t.0);
      round = rw (past_x, past_y, radius) t.1;
    }

-- the hull of a rectangle has no room between its sides and its axes
pub rect_hull : (r : GridRect) (hull : Hull) → hull.centre ≡ r.centre → hull.half_x ≡ r.half_x → hull.half_y ≡ r.half_y → hull.radius ≡ min r.half_x r.half_y → hull.axis_x ≡ r.half_x → hull.axis_y ≡ r.half_y → hull.depth ≡ min r.half_x r.half_y → IsHullOf rect_covers r hull
rect_hull r hull centre half_x half_y radius axis_x axis_y depth c reach e =
    let t = both_le (abs_diff c.x r.centre.x + reach) r.half_x (abs_diff c.y r.centre.y + reach) r.half_y e in
    let at_x : abs_diff c.x hull.centre.x ≡ abs_diff c.x r.centre.x = ap (λ (p : GridPoint). abs_diff c.x p.x) centre in
    let at_y : abs_diff c.y hull.centre.y ≡ abs_diff c.y r.centre.y = ap (λ (p : GridPoint). abs_diff c.y p.y) centre in
    let past_x : abs_diff c.x hull.centre.x - hull.axis_x ≡ 0 = omega (arith, at_x, axis_x, t.0) in
    let past_y : abs_diff c.y hull.centre.y - hull.axis_y ≡ 0 = omega (arith, at_y, axis_y, t.1) in
    record {
      depth = omega (arith, depth, t.0, t.1);
      x = omega (arith, half_x, at_x, t.0);
      y = omega (arith, half_y, at_y, t.1);
      radius = omega (arith, radius, t.0, t.1);
      round = (let z : square (abs_diff c.x hull.centre.x - hull.axis_x) + square (abs_diff c.y hull.centre.y - hull.axis_y) ≡ 0 = ap (λ (n : ℕ). square n + square (abs_diff c.y hull.centre.y - hull.axis_y)) past_x ∙ ap (λ (n : ℕ). square 0 + square n) past_y in omega (arith, z));
    }

pub obround_hull : (o : GridObround) (hull : Hull) → hull.centre ≡ o.centre → hull.half_x ≡ o.half_x → hull.half_y ≡ o.half_y → hull.radius ≡ end_radius o → hull.axis_x ≡ o.half_x - end_radius o → hull.axis_y ≡ o.half_y - end_radius o → hull.depth ≡ end_radius o → IsHullOf obround_covers o hull
obround_hull o hull centre half_x half_y radius axis_x axis_y depth c reach e =
    let t = both_le reach (end_radius o) (square_axis_distance o c) (square (end_radius o - reach)) e in
    let x : abs_diff c.x o.centre.x - (o.half_x - end_radius o) ≤ end_radius o - reach = side-le _ (abs_diff c.y o.centre.y - (o.half_y - end_radius o)) _ t.1 in
    let y : abs_diff c.y o.centre.y - (o.half_y - end_radius o) ≤ end_radius o - reach = other_side-le (abs_diff c.x o.centre.x - (o.half_x - end_radius o)) _ _ t.1 in
    let at_x : abs_diff c.x hull.centre.x ≡ abs_diff c.x o.centre.x = ap (λ (p : GridPoint). abs_diff c.x p.x) centre in
    let at_y : abs_diff c.y hull.centre.y ≡ abs_diff c.y o.centre.y = ap (λ (p : GridPoint). abs_diff c.y p.y) centre in
    record {
      depth = omega (arith, depth, t.0);
      x = omega (arith, half_x, at_x, x, t.0);
      y = omega (arith, half_y, at_y, y, t.0);
      radius = omega (arith, radius, t.0);
      round = rw (at_x, at_y, radius, axis_x, axis_y) t.1;
    }

-- a hull with the same middle that is as wide and as deep
pub wider : (outer inner : Hull) → outer.centre ≡ inner.centre → inner.half_x ≤ outer.half_x → inner.half_y ≤ outer.half_y → inner.radius ≤ outer.radius → inner.axis_x ≤ outer.axis_x → inner.axis_y ≤ outer.axis_y → inner.depth ≤ outer.depth → IsWiderThan outer inner
wider outer inner centre half_x half_y radius axis_x axis_y depth c reach was =
    let at_x : abs_diff c.x outer.centre.x ≡ abs_diff c.x inner.centre.x = ap (λ (p : GridPoint). abs_diff c.x p.x) centre in
    let at_y : abs_diff c.y outer.centre.y ≡ abs_diff c.y inner.centre.y = ap (λ (p : GridPoint). abs_diff c.y p.y) centre in
    let d = was.depth in
    let x = was.x in
    let y = was.y in
    let r = was.radius in
    let round = was.round in
    let past_x = square-le (abs_diff c.x outer.centre.x - outer.axis_x) (abs_diff c.x inner.centre.x - inner.axis_x) (omega (arith, at_x, axis_x)) in
    let past_y = square-le (abs_diff c.y outer.centre.y - outer.axis_y) (abs_diff c.y inner.centre.y - inner.axis_y) (omega (arith, at_y, axis_y)) in
    let room = square-le (inner.radius - reach) (outer.radius - reach) (omega (arith, radius)) in
    record {
      depth = omega (arith, d, depth);
      x = omega (arith, x, half_x, at_x);
      y = omega (arith, y, half_y, at_y);
      radius = omega (arith, r, radius);
      round = omega (arith, past_x, past_y, room, round);
    }

-- a hull with another middle that is wider by the way between the two
pub moved : (outer inner : Hull) (dx dy way : ℕ) → dx ≡ abs_diff outer.centre.x inner.centre.x → dy ≡ abs_diff outer.centre.y inner.centre.y → square dx + square dy ≤ square way
    → inner.half_x + dx ≤ outer.half_x → inner.half_y + dy ≤ outer.half_y → inner.radius + way ≤ outer.radius → inner.axis_x ≤ outer.axis_x → inner.axis_y ≤ outer.axis_y → inner.depth ≤ outer.depth → IsWiderThan outer inner
moved outer inner dx dy way is_x is_y long half_x half_y radius axis_x axis_y depth c reach was =
    let far_x : abs_diff c.x outer.centre.x ≤ abs_diff c.x inner.centre.x + dx = (let t = abs_diff_triangle c.x inner.centre.x outer.centre.x in let s = abs_diff_comm inner.centre.x outer.centre.x in omega (arith, t, s, is_x)) in
    let far_y : abs_diff c.y outer.centre.y ≤ abs_diff c.y inner.centre.y + dy = (let t = abs_diff_triangle c.y inner.centre.y outer.centre.y in let s = abs_diff_comm inner.centre.y outer.centre.y in omega (arith, t, s, is_y)) in
    let d = was.depth in
    let x = was.x in
    let y = was.y in
    let r = was.radius in
    let steps = two_steps-le (abs_diff c.x inner.centre.x - inner.axis_x) (abs_diff c.y inner.centre.y - inner.axis_y) dx dy (abs_diff c.x outer.centre.x - outer.axis_x) (abs_diff c.y outer.centre.y - outer.axis_y) (inner.radius - reach) way
    (omega (arith, far_x, axis_x)) (omega (arith, far_y, axis_y)) was.round long in
    let room = square-le ((inner.radius - reach) + way) (outer.radius - reach) (omega (arith, radius, r)) in
    record { depth = omega (arith, d, depth); x = omega (arith, x, half_x, far_x); y = omega (arith, y, half_y, far_y); radius = omega (arith, r, radius); round = omega (arith, steps, room) }

-- what lies so deep in a hull lies less deep in it
pub less_deep : (hull : Hull) (c : GridPoint) (less reach : ℕ) → less ≤ reach → IsDeepIn hull c reach → IsDeepIn hull c less
less_deep hull c less reach h was =
    let d = was.depth in
    let x = was.x in
    let y = was.y in
    let r = was.radius in
    let round = was.round in
    let room = square-le (hull.radius - reach) (hull.radius - less) (omega (arith, h)) in
    record { depth = omega (arith, d, h); x = omega (arith, x, h); y = omega (arith, y, h); radius = omega (arith, r, h); round = omega (arith, round, room) }
