-- Shapes of flashed pads: their points, and the holes that each of them covers. Lengths are whole picometres.
use Rattle.std.specs.Prelude.{◌≡◌, ◌↔◌, ℕ, ℤ, pos, ◌+◌, ◌-◌, ◌≤◌, min, ◌+ℤ◌, ◌-ℤ◌, ◌≤ℤ◌, ◌⊎◌, Bool, true, false, ◌&&◌, nat_le, if◌then◌else◌}
use Rattle.grid_units.specs.Points.{GridPoint, abs_diff, square, square_distance}
use Rattle.grid_units.specs.Holes.{IsBetween}

-- a round pad, such as a flash of `%ADD10C,0.5*%`: its centre and its radius
pub record GridDisc : Type 0 where
  pub centre : GridPoint
  pub radius : ℕ

-- a rectangle along the axes, such as a flash of `%ADD11R,1.0X0.5*%`: its centre and half of each side
pub record GridRect : Type 0 where
  pub centre : GridPoint
  pub half_x : ℕ
  pub half_y : ℕ

-- a rectangle with half circles for its shorter sides, such as a flash of `%ADD12O,1.0X0.5*%`; a disc where the sides are equal
pub record GridObround : Type 0 where
  pub centre : GridPoint
  pub half_x : ℕ
  pub half_y : ℕ

-- five metres in pm, the largest radius and the largest half of a side (docs/FORMATS.md, Limits)
abbrev pub max_half_side : ℕ
max_half_side = 5000000000000

-- the radius of a round pad, from 0 to 5 m (docs/FORMATS.md, Limits)
abbrev pub IsPadRadius : ℤ → Type 0
IsPadRadius z = (pos 0 ≤ℤ z) × (z ≤ℤ pos max_half_side)

-- half of a side of a pad, from 1 pm to 5 m (docs/FORMATS.md, Limits)
abbrev pub IsHalfSide : ℤ → Type 0
IsHalfSide z = (pos 1 ≤ℤ z) × (z ≤ℤ pos max_half_side)

-- twenty metres in pm, the largest reach (docs/FORMATS.md, Limits)
abbrev pub max_reach : ℕ
max_reach = 20000000000000

-- a reach round a centre in a call, from 0 to 20 m: for a hole, its radius and its ring together (docs/FORMATS.md, Limits)
abbrev pub IsReach : ℤ → Type 0
IsReach z = (pos 0 ≤ℤ z) × (z ≤ℤ pos max_reach)

-- p is no further than the radius from the centre, judged by squares
abbrev pub IsInDisc : GridDisc → GridPoint → Type 0
IsInDisc d p = square_distance p d.centre ≤ square d.radius

-- p is, along each axis, no further than half of the side from the centre
abbrev pub IsInRect : GridRect → GridPoint → Type 0
IsInRect r p = (abs_diff p.x r.centre.x ≤ r.half_x) × (abs_diff p.y r.centre.y ≤ r.half_y)

-- the radius of the two round ends: half of the shorter side
abbrev pub end_radius : GridObround → ℕ
end_radius o = min o.half_x o.half_y

-- the line between the centres of the round ends, along the longer side: a rectangle one of whose sides is 0
abbrev pub axis : GridObround → GridRect
axis o = record { centre = o.centre; half_x = o.half_x - end_radius o; half_y = o.half_y - end_radius o }

-- p is no further than the radius of the ends from some point of the axis
abbrev pub IsInObround : GridObround → GridPoint → Type 0
IsInObround o p = (c : GridPoint) × IsInRect (axis o) c × (square_distance p c ≤ square (end_radius o))

-- c lies so deep in the disc that the reach stays inside: no further from its centre than the radius less the reach
abbrev pub disc_covers : GridDisc → GridPoint → ℕ → Bool
disc_covers d c reach =
    nat_le reach d.radius && nat_le (square_distance c d.centre) (square (d.radius - reach))

-- c lies so deep in the rectangle that, along each axis, its distance from the middle and the reach fit into half of the side
abbrev pub rect_covers : GridRect → GridPoint → ℕ → Bool
rect_covers r c reach =
    nat_le (abs_diff c.x r.centre.x + reach) r.half_x && nat_le (abs_diff c.y r.centre.y + reach) r.half_y

-- the square of p's distance from the line between the centres of the round ends
abbrev pub square_axis_distance : GridObround → GridPoint → ℕ
square_axis_distance o p =
    square (abs_diff p.x o.centre.x - (o.half_x - end_radius o)) + square (abs_diff p.y o.centre.y - (o.half_y - end_radius o))

-- c is no further from that line than the radius of the ends less the reach, so that the reach stays inside
abbrev pub obround_covers : GridObround → GridPoint → ℕ → Bool
obround_covers o c reach =
    nat_le reach (end_radius o) && nat_le (square_axis_distance o c) (square (end_radius o - reach))

-- each grid point within the reach of a covered centre is a point of the shape
abbrev pub ContainsCovered : {S : Type 0} → (S → GridPoint → Type 0) → (S → GridPoint → ℕ → Bool) → Type 0
ContainsCovered {S} points covers =
    (s : S) (c : GridPoint) (reach : ℕ) → covers s c reach ≡ true → (p : GridPoint) → square_distance p c ≤ square reach → points s p

-- two points share their x or their y
abbrev pub IsAxisAligned : GridPoint → GridPoint → Type 0
IsAxisAligned from to = (from.x ≡ to.x) ⊎ (from.y ≡ to.y)

-- p lies in the least box that contains both points
abbrev pub IsInBox : GridPoint → GridPoint → GridPoint → Type 0
IsInBox from to p = IsBetween from.x to.x p.x × IsBetween from.y to.y p.y

-- both ends of a slot are covered with this reach
abbrev pub covers_both_ends : {S : Type 0} → (S → GridPoint → ℕ → Bool) → S → GridPoint → GridPoint → ℕ → Bool
covers_both_ends covers s from to reach = covers s from reach && covers s to reach

-- where both ends of a slot along an axis are covered, each grid point within the reach of a point between them is in the shape
abbrev pub ContainsCoveredSlots : {S : Type 0} → (S → GridPoint → Type 0) → (S → GridPoint → ℕ → Bool) → Type 0
ContainsCoveredSlots {S} points covers =
    (s : S) (from to : GridPoint) (reach : ℕ) → IsAxisAligned from to → covers_both_ends covers s from to reach ≡ true → (c p : GridPoint) → IsInBox from to c → square_distance p c ≤ square reach → points s p

-- a covered centre lies between the least and the greatest x of the shape
abbrev pub CoveredIsBetween : {S : Type 0} → (S → GridPoint → ℕ → Bool) → (S → ℤ) → (S → ℤ) → Type 0
CoveredIsBetween {S} covers left right =
    (s : S) (c : GridPoint) (reach : ℕ) → covers s c reach ≡ true → (left s ≤ℤ c.x) × (c.x ≤ℤ right s)

-- left and right are the least and the greatest x of a set of points: each point lies between them, and some points have them
pub record IsExtent (points : GridPoint → Type 0) (left right : ℤ) : Type 0 where
  pub least : (p : GridPoint) → points p → left ≤ℤ p.x
  pub greatest : (p : GridPoint) → points p → p.x ≤ℤ right
  pub attains_least : (y : ℤ) × points (record { x = left; y = y })
  pub attains_greatest : (y : ℤ) × points (record { x = right; y = y })

-- for each shape, left and right are the least and the greatest x of its points
abbrev pub HasExtent : {S : Type 0} → (S → GridPoint → Type 0) → (S → ℤ) → (S → ℤ) → Type 0
HasExtent {S} points left right = (s : S) → IsExtent (points s) (left s) (right s)

-- Where a rectangle does not cover a centre, some grid point within the reach lies outside it. A disc or an obround may hold
-- all grid points within the reach of a centre that it does not cover, as its rim runs between grid points.
abbrev pub RectIsTight : Type 0
RectIsTight =
    (r : GridRect) (c : GridPoint) (reach : ℕ) → rect_covers r c reach ≡ false → (p : GridPoint) × (square_distance p c ≤ square reach) × ¬ IsInRect r p

-- the rectangle in the middle of an obround: its axis, wider across it by the radius of the ends
abbrev pub middle_rect : GridObround → GridRect
middle_rect o =
    if nat_le o.half_y o.half_x then record { centre = o.centre; half_x = (axis o).half_x; half_y = end_radius o }
    else record { centre = o.centre; half_x = end_radius o; half_y = (axis o).half_y }

-- the disc round one end of the axis: the left one, or the lower one
abbrev pub low_disc : GridObround → GridDisc
low_disc o = record { centre = record { x = o.centre.x -ℤ pos (axis o).half_x; y = o.centre.y -ℤ pos (axis o).half_y }; radius = end_radius o }

-- the disc round its other end
abbrev pub high_disc : GridObround → GridDisc
high_disc o = record { centre = record { x = o.centre.x +ℤ pos (axis o).half_x; y = o.centre.y +ℤ pos (axis o).half_y }; radius = end_radius o }

-- An obround is what the Gerber format calls one (`%ADD12O,1.0X0.5*%`), a rectangle with half circles for its shorter sides: a point is in it just where
-- it is in the rectangle in the middle or in one of the two discs.
abbrev pub ObroundIsRectangleAndDiscs : Type 0
ObroundIsRectangleAndDiscs = (o : GridObround) (p : GridPoint) → IsInObround o p ↔ (IsInRect (middle_rect o) p ⊎ IsInDisc (low_disc o) p ⊎ IsInDisc (high_disc o) p)
