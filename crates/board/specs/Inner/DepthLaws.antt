-- Proofs of the law that each shape with a depth obeys. What they prove is stated in Depths.antt.
use Rattle.std.proofs.Common.{◌≡◌, ℕ, ◌+◌, ◌-◌, ◌*◌, ◌≤◌, true, arith}
use Rattle.std.specs.Prelude.{◌&&◌, nat_le}
use Rattle.std.proofs.lemmas.Bool.Decides.{nat_tests}
use Rattle.grid_units.specs.Points.{abs_diff, square, square_distance}
use Rattle.grid_units.proofs.TriangleInequalities.{square-le}
use Rattle.pad_shapes.specs.Shapes.{end_radius, square_axis_distance, disc_covers, rect_covers, obround_covers}
use Rattle.pad_shapes.specs.Pads.{pad_covers}
use Rattle.pad_shapes.specs.declared.pad.Pad.TheVariants.{Disc, Rect, Obround}
use Rattle.pad_shapes.specs.Rounded.{rounded_covers}
use Rattle.pad_shapes.specs.Inner.RoundedLaws.{covers_less}
use Rattle.pad_shapes.specs.WidePads.{wide_pad_covers}
use Rattle.pad_shapes.specs.declared.wide_pad.WidePad.TheVariants.{Plain, Rounded}
use Rattle.board.specs.Depths.{CoversLess}

-- two tests that both passed
pub both_le : (a b c d : ℕ) → (nat_le a b && nat_le c d) ≡ true → (a ≤ b) × (c ≤ d)
both_le a b c d e = (grind (arith, nat_tests), grind (arith, nat_tests))

pub le_both : (a b c d : ℕ) → a ≤ b → c ≤ d → (nat_le a b && nat_le c d) ≡ true
le_both a b c d h k = grind (arith, nat_tests)

-- within a lesser reach of a circle
round_less : (radius far less reach : ℕ) → less ≤ reach → (nat_le reach radius && nat_le far (square (radius - reach))) ≡ true → (nat_le less radius && nat_le far (square (radius - less))) ≡ true
round_less radius far less reach h e =
    let t = both_le reach radius far (square (radius - reach)) e in
    let wider : (radius - reach) * (radius - reach) ≤ (radius - less) * (radius - less) = square-le (radius - reach) (radius - less) (omega (arith, h)) in
    le_both less radius far (square (radius - less)) (omega (arith, h, t.0)) (omega (arith, t.1, wider))

pub disc_covers_less : CoversLess disc_covers
disc_covers_less d c less reach h e = round_less d.radius (square_distance c d.centre) less reach h e

pub rect_covers_less : CoversLess rect_covers
rect_covers_less r c less reach h e =
    let t = both_le (abs_diff c.x r.centre.x + reach) r.half_x (abs_diff c.y r.centre.y + reach) r.half_y e in
    le_both (abs_diff c.x r.centre.x + less) r.half_x (abs_diff c.y r.centre.y + less) r.half_y (omega (arith, t.0, h)) (omega (arith, t.1, h))

pub obround_covers_less : CoversLess obround_covers
obround_covers_less o c less reach h e = round_less (end_radius o) (square_axis_distance o c) less reach h e

pub pad_covers_less : CoversLess pad_covers
pad_covers_less (Disc d) = disc_covers_less d
pad_covers_less (Rect r) = rect_covers_less r
pad_covers_less (Obround o) = obround_covers_less o

pub rounded_covers_less : CoversLess rounded_covers
rounded_covers_less r c less reach h e = covers_less r c reach less h e

pub wide_pad_covers_less : CoversLess wide_pad_covers
wide_pad_covers_less (Plain pad) = pad_covers_less pad
wide_pad_covers_less (Rounded rounded) = rounded_covers_less rounded
