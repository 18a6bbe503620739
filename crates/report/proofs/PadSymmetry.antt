-- A pad reaches as far on each side of its middle.
use Rattle.report.proofs.Common.{◌≡◌, ◌+◌, ◌∙◌, ℕ, ℤ, Bool, ap₂, sym, arith, pos, ◌+ℤ◌, ◌-ℤ◌, nat_le, unsigned_abs, GridPoint, abs_diff, square, GridHole, covers_both_ends, end_radius, half_apart, lower_end_at, upper_end_at}
use Rattle.std.specs.Prelude.{◌-◌, ◌&&◌}
use Rattle.std.proofs.Math.Bool.{and_self}
use Rattle.pad_shapes.specs.Pads.{pad_covers}
use Rattle.pad_shapes.specs.declared.pad.Pad.{Pad}
use Rattle.pad_shapes.specs.declared.pad.Pad.TheVariants.{Disc, Rect, Obround}
use Rattle.board.specs.Depths.{pad_middle}

-- a pad covers both or neither of two points as far from its middle along each axis
covers_alike : (pad : Pad) (a b : GridPoint) (reach : ℕ) → abs_diff a.x (pad_middle pad).x ≡ abs_diff b.x (pad_middle pad).x → abs_diff a.y (pad_middle pad).y ≡ abs_diff b.y (pad_middle pad).y
    → pad_covers pad a reach ≡ pad_covers pad b reach
covers_alike (Disc d) a b reach along_x along_y = ap₂ (λ (x y : ℕ). nat_le reach d.radius && nat_le (square x + square y) (square (d.radius - reach))) along_x along_y
covers_alike (Rect r) a b reach along_x along_y = ap₂ (λ (x y : ℕ). nat_le (x + reach) r.half_x && nat_le (y + reach) r.half_y) along_x along_y
covers_alike (Obround o) a b reach along_x along_y =
    ap₂ (λ (x y : ℕ). nat_le reach (end_radius o) && nat_le (square (x - (o.half_x - end_radius o)) + square (y - (o.half_y - end_radius o))) (square (end_radius o - reach))) along_x along_y

below : (z : ℤ) (n : ℕ) → unsigned_abs ((z -ℤ pos n) -ℤ z) ≡ n
below z n = first_of (omega arith, grind arith)

above : (z : ℤ) (n : ℕ) → unsigned_abs ((z +ℤ pos n) -ℤ z) ≡ n
above z n = first_of (omega arith, grind arith)

-- with the middle of a hole at that of a pad, the pad covers both ends of the hole or neither
pub ends_alike : (pad : Pad) (h : GridHole) (at : GridPoint) (reach : ℕ) → abs_diff at.x (pad_middle pad).x ≡ half_apart h.from.x h.to.x → abs_diff at.y (pad_middle pad).y ≡ half_apart h.from.y h.to.y
    → pad_covers pad at reach ≡ covers_both_ends pad_covers pad (lower_end_at h (pad_middle pad)) (upper_end_at h (pad_middle pad)) reach
ends_alike pad h at reach along_x along_y =
    let middle = pad_middle pad in
    let x = half_apart h.from.x h.to.x in
    let y = half_apart h.from.y h.to.y in
    let lower = covers_alike pad at (lower_end_at h middle) reach (along_x ∙ sym (below middle.x x)) (along_y ∙ sym (below middle.y y)) in
    let upper = covers_alike pad at (upper_end_at h middle) reach (along_x ∙ sym (above middle.x x)) (along_y ∙ sym (above middle.y y)) in
    sym (and_self (pad_covers pad at reach)) ∙ ap₂ (λ (a b : Bool). a && b) lower upper
