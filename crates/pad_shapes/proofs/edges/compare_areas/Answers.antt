-- The area is its whole part times the depth and the rest.
use Rattle.std.proofs.Common.{◌≡◌, ℕ, ◌+◌, ◌*◌, ◌-◌, ◌/◌, ◌%◌, ◌≤◌, refl, sym, arith}
use Rattle.std.proofs.lemmas.Nat.{div-add-mod', mod_below}
use Rattle.grid_units.specs.Points.{square}
use Rattle.pad_shapes.proofs.EdgesLemmas.{above, far_above, below, rests, carried}
use Rattle.pad_shapes.proofs.edges.compare_areas.Goals as goal

split : (area depth : ℕ) → area ≡ area / depth * depth + area % depth
split area depth = sym (div-add-mod' area depth)

pub returns-then-whole-gt30000000000000 : goal.returns-then-whole-gt30000000000000
returns-then-whole-gt30000000000000 c =
    let some : 1 ≤ c.args.depth = omega (arith, c.if-depth-eq0-2.false) in
    far_above c.args.area c.args.depth c.args.square_edge (c.args.area / c.args.depth) (c.args.area % c.args.depth) (split c.args.area c.args.depth) some c.requires.square_edge c.if-whole-gt30000000000000.true

pub returns-then-square_edge-square_whole : goal.returns-then-square_edge-square_whole
returns-then-square_edge-square_whole c =
    let some : 1 ≤ c.args.depth = omega (arith, c.if-depth-eq0-2.false) in
    above c.args.area c.args.depth c.args.square_edge (c.args.area / c.args.depth) (c.args.area % c.args.depth) (split c.args.area c.args.depth) some c.if-square_edge-square_whole.true

pub returns-then-double-lack : goal.returns-then-double-lack
returns-then-double-lack c =
    let some : 1 ≤ c.args.depth = omega (arith, c.if-depth-eq0-2.false) in
    let whole = c.args.area / c.args.depth in
    let lack = c.args.square_edge - whole * whole in
    let sum : c.args.square_edge ≡ whole * whole + lack = omega (arith, c.if-square_edge-square_whole.false) in
    below c.args.area c.args.depth c.args.square_edge whole (c.args.area % c.args.depth) lack (split c.args.area c.args.depth) (mod_below c.args.area c.args.depth some) sum c.if-double-lack.true

pub returns : goal.returns
returns c =
    let whole = c.args.area / c.args.depth in
    let rest = c.args.area % c.args.depth in
    let lack = c.args.square_edge - whole * whole in
    let sum : c.args.square_edge ≡ whole * whole + lack = omega (arith, c.if-square_edge-square_whole.false) in
    carried c.compare_rests.result (square c.args.area) (square c.args.depth * c.args.square_edge) (square rest + c.args.depth * ((2 * whole) * rest)) (c.args.depth * (lack * c.args.depth))
    (rests c.args.area c.args.depth c.args.square_edge whole rest lack (lack * c.args.depth) ((2 * whole) * rest) (split c.args.area c.args.depth) sum refl refl) c.compare_rests.ensures
