-- The polygon that is moved is convex as it was.
use Rattle.std.proofs.Common.{rules, w64, FitsSigned, to_z, of_z, ◌≡◌, ◌∙◌, pos, map}
use Rattle.std.proofs.lemmas.Int.{to_z-of_z}
use Rattle.grid_units.specs.Points.{GridPoint}
use Rattle.pad_shapes.specs.Rounded.{GridRounded}
use Rattle.pad_shapes.specs.Placed.{moved_point}
use Rattle.pad_shapes.proofs.PlacedLemmas.{rounded_there}
use Rattle.pad_shapes.proofs.placed.moved_shape.Goals as goal

pub unwrap-requires : goal.unwrap-requires
unwrap-requires c =
    let s : GridRounded = c.args.shape.now in
    let o : GridPoint = record { x = c.args.x; y = c.args.y } in
    let fits : FitsSigned w64 c.radius.result = search rules in
    let x : to_z w64 (of_z w64 c.args.x) ≡ c.args.x = to_z-of_z w64 c.args.x c.ranges.x in
    let y : to_z w64 (of_z w64 c.args.y) ≡ c.args.y = to_z-of_z w64 c.args.y c.ranges.y in
    let first : c.moved_point-first.result ≡ moved_point o s.first = c.moved_point-first.ensures ∙ (λ i. moved_point (record { x = x i; y = y i }) (c.first.ensures i)) in
    let others : c.in_ok-others.others.items ≡ map (moved_point o) s.others = c.in_ok-others.ensures ∙ (λ i. map (moved_point (record { x = x i; y = y i })) (c.others.ensures.value i)) in
    let radius : to_z w64 (of_z w64 c.radius.result) ≡ pos s.radius = to_z-of_z w64 c.radius.result fits ∙ c.radius.ensures.value in
    c.new.ensures.valid.1 (rounded_there o s c.moved_point-first.result c.in_ok-others.others.items (to_z w64 (of_z w64 c.radius.result)) first others radius c.others.ensures.in_range)
