use Rattle.std.proofs.Common.{◌≡◌, ◌∙◌, ◌-ℤ◌, ℕ, Option, Some, None, w64, false, sym, subst}
use Rattle.std.specs.Prelude.{MatchOption}
use Rattle.std.proofs.lemmas.Int.{to_z-of_z}
use Rattle.grid_units.specs.Points.{GridPoint}
use Rattle.pad_shapes.specs.Placed.{moved_shape}
use Rattle.pad_shapes.specs.Rounded.{GridRounded, IsGreatestReach, rounded_covers}
use Rattle.pad_shapes.proofs.MovedShapes.{covers-relative, relative}
use Rattle.pad_shapes.proofs.placed.greatest_reach_at.Goals as goal

-- the reach of a moved shape is that of the shape relative to the offset
reach_there : (o : GridPoint) (s : GridRounded) (p : GridPoint) (answer : Option ℕ) → MatchOption answer (rounded_covers s (relative o p) 0 ≡ false) (IsGreatestReach s (relative o p))
    → MatchOption answer (rounded_covers (moved_shape o s) p 0 ≡ false) (IsGreatestReach (moved_shape o s) p)
reach_there o s p None h = covers-relative o s p 0 ∙ h
reach_there o s p (Some reach) h = record {
  covered = covers-relative o s p reach ∙ h.covered;
  in_range = h.in_range;
  greatest = λ n t. h.greatest n (sym (covers-relative o s p n) ∙ t);
}

pub returns : goal.returns
returns c =
    let o : GridPoint = record { x = c.args.x; y = c.args.y } in
    let there : c.to.result ≡ relative o c.args.hole = c.to.ensures ∙ (λ i. record { x = c.args.hole.x -ℤ to_z-of_z w64 c.args.x c.ranges.x i; y = c.args.hole.y -ℤ to_z-of_z w64 c.args.y c.ranges.y i }) in
    reach_there o c.args.shape.now c.args.hole c.reach_round.result
    (subst (λ (p : GridPoint). MatchOption c.reach_round.result (rounded_covers c.args.shape.now p 0 ≡ false) (IsGreatestReach c.args.shape.now p)) there c.reach_round.ensures)
