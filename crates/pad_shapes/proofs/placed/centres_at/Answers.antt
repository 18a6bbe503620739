-- The box of the shape, moved with it.
use Rattle.std.proofs.Common.{◌∙◌, sym}
use Rattle.grid_units.specs.Points.{GridPoint}
use Rattle.pad_shapes.proofs.EdgesLemmas.{high_side, low_side}
use Rattle.pad_shapes.proofs.MovedShapes.{covers-relative, relative}
use Rattle.pad_shapes.proofs.placed.centres_at.Goals as goal

pub returns : goal.returns
returns c = λ p n less e.
    let o : GridPoint = record { x = c.args.x; y = c.args.y } in
    let inside = c.centres-own.ensures.bound (relative o p) n less (sym (covers-relative o c.args.shape.now p n) ∙ e) in
    let own = c.centres-own.ensures.in_range in
    record {
      left = low_side c.args.x c.centres-own.result.left p.x c.requires.x own.left inside.left;
      right = high_side c.args.x c.centres-own.result.right p.x c.requires.x own.right inside.right;
      bottom = low_side c.args.y c.centres-own.result.bottom p.y c.requires.y own.bottom inside.bottom;
      top = high_side c.args.y c.centres-own.result.top p.y c.requires.y own.top inside.top;
    }
