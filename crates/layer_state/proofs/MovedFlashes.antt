-- What is flashed at a point is what is flashed at the origin, moved there.
use Rattle.layer_state.proofs.Common.{◌≡◌, ℤ, Bool, true, false, if◌then◌else◌, List, map, Option, None, Some, refl, option_map_or, find, GridPoint, GraphicsState, what_at, shape_at, rect_at, obround_at, swaps_sides, rules_out_pad, why_order, current_of, current_unit, flash_at, moved_what, origin, flash_moved}
use Rattle.grid_units.specs.declared.lengths.Unit.{Unit as Units}
use Rattle.pad_shapes.specs.declared.pad.Pad.TheVariants as pads
use Rattle.layer_state.specs.declared.aperture.Aperture.{Aperture}
use Rattle.layer_state.specs.declared.aperture.Aperture.TheVariants as aperture
use Rattle.pad_shapes.specs.declared.row.Why.{Why}
use Rattle.layer_state.specs.declared.flash.What.TheVariants as what

shape_moved : (p : GridPoint) (unit : Units) (turn : ℤ) (shape : Aperture) → moved_what p (shape_at origin unit turn shape) ≡ shape_at p unit turn shape
shape_moved p unit turn (aperture.Circle diameter holed) = refl
shape_moved p unit turn (aperture.Rectangle width height holed) = by (swaps_sides turn)
  where
    by : (b : Bool) → moved_what p (what.Pad (pads.Rect (if b then rect_at origin unit height width else rect_at origin unit width height))) ≡ what.Pad (pads.Rect (if b then rect_at p unit height width else rect_at p unit width height))
    by true = refl
    by false = refl
shape_moved p unit turn (aperture.Obround width height holed) = by (swaps_sides turn)
  where
    by : (b : Bool) → moved_what p (what.Pad (pads.Obround (if b then obround_at origin unit height width else obround_at origin unit width height))) ≡ what.Pad (pads.Obround (if b then obround_at p unit height width else obround_at p unit width height))
    by true = refl
    by false = refl
shape_moved p unit turn aperture.Polygon = refl
shape_moved p unit turn aperture.Macro = refl

or_moved : (o : Option Why) (p : GridPoint) (unit : Units) (turn : ℤ) (shape : Aperture) → moved_what p (option_map_or what.Other o (shape_at origin unit turn shape)) ≡ option_map_or what.Other o (shape_at p unit turn shape)
or_moved None p unit turn shape = shape_moved p unit turn shape
or_moved (Some why) p unit turn shape = refl

pub what_moved : (p : GridPoint) (unit : Units) (scale turn : ℤ) (shape : Aperture) → moved_what p (what_at origin unit scale turn shape) ≡ what_at p unit scale turn shape
what_moved p unit scale turn shape = or_moved (find (rules_out_pad shape scale turn) why_order) p unit turn shape

-- the flashes at some points are one flash, moved to each of them
pub flashes_moved : (s : GraphicsState) (shape : Aperture) (ps : List GridPoint) → map (flash_moved (what_at origin (current_unit (current_of s)) s.scale s.turn shape)) ps ≡ map (flash_at s shape) ps
flashes_moved s shape ps = λ i. map (λ (p : GridPoint). record { at = p; what = what_moved p (current_unit (current_of s)) s.scale s.turn shape i }) ps
