-- A pad at another point.
use Rattle.std.specs.Prelude.{pos}
use Rattle.grid_units.specs.Points.{GridPoint}
use Rattle.pad_shapes.specs.declared.pad.Pad.TheVariants as pads
use Rattle.layer_state.specs.declared.flash.What.{What}
use Rattle.layer_state.specs.declared.flash.Flash.{Flash}
use Rattle.layer_state.specs.declared.flash.What.TheVariants as what

-- what a flash leaves, moved to another point: a pad changes its centre, anything else stays as it is
abbrev pub moved_what : GridPoint → What → What
moved_what p (what.Pad (pads.Disc d)) = what.Pad (pads.Disc (record { centre = p; radius = d.radius }))
moved_what p (what.Pad (pads.Rect r)) = what.Pad (pads.Rect (record { centre = p; half_x = r.half_x; half_y = r.half_y }))
moved_what p (what.Pad (pads.Obround o)) = what.Pad (pads.Obround (record { centre = p; half_x = o.half_x; half_y = o.half_y }))
moved_what p (what.Other why) = what.Other why

-- the flash that leaves this, moved to a point
abbrev pub flash_moved : What → GridPoint → Flash
flash_moved what p = record { at = p; what = moved_what p what }

-- the point (0, 0)
abbrev pub origin : GridPoint
origin = record { x = pos 0; y = pos 0 }
