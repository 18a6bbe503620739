-- Forms of holes. A form is the radius of a hole and the way from its first end to its second; a hole stands for its form.
use Rattle.std.specs.Prelude.{ℕ, pos, ◌+ℤ◌, ◌-ℤ◌, ◌<◌, List, length, get_or}
use Rattle.grid_units.specs.Points.{GridPoint, IsCoordinate}
use Rattle.grid_units.specs.Holes.{GridHole}
use Rattle.ring_rules.specs.Places.{default_hole}
use Rattle.ring_rules.specs.declared.spots.Spot.{Spot}
use Rattle.ring_rules.specs.declared.spot_list.Entry.{Entry}

-- the hole of the same form that begins at a point
abbrev pub hole_of_form : GridHole → GridPoint → GridHole
hole_of_form form from = record { from = from; to = record { x = from.x +ℤ (form.to.x -ℤ form.from.x); y = from.y +ℤ (form.to.y -ℤ form.from.y) }; radius = form.radius }

-- the form with a number
abbrev pub form_at : List GridHole → ℕ → GridHole
form_at forms n = get_or forms n default_hole.hole

-- the spot that an entry of this form stands for
abbrev pub spot_with : GridHole → Entry → Spot
spot_with form entry = record { hole = hole_of_form form entry.from; place = entry.place }

-- the spot that an entry stands for
abbrev pub spot_of : List GridHole → Entry → Spot
spot_of forms entry = spot_with (form_at forms entry.form) entry

-- an entry names one of the forms, and the second end of its hole is on the grid
pub record HasForm (forms : List GridHole) (entry : Entry) : Type 0 where
  pub listed : entry.form < length forms
  pub x : IsCoordinate (spot_of forms entry).hole.to.x
  pub y : IsCoordinate (spot_of forms entry).hole.to.y

-- the entry that stands for an index past the end of a list
abbrev pub default_entry : Entry
default_entry = record { from = record { x = pos 0; y = pos 0 }; place = 0; form = 0 }

-- so does each of some entries
abbrev pub HaveForms : List GridHole → List Entry → Type 0
HaveForms forms entries = (i : ℕ) → i < length entries → HasForm forms (get_or entries i default_entry)
