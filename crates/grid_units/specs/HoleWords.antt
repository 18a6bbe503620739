-- The words for holes: which file drills one, its diameter, and where it is. Lengths are whole picometres, printed in millimetres.
use Rattle.std.specs.Prelude.{ℕ, ℤ, pos, ◌*◌, ◌++◌, List, [], codes, get_or, if◌then◌else◌}
use Rattle.grid_units.specs.Holes.{GridHole, is_round}
use Rattle.grid_units.specs.Points.{GridPoint}
use Rattle.grid_units.specs.LengthWords.{short_millimetres}

-- the name of a file of the package, by its index from 0; empty where it has none
abbrev pub name_of : List (List ℕ) → ℕ → List ℕ
name_of names file = get_or names file []

-- two lengths with words between: `0.15, gap 0.25`
unfoldable pub two_lengths : ℤ → List ℕ → ℤ → List ℕ
two_lengths first between second = short_millimetres first ++ (between ++ short_millimetres second)

-- a point: `142.24,-97.79`
abbrev pub point_words : GridPoint → List ℕ
point_words at = two_lengths at.x (codes ",") at.y

-- the centre of a round hole, or both ends of a slot: `0,0 to 2,0`
abbrev pub ends_words : GridHole → List ℕ
ends_words hole = if is_round hole then point_words hole.from else point_words hole.from ++ (codes " to " ++ point_words hole.to)

-- a hole's diameter and where it is: `0.75 at 142.24,-97.79`
unfoldable pub drilled_words : GridHole → List ℕ
drilled_words hole = short_millimetres (pos (2 * hole.radius)) ++ (codes " at " ++ ends_words hole)
