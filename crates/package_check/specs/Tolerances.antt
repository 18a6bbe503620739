-- What a sound package says of the boards that are drilled for it: a tool lands near the place that the file names, and may be wider.
use Rattle.std.specs.Prelude.{◌≡◌, ◌≤◌, ◌<◌, ◌+◌, ◌*◌, ℕ, true, List, [], length, get_or}
use Rattle.std.specs.List.{AllPairs, Contains, flat_map}
use Rattle.grid_units.specs.Holes.{GridHole, GridRules}
use Rattle.grid_units.specs.Points.{GridPoint, square, square_distance}
use Rattle.grid_units.specs.Spans.{is_in_span}
use Rattle.pad_shapes.specs.Holding.{IsNearCentreLine}
use Rattle.pad_shapes.specs.WidePads.{IsInWidePad}
use Rattle.pad_shapes.specs.declared.wide_pad.WidePad.{WidePad}
use Rattle.ring_rules.specs.WithoutFindings.{IsHoleHeld}
use Rattle.ring_rules.specs.declared.finding.Drilled.{Drilled}
use Rattle.package_check.specs.Package.{FileView}
use Rattle.package_check.specs.Soundness.{IsSound}

-- a hole is drilled for a designed one: each end is at most `off` from the end that is designed, and the radius at most `wide` greater
pub record IsDrilledFor (off wide : ℕ) (designed drilled : GridHole) : Type 0 where
  pub from : square_distance drilled.from designed.from ≤ square off
  pub to : square_distance drilled.to designed.to ≤ square off
  pub radius : drilled.radius ≤ designed.radius + wide

-- no grid points of two holes, within the radius of each of its centre line, are nearer than the gap
abbrev pub AreHolesApart : ℕ → GridHole → GridHole → Type 0
AreHolesApart gap a b = (p q : GridPoint) → IsNearCentreLine a a.radius p → IsNearCentreLine b b.radius q → square gap ≤ square_distance p q

-- each plated hole, however it is drilled within these bounds, is held with this ring on each layer of its span
abbrev pub AreHeldAsDrilled : (off wide ring : ℕ) → List (List WidePad) → List Drilled → Type 0
AreHeldAsDrilled off wide ring layers holes =
    (layer : ℕ) (d : Drilled) (hole : GridHole) → layer < length layers → Contains holes d → d.plated ≡ true → is_in_span layer d.span ≡ true
    → IsDrilledFor off wide d.hole hole → IsHoleHeld IsInWidePad ring (get_or layers layer []) hole

-- any two holes, however each is drilled within these bounds, are apart by this gap
abbrev pub AreApartAsDrilled : (off wide gap : ℕ) → List Drilled → Type 0
AreApartAsDrilled off wide gap =
    AllPairs (λ a b. (first second : GridHole) → IsDrilledFor off wide a.hole first → IsDrilledFor off wide b.hole second → AreHolesApart gap first second)

-- A sound package keeps a ring and a gap within these bounds where its rules ask for as much more as drilling may take away: of a ring both bounds, of a gap both of
-- them for each of the two holes.
abbrev pub SoundTolerates : Type 0
SoundTolerates =
    (sources : List FileView) (rules : GridRules) (sound : IsSound sources rules) (off wide ring gap : ℕ)
    → ring + (off + wide) ≤ rules.ring → gap + 2 * (off + wide) ≤ rules.gap
    → AreHeldAsDrilled off wide ring sound.layers (flat_map (λ one. one) sound.drills) × AreApartAsDrilled off wide gap (flat_map (λ one. one) sound.drills)
