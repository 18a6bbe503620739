-- Whether the coordinates of a drill file's holes are off by a factor, in whole picometres (docs/FORMATS.md, Measure).
use Rattle.std.specs.Prelude.{◌≡◌, ◌↔◌, ℕ, ℤ, pos, ◌*◌, ◌<◌, ◌≤◌, ◌*ℤ◌, ◌≤ℤ◌, Bool, true, false, not, ◌&&◌, ◌||◌, nat_le, unsigned_abs, Option, Some, None, List, [], ◌∷◌, length, get_or, count_by, codes}
use Rattle.std.specs.Int.{int_div_euclid}
use Rattle.std.specs.List.{All, list_any, slice_range}
use Rattle.grid_units.specs.Points.{GridPoint, max_coordinate}
use Rattle.grid_units.specs.Holes.{GridHole, is_round}
use Rattle.pad_shapes.specs.WidePads.{wide_pad_covers}
use Rattle.pad_shapes.specs.declared.wide_pad.WidePad.{WidePad}
use Rattle.ring_rules.specs.declared.finding.Drilled.{Drilled}
use Rattle.board.specs.BestPads.{IsBare}
use Rattle.report.specs.declared.UnitFactor.{UnitFactor}
use Rattle.report.specs.declared.UnitMistake.{UnitMistake}
use Rattle.report.specs.declared.mistakes.FileRange.{FileRange}
use Rattle.report.specs.declared.UnitFactor.TheVariants as kind

-- the numerator of a factor: 254 of 25.4, which is 254/10
abbrev pub multiplier : UnitFactor → ℕ
multiplier kind.Ten = 10
multiplier kind.Tenth = 1
multiplier kind.Inch = 254
multiplier kind.PerInch = 10

-- the denominator of a factor: 10 of 25.4, which is 254/10
abbrev pub divisor : UnitFactor → ℕ
divisor kind.Ten = 1
divisor kind.Tenth = 10
divisor kind.Inch = 10
divisor kind.PerInch = 254

-- how a factor is written: `25.4`
abbrev pub factor_word : UnitFactor → List ℕ
factor_word kind.Ten = codes "10"
factor_word kind.Tenth = codes "0.1"
factor_word kind.Inch = codes "25.4"
factor_word kind.PerInch = codes "1/25.4"

-- a coordinate times a factor, rounded down: 25 pm by 1/10 is 2 pm, -25 pm is -3 pm
abbrev pub scaled_coordinate : UnitFactor → ℤ → ℤ
scaled_coordinate factor z = int_div_euclid (pos (multiplier factor) *ℤ z) (pos (divisor factor))

-- rounded down: a whole number is at most a coordinate times a factor just where it is at most the scaled coordinate
abbrev pub IsRoundedDown : Type 0
IsRoundedDown = (factor : UnitFactor) (z whole : ℤ) → ((pos (divisor factor) *ℤ whole) ≤ℤ (pos (multiplier factor) *ℤ z)) ↔ (whole ≤ℤ scaled_coordinate factor z)

-- a point with both coordinates times a factor, rounded down
abbrev pub scaled_point : UnitFactor → GridPoint → GridPoint
scaled_point factor p = record { x = scaled_coordinate factor p.x; y = scaled_coordinate factor p.y }

-- no coordinate is beyond ten metres
abbrev pub is_on_grid : GridPoint → Bool
is_on_grid p = nat_le (unsigned_abs p.x) max_coordinate && nat_le (unsigned_abs p.y) max_coordinate

-- no pad covers a point with a reach of 0, and so with none
abbrev pub is_uncovered : List WidePad → GridPoint → Bool
is_uncovered pads p = not (list_any (λ pad. wide_pad_covers pad p 0) pads)

-- a round hole is bare just where no pad covers its centre
abbrev pub BareIsUncovered : Type 0
BareIsUncovered = (pads : List WidePad) (hole : GridHole) → is_round hole ≡ true → IsBare wide_pad_covers pads hole ↔ (is_uncovered pads hole.from ≡ true)

-- a hole is round and bare
abbrev pub is_bare : List WidePad → Drilled → Bool
is_bare pads d = is_round d.hole && is_uncovered pads d.hole.from

-- a hole is round and would be bare with its coordinates times a factor; it counts as bare where its place would be beyond ten metres
abbrev pub is_bare_with : List WidePad → UnitFactor → Drilled → Bool
is_bare_with pads factor d = is_round d.hole && (not (is_on_grid (scaled_point factor d.hole.from)) || is_uncovered pads (scaled_point factor d.hole.from))

-- how many of some holes are round
abbrev pub round_count : List Drilled → ℕ
round_count holes = count_by (λ d. is_round d.hole) holes

-- how many of some holes are round and bare
abbrev pub bare_count : List WidePad → List Drilled → ℕ
bare_count pads holes = count_by (is_bare pads) holes

-- how many of some holes are round and would be bare with their coordinates times a factor
abbrev pub bare_count_with : List WidePad → List Drilled → UnitFactor → ℕ
bare_count_with pads holes factor = count_by (is_bare_with pads factor) holes

-- the factors in the order in which they are tried: 10, 1/10, 25.4 and 1/25.4
abbrev pub factors : List UnitFactor
factors = kind.Ten ∷ kind.Tenth ∷ kind.Inch ∷ kind.PerInch ∷ []

-- the first of some factors with the fewest: fewer than each factor before it, and no more than each of them
pub record IsFirstFewest (count : UnitFactor → ℕ) (tried : List UnitFactor) (factor : UnitFactor) : Type 0 where
  pub place : ℕ
  pub inside : place < length tried
  pub at : (d : UnitFactor) → get_or tried place d ≡ factor
  pub before : (d : UnitFactor) (k : ℕ) → k < place → count factor < count (get_or tried k d)
  pub fewest : (d : UnitFactor) (k : ℕ) → k < length tried → count factor ≤ count (get_or tried k d)

-- The line of a drill file's holes among some pads. More than half of the round holes are bare; by the first of the factors that
-- leave the fewest bare, less than half of these would be.
pub record IsUnitMistake (pads : List WidePad) (holes : List Drilled) (line : UnitMistake) : Type 0 where
  pub bare : line.bare ≡ bare_count pads holes
  pub most : round_count holes < 2 * line.bare
  pub first : IsFirstFewest (bare_count_with pads holes) factors line.factor
  pub then : line.then ≡ bare_count_with pads holes line.factor
  pub few : 2 * line.then < line.bare

-- the line of a drill file, or none where its holes are not so; in the text: `scale drill=3 bare=40 factor=25.4 then=0`
abbrev pub IsUnitMistakeOrNone : List WidePad → List Drilled → ℕ → Option UnitMistake → Type 0
IsUnitMistakeOrNone pads holes drill None = (line : UnitMistake) → IsUnitMistake pads holes line → ⊥
IsUnitMistakeOrNone pads holes drill (Some line) = IsUnitMistake pads holes line × (line.drill ≡ drill)

-- the holes of a drill file, as a stretch of the list of all holes
abbrev pub holes_in : List Drilled → FileRange → List Drilled
holes_in holes file = slice_range holes file.start file.end

-- the holes of each of these files are a stretch of the list
abbrev pub AreFileRanges : List Drilled → List FileRange → Type 0
AreFileRanges holes files = All (λ file. (file.start ≤ file.end) × (file.end ≤ length holes)) files

-- the line of each of some drill files, where it has one, in their order
pub record AreUnitMistakes (pads : List WidePad) (holes : List Drilled) (files : List FileRange) (lines : List (Option UnitMistake)) : Type 0 where
  pub size : length lines ≡ length files
  pub each : (k : ℕ) (file : FileRange) (line : Option UnitMistake) → k < length files → IsUnitMistakeOrNone pads (holes_in holes (get_or files k file)) (get_or files k file).drill (get_or lines k line)

-- what a file's role is and what its comments say, by whether its role calls its holes plated
abbrev pub conflict_words : Bool → List ℕ
conflict_words true = codes "its role is plated, but its comments say that holes are not plated"
conflict_words false = codes "its role is unplated, but its comments say that holes are plated"
