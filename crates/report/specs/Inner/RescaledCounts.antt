-- How bare holes are counted, those of all files at once.
use Rattle.std.specs.Prelude.{◌≡◌, ℕ, ◌+◌, ◌*◌, ◌<◌, ◌≤◌, ◌++◌, ◌⊎◌, ◌==◌, ◌&&◌, true, false, Option, Some, None, List, [], ◌∷◌, length, get_or, if◌then◌else◌}
use Rattle.std.specs.List.{All, slice_range}
use Rattle.grid_units.specs.Points.{GridPoint}
use Rattle.grid_units.specs.Holes.{is_round}
use Rattle.pad_shapes.specs.declared.wide_pad.WidePad.{WidePad}
use Rattle.ring_rules.specs.declared.finding.Drilled.{Drilled}
use Rattle.report.specs.declared.UnitFactor.{UnitFactor}
use Rattle.report.specs.declared.UnitMistake.{UnitMistake}
use Rattle.report.specs.declared.counts.RescaledHoles.{RescaledHoles}
use Rattle.report.specs.declared.counts.HoleRange.{HoleRange}
use Rattle.report.specs.declared.fewest.Fewest.{Fewest}
use Rattle.report.specs.declared.fewest.Tried.{Tried}
use Rattle.report.specs.declared.mistakes.Suspect.{Suspect}
use Rattle.report.specs.declared.mistakes.FileRange.{FileRange}
use Rattle.report.specs.UnitMistakes.{IsFirstFewest, IsUnitMistake, bare_count, bare_count_with, holes_in, is_on_grid, round_count, scaled_point}

-- a point with its coordinates times a factor, or none where one of them would be beyond ten metres
abbrev pub IsScaledPoint : UnitFactor → GridPoint → Option GridPoint → Type 0
IsScaledPoint factor p None = is_on_grid (scaled_point factor p) ≡ false
IsScaledPoint factor p (Some q) = (is_on_grid (scaled_point factor p) ≡ true) × (q ≡ scaled_point factor p)

-- a round hole with its coordinates times a factor; none for a slot, or where its place would be beyond ten metres
abbrev pub IsRescaled : UnitFactor → Drilled → Option Drilled → Type 0
IsRescaled factor d None = (is_round d.hole && is_on_grid (scaled_point factor d.hole.from)) ≡ false
IsRescaled factor d (Some x) = (is_round d.hole ≡ true) × (is_on_grid (scaled_point factor d.hole.from) ≡ true) × (x.hole.from ≡ scaled_point factor d.hole.from) × (x.hole.to ≡ scaled_point factor d.hole.from)

-- The round holes of a list that have a place by a factor, at these places. The bare ones among them and the round holes without
-- a place are those that would be bare.
pub record AreRescaled (factor : UnitFactor) (holes rescaled : List Drilled) : Type 0 where
  pub bare : (pads : List WidePad) → bare_count pads rescaled + round_count holes ≡ bare_count_with pads holes factor + length rescaled
  pub few : length rescaled ≤ round_count holes

-- the first of some factors with the fewest bare holes, and how many these are
pub record IsFewest (count : UnitFactor → ℕ) (tried : List UnitFactor) (fewest : Fewest) : Type 0 where
  pub bare : fewest.bare ≡ count fewest.factor
  pub first : IsFirstFewest count tried fewest.factor

-- the holes of a stretch of a list
abbrev pub holes_of : List Drilled → HoleRange → List Drilled
holes_of holes range = slice_range holes range.start range.end

-- each of these stretches lies in the list
abbrev pub AreHoleRanges : List Drilled → List HoleRange → Type 0
AreHoleRanges holes ranges = All (λ range. (range.start ≤ range.end) × (range.end ≤ length holes)) ranges

-- the round holes of one more stretch at their new places were added after those of the others, with their end
pub record AddsRange (factor : UnitFactor) (own : List Drilled) (old new : RescaledHoles) : Type 0 where
  pub rescaled : List Drilled
  pub are : AreRescaled factor own rescaled
  pub holes : new.holes.items ≡ old.holes.items ++ rescaled
  pub bounds : new.bounds.items ≡ old.bounds.items ++ length new.holes.items ∷ []

-- the round holes of a stretch at their new places are those from one bound to the next
pub record IsRescaledRange (factor : UnitFactor) (own rescaled : List Drilled) (from to : ℕ) : Type 0 where
  pub ordered : from ≤ to
  pub inside : to ≤ length rescaled
  pub are : AreRescaled factor own (slice_range rescaled from to)

-- the round holes of all stretches at their new places, one stretch after the other
pub record AreRescaledRanges (factor : UnitFactor) (holes : List Drilled) (ranges : List HoleRange) (all : RescaledHoles) : Type 0 where
  pub size : length all.bounds.items ≡ length ranges + 1
  pub last : get_or all.bounds.items (length ranges) 0 ≡ length all.holes.items
  pub each : (k : ℕ) (d : HoleRange) → k < length ranges → IsRescaledRange factor (holes_of holes (get_or ranges k d)) all.holes.items (get_or all.bounds.items k 0) (get_or all.bounds.items (k + 1) 0)

-- how many holes of each stretch are round and would be bare by a factor
pub record AreCounted (pads : List WidePad) (holes : List Drilled) (ranges : List HoleRange) (factor : UnitFactor) (counts : List ℕ) : Type 0 where
  pub size : length counts ≡ length ranges
  pub each : (k : ℕ) (s : HoleRange) (n : ℕ) → k < length ranges → get_or counts k n ≡ bare_count_with pads (holes_of holes (get_or ranges k s)) factor

-- the holes of a stretch that a further factor is tried at: none where none would be bare by a factor before
abbrev pub open_part : Tried → HoleRange
open_part tried = record { start = tried.range.start; end = if tried.fewest.bare == 0 then tried.range.start else tried.range.end }

-- a stretch with the first of some factors by which the fewest of its holes would be bare
pub record IsTried (pads : List WidePad) (holes : List Drilled) (factors : List UnitFactor) (stretch : HoleRange) (tried : Tried) : Type 0 where
  pub range : tried.range ≡ stretch
  pub fewest : IsFewest (bare_count_with pads (holes_of holes stretch)) factors tried.fewest

-- the same of each stretch, in their order
pub record AreTried (pads : List WidePad) (holes : List Drilled) (ranges : List HoleRange) (factors : List UnitFactor) (tried : List Tried) : Type 0 where
  pub size : length tried ≡ length ranges
  pub each : (k : ℕ) (s : HoleRange) (t : Tried) → k < length ranges → IsTried pads holes factors (get_or ranges k s) (get_or tried k t)

-- more than half of the round holes of a file are bare, so all its holes are to be tried at other places
pub record IsSuspected (pads : List WidePad) (own : List Drilled) (file : FileRange) (suspect : Suspect) : Type 0 where
  pub start : suspect.range.start ≡ file.start
  pub end : suspect.range.end ≡ file.end
  pub bare : suspect.bare ≡ bare_count pads own
  pub most : round_count own < 2 * suspect.bare

-- a file has no line, so none of its holes is to be tried at other places
pub record IsUnsuspected (pads : List WidePad) (own : List Drilled) (suspect : Suspect) : Type 0 where
  pub bare : suspect.bare ≡ 0
  pub none : (line : UnitMistake) → IsUnitMistake pads own line → ⊥

-- which holes of a file are to be tried at other places, as a stretch of the list: all of them, or none where the file has no line
pub record IsSuspect (pads : List WidePad) (holes : List Drilled) (file : FileRange) (suspect : Suspect) : Type 0 where
  pub ordered : suspect.range.start ≤ suspect.range.end
  pub inside : suspect.range.end ≤ length holes
  pub either : IsSuspected pads (holes_in holes file) file suspect ⊎ IsUnsuspected pads (holes_in holes file) suspect

-- which holes of each file are to be tried at other places
pub record AreSuspects (pads : List WidePad) (holes : List Drilled) (files : List FileRange) (suspects : List Suspect) : Type 0 where
  pub size : length suspects ≡ length files
  pub each : (k : ℕ) (f : FileRange) (d : Suspect) → k < length files → IsSuspect pads holes (get_or files k f) (get_or suspects k d)
