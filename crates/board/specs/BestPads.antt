-- The shape of a list in which a hole lies deepest: its best pad. All lengths are whole picometres.
use Rattle.std.specs.Prelude.{◌≡◌, ◌↔◌, ℕ, ◌<◌, ◌≤◌, Bool, true, false, Option, Some, None, List, [], length, get_or}
use Rattle.grid_units.specs.Points.{GridPoint}
use Rattle.grid_units.specs.Holes.{GridHole}
use Rattle.pad_shapes.specs.Shapes.{max_reach, covers_both_ends}
use Rattle.ring_rules.specs.Places.{hole_at}
use Rattle.ring_rules.specs.declared.finding.Drilled.{Drilled}
use Rattle.board.specs.declared.best.BestPad.{BestPad}

-- the best of the first `count` shapes: the first of those in which the hole lies deepest, and how deep, less than twenty metres
pub record IsDeepest {S : Type 0} (covers : S → GridPoint → ℕ → Bool) (pads : List S) (count : ℕ) (h : GridHole) (best : BestPad) : Type 0 where
  pub inside : best.pad < count
  pub in_range : best.depth < max_reach
  pub covered : (p : S) → covers_both_ends covers (get_or pads best.pad p) h.from h.to best.depth ≡ true
  pub deepest : (p : S) (k reach : ℕ) → k < count → covers_both_ends covers (get_or pads k p) h.from h.to reach ≡ true → reach ≤ best.depth
  pub first : (p : S) (k : ℕ) → k < best.pad → covers_both_ends covers (get_or pads k p) h.from h.to best.depth ≡ false

-- none of the first `count` shapes covers both ends of a hole, with any reach
abbrev pub NoneCovers : {S : Type 0} → (S → GridPoint → ℕ → Bool) → List S → ℕ → GridHole → Type 0
NoneCovers {S} covers pads count h = (p : S) (k reach : ℕ) → k < count → covers_both_ends covers (get_or pads k p) h.from h.to reach ≡ false

-- a hole is bare: no shape of the list covers both its ends, with any reach
abbrev pub IsBare : {S : Type 0} → (S → GridPoint → ℕ → Bool) → List S → GridHole → Type 0
IsBare covers pads h = NoneCovers covers pads (length pads) h

-- the best shape of a list for a hole, or none where the hole is bare
abbrev pub IsBestPad : {S : Type 0} → (S → GridPoint → ℕ → Bool) → List S → GridHole → Option BestPad → Type 0
IsBestPad covers pads h None = IsBare covers pads h
IsBestPad covers pads h (Some best) = IsDeepest covers pads (length pads) h best

-- the best shape of a list for each of some holes, in their order
pub record AreBestPads {S : Type 0} (covers : S → GridPoint → ℕ → Bool) (pads : List S) (holes : List Drilled) (bests : List (Option BestPad)) : Type 0 where
  pub size : length bests ≡ length holes
  pub each : (k : ℕ) → k < length holes → IsBestPad covers pads (hole_at holes k) (get_or bests k None)

-- the best shape on each layer for each of some holes, layer by layer
pub record AreBestPadsByLayer {S : Type 0} (covers : S → GridPoint → ℕ → Bool) (layers : List (List S)) (holes : List Drilled) (bests : List (List (Option BestPad))) : Type 0 where
  pub size : length bests ≡ length layers
  pub each : (layer : ℕ) → layer < length layers → AreBestPads covers (get_or layers layer []) holes (get_or bests layer [])

-- whether each of some holes is bare, in their order
pub record AreBare {S : Type 0} (covers : S → GridPoint → ℕ → Bool) (pads : List S) (holes : List Drilled) (bare : List Bool) : Type 0 where
  pub size : length bare ≡ length holes
  pub each : (k : ℕ) → k < length holes → (get_or bare k false ≡ true) ↔ IsBare covers pads (hole_at holes k)
