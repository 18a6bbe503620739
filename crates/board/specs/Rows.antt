-- The rings that some holes have on one layer. Holes are named by their places in the list of all holes. All lengths are whole picometres.
use Rattle.std.specs.Prelude.{◌≡◌, ℕ, ℤ, pos, ◌<◌, ◌-ℤ◌, ◌≤ℤ◌, ◌<ℤ◌, Bool, true, false, if◌then◌else◌, Option, Some, None, List, length, get_or, count_by}
use Rattle.grid_units.specs.Points.{GridPoint}
use Rattle.grid_units.specs.Holes.{GridHole}
use Rattle.grid_units.specs.declared.profile.Profile.{Profile}
use Rattle.ring_rules.specs.Findings.{is_refused_slot}
use Rattle.ring_rules.specs.Places.{hole_at}
use Rattle.ring_rules.specs.declared.finding.Drilled.{Drilled}
use Rattle.board.specs.BestPads.{AreBestPads}
use Rattle.board.specs.Meets.{IsRingOf}
use Rattle.board.specs.declared.best.BestPad.{BestPad}
use Rattle.board.specs.declared.row.RowLeast.{RowLeast}
use Rattle.board.specs.declared.row.RingRow.{RingRow}

-- the ring of a hole by its best pad: how deep it lies there, less its radius; none without a best pad, or of a slot that the profile refuses
abbrev pub ring_from_best : Profile → Option BestPad → GridHole → Option ℤ
ring_from_best profile None hole = None
ring_from_best profile (Some best) hole = if is_refused_slot profile hole then None else Some (pos best.depth -ℤ pos hole.radius)

-- the ring of the hole at a place, or none
abbrev pub ring_at : Profile → List (Option BestPad) → List Drilled → ℕ → Option ℤ
ring_at profile bests holes k = ring_from_best profile (get_or bests k None) (hole_at holes k)

-- a hole has no best pad, so it is bare
abbrev pub has_no_best_pad : Option BestPad → Bool
has_no_best_pad None = true
has_no_best_pad (Some best) = false

-- a hole has no ring
abbrev pub has_no_ring : Option ℤ → Bool
has_no_ring None = true
has_no_ring (Some ring) = false

-- the least ring of the first `count` chosen holes, and the first of them that has it
pub record IsLeastRing (profile : Profile) (bests : List (Option BestPad)) (holes : List Drilled) (chosen : List ℕ) (count : ℕ) (held : RowLeast) : Type 0 where
  pub i : ℕ
  pub inside : i < count
  pub there : get_or chosen i 0 ≡ held.hole
  pub has : ring_at profile bests holes held.hole ≡ Some held.ring
  pub least : (j : ℕ) (ring : ℤ) → j < count → ring_at profile bests holes (get_or chosen j 0) ≡ Some ring → held.ring ≤ℤ ring
  pub first : (j : ℕ) (ring : ℤ) → j < i → ring_at profile bests holes (get_or chosen j 0) ≡ Some ring → held.ring <ℤ ring

-- the least ring of the first `count` chosen holes, or none where none of them has one
abbrev pub IsLeastRingOf : Profile → List (Option BestPad) → List Drilled → List ℕ → ℕ → Option RowLeast → Type 0
IsLeastRingOf profile bests holes chosen count None = (j : ℕ) → j < count → ring_at profile bests holes (get_or chosen j 0) ≡ None
IsLeastRingOf profile bests holes chosen count (Some least) = IsLeastRing profile bests holes chosen count least

-- how many holes are chosen, how many of them have no ring, and the least ring of the others
pub record IsRingRow (profile : Profile) (bests : List (Option BestPad)) (holes : List Drilled) (chosen : List ℕ) (row : RingRow) : Type 0 where
  pub size : row.holes ≡ length chosen
  pub bare : row.bare ≡ count_by (λ k. has_no_ring (ring_at profile bests holes k)) chosen
  pub least : IsLeastRingOf profile bests holes chosen (length chosen) row.least

-- the ring that is computed from the best pad of a hole is its ring among the pads of the layer
abbrev pub RowRingsAreRings : {S : Type 0} → (S → GridPoint → ℕ → Bool) → Type 0
RowRingsAreRings {S} covers =
    (profile : Profile) (pads : List S) (holes : List Drilled) (bests : List (Option BestPad)) (k : ℕ) → AreBestPads covers pads holes bests → k < length holes → IsRingOf covers profile pads (hole_at holes k) (ring_at profile bests holes k)
