-- Marks of the spots whose holes need a ring and that no pad has covered so far.
use Rattle.std.specs.Prelude.{◌≡◌, ℕ, ◌<◌, ◌≤◌, ◌&&◌, not, Bool, true, false, List, length, get_or}
use Rattle.grid_units.specs.Points.{GridPoint}
use Rattle.grid_units.specs.Holes.{GridHole}
use Rattle.grid_units.specs.declared.profile.Profile.{Profile}
use Rattle.pad_shapes.specs.Holding.{covers_hole}
use Rattle.ring_rules.specs.Findings.{is_refused_slot}
use Rattle.ring_rules.specs.Spots.{spot_at}
use Rattle.ring_rules.specs.declared.ring_index.RingIndex.{RingIndex}

-- a pad gives a hole its ring: the profile does not refuse the hole as a slot, and the pad covers it together with the ring round it
unfoldable pub gives_ring : {S : Type 0} → (S → GridPoint → ℕ → Bool) → Profile → ℕ → GridHole → S → Bool
gives_ring covers profile ring h pad = not (is_refused_slot profile h) && covers_hole covers ring h pad

-- a pad gives its ring to the hole of a spot of an index, by the rules of the index
abbrev pub gives_ring_at : {S : Type 0} → (S → GridPoint → ℕ → Bool) → RingIndex → S → ℕ → Bool
gives_ring_at covers index pad i = gives_ring covers index.rules.profile index.rules.ring (spot_at index.cells.spots i).hole pad

-- the spot at an index is still marked; past the end of the marks there is none
abbrev pub is_marked : List Bool → ℕ → Bool
is_marked marks i = get_or marks i false

-- marks are removed only where a test passes, and none is added
pub record RemovesMarks (test : ℕ → Bool) (before after : List Bool) : Type 0 where
  pub size : length after ≡ length before
  pub kept : (k : ℕ) → is_marked after k ≡ true → is_marked before k ≡ true
  pub passed : (k : ℕ) → is_marked before k ≡ true → is_marked after k ≡ false → test k ≡ true

-- no mark is left from `start` to `end`, end excluded, where the test passes
abbrev pub NoMarkPassesFrom : (ℕ → Bool) → ℕ → ℕ → List Bool → Type 0
NoMarkPassesFrom test start end marks = (i : ℕ) → start ≤ i → i < end → is_marked marks i ≡ true → test i ≡ false

-- no mark is left from `start` to `end`, end excluded
abbrev pub HasNoMarkFrom : ℕ → ℕ → List Bool → Type 0
HasNoMarkFrom start end marks = (i : ℕ) → start ≤ i → i < end → is_marked marks i ≡ false
