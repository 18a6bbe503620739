-- What a board meets, layer by layer and hole by hole.
use Rattle.std.specs.Prelude.{◌≡◌, ℕ, ℤ, ◌<◌, ◌⊎◌, true, Option, Some, None, List, length, get_or}
use Rattle.std.specs.Int.{int_min}
use Rattle.ring_rules.specs.Places.{default_hole}
use Rattle.ring_rules.specs.declared.finding.Drilled.{Drilled}
use Rattle.board.specs.Meets.{needs_ring, NeedsRing}
use Rattle.board.specs.declared.met.Met.{Met}
use Rattle.board.specs.declared.met.Met.TheVariants as mets

-- what is met with one more length: the lesser of it and the length so far; without a length nothing is met any more
abbrev pub with_length : Met → Option ℤ → Met
with_length met None = mets.None
with_length mets.Any (Some length) = mets.UpTo length
with_length (mets.UpTo held) (Some length) = mets.UpTo (int_min held length)
with_length mets.None (Some length) = mets.None

-- what is met with one more length, where a pair without a length is skipped once there is one with a length
abbrev pub with_length_in_pads : Met → Option ℤ → Met
with_length_in_pads mets.Any None = mets.None
with_length_in_pads (mets.UpTo held) None = mets.UpTo held
with_length_in_pads mets.None None = mets.None
with_length_in_pads mets.Any (Some length) = mets.UpTo length
with_length_in_pads (mets.UpTo held) (Some length) = mets.UpTo (int_min held length)
with_length_in_pads mets.None (Some length) = mets.UpTo length

-- one of the first `count` holes that needs a ring on the layer `at`
pub record NeedsRingOn (at count : ℕ) (holes : List Drilled) (layer hole : ℕ) : Type 0 where
  pub here : layer ≡ at
  pub below : hole < count
  pub in_holes : hole < length holes
  pub needs : needs_ring at (get_or holes hole default_hole) ≡ true

-- a hole that needs a ring on a layer before one, or one of the first `count` that does on that layer
abbrev pub NeedsRingBefore : ℕ → ℕ → List Drilled → ℕ → ℕ → Type 0
NeedsRingBefore layers count holes i j = NeedsRing layers holes i j ⊎ NeedsRingOn layers count holes i j
