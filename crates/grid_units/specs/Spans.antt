-- The copper layers that the holes of a drill file go through.
use Rattle.std.specs.Prelude.{ℕ, ◌+◌, ◌≤◌, Bool, true, ◌&&◌, nat_le, Option, Some, None}

-- a run of layers: the numbers of its first and its last, both included; layers are numbered from 1
pub record LayerSpan : Type 0 where
  pub first : ℕ
  pub last : ℕ

-- the first layer is at least 1, and not above the last
abbrev pub IsSpan : ℕ → ℕ → Type 0
IsSpan first last = (1 ≤ first) × (first ≤ last)

-- the layer at this place, from 0, lies in a span; without a span every layer does
abbrev pub is_in_span : ℕ → Option LayerSpan → Bool
is_in_span layer None = true
is_in_span layer (Some span) = nat_le span.first (layer + 1) && nat_le (layer + 1) span.last
