-- The greatest ring and the greatest gap that a board meets, in whole picometres (docs/FORMATS.md, Measure).
use Rattle.std.specs.Prelude.{◌≡◌, ◌↔◌, ℕ, ℤ, pos, ◌<◌, ◌-ℤ◌, ◌≤ℤ◌, ◌⊎◌, Bool, true, false, ◌&&◌, Option, Some, None, List, [], length, get_or}
use Rattle.grid_units.specs.Points.{GridPoint}
use Rattle.grid_units.specs.Holes.{GridHole}
use Rattle.grid_units.specs.Spans.{is_in_span}
use Rattle.grid_units.specs.declared.profile.Profile.{Profile}
use Rattle.ring_rules.specs.Places.{default_hole, hole_at}
use Rattle.ring_rules.specs.Findings.{is_refused_slot, ring_findings, gap_findings}
use Rattle.ring_rules.specs.declared.finding.Drilled.{Drilled}
use Rattle.board.specs.Gaps.{IsGap}
use Rattle.board.specs.BestPads.{IsDeepest, IsBare}
use Rattle.board.specs.NearestHoles.{IsPair}
use Rattle.board.specs.declared.best.BestPad.{BestPad}
use Rattle.board.specs.declared.met.Met.{Met}
use Rattle.board.specs.declared.met.RingsMet.{RingsMet}
use Rattle.board.specs.declared.met.Met.TheVariants as mets

-- what is met allows a rule: any rule, those up to a length, or none; below 0 no rule is allowed, and the board fails by that length
abbrev pub allows : Met → ℕ → Type 0
allows mets.Any rule = Unit {0}
allows (mets.UpTo length) rule = pos rule ≤ℤ length
allows mets.None rule = ⊥

-- one of the pairs that are asked has no length
pub record LacksOne (required : ℕ → ℕ → Type 0) (has : ℕ → ℕ → Option ℤ → Type 0) : Type 0 where
  pub i : ℕ
  pub j : ℕ
  pub there : required i j
  pub nothing : has i j None

-- one of the pairs that are asked has this length, and each has one that is no less
pub record HasLeast (required : ℕ → ℕ → Type 0) (has : ℕ → ℕ → Option ℤ → Type 0) (length : ℤ) : Type 0 where
  pub i : ℕ
  pub j : ℕ
  pub there : required i j
  pub reached : has i j (Some length)
  pub least : (k l : ℕ) → required k l → (other : ℤ) × has k l (Some other) × (length ≤ℤ other)

-- what is met by pairs that are asked for a length: any rule if none is asked, none if one has no length, else those up to the least length
abbrev pub IsLeast : (ℕ → ℕ → Type 0) → (ℕ → ℕ → Option ℤ → Type 0) → Met → Type 0
IsLeast required has mets.Any = (i j : ℕ) → required i j → ⊥
IsLeast required has (mets.UpTo length) = HasLeast required has length
IsLeast required has mets.None = LacksOne required has

-- some pair is asked, and none of those that are asked has a length
pub record LacksAll (required : ℕ → ℕ → Type 0) (has : ℕ → ℕ → Option ℤ → Type 0) : Type 0 where
  pub i : ℕ
  pub j : ℕ
  pub there : required i j
  pub nothing : (k l : ℕ) → required k l → has k l None

-- one of the pairs that are asked has this length, and each has no length or one that is no less
pub record HasLeastInPads (required : ℕ → ℕ → Type 0) (has : ℕ → ℕ → Option ℤ → Type 0) (length : ℤ) : Type 0 where
  pub i : ℕ
  pub j : ℕ
  pub there : required i j
  pub reached : has i j (Some length)
  pub least : (k l : ℕ) → required k l → has k l None ⊎ ((other : ℤ) × has k l (Some other) × (length ≤ℤ other))

-- what is met where pairs without a length are skipped: any rule if none is asked, none if none has one, else those up to the least length
abbrev pub IsLeastInPads : (ℕ → ℕ → Type 0) → (ℕ → ℕ → Option ℤ → Type 0) → Met → Type 0
IsLeastInPads required has mets.Any = (i j : ℕ) → required i j → ⊥
IsLeastInPads required has (mets.UpTo length) = HasLeastInPads required has length
IsLeastInPads required has mets.None = LacksAll required has

-- a hole needs a ring on a layer: it is plated and goes through the layer
abbrev pub needs_ring : ℕ → Drilled → Bool
needs_ring layer d = d.plated && is_in_span layer d.span

-- one of the first `count` layers, and a hole that needs a ring there
pub record NeedsRing (count : ℕ) (holes : List Drilled) (layer hole : ℕ) : Type 0 where
  pub in_layers : layer < count
  pub in_holes : hole < length holes
  pub needs : needs_ring layer (get_or holes hole default_hole) ≡ true

-- the ring of a hole on a layer: how deep it lies in the best pad, less its radius; below 0 where the hole is wider than the copper round it
pub record IsRing {S : Type 0} (covers : S → GridPoint → ℕ → Bool) (profile : Profile) (pads : List S) (hole : GridHole) (ring : ℤ) : Type 0 where
  pub best : BestPad
  pub judged : is_refused_slot profile hole ≡ false
  pub deepest : IsDeepest covers pads (length pads) hole best
  pub less : ring ≡ pos best.depth -ℤ pos hole.radius

-- the ring of a hole among the pads of a layer, or none where the hole is bare or a slot that the profile refuses
abbrev pub IsRingOf : {S : Type 0} → (S → GridPoint → ℕ → Bool) → Profile → List S → GridHole → Option ℤ → Type 0
IsRingOf covers profile pads hole None = (is_refused_slot profile hole ≡ true) ⊎ IsBare covers pads hole
IsRingOf covers profile pads hole (Some ring) = IsRing covers profile pads hole ring

-- the ring of the hole at a place, on the layer at a place
abbrev pub HasRing : {S : Type 0} → (S → GridPoint → ℕ → Bool) → Profile → List (List S) → List Drilled → ℕ → ℕ → Option ℤ → Type 0
HasRing covers profile layers holes layer hole ring = IsRingOf covers profile (get_or layers layer []) (hole_at holes hole) ring

-- the gap of the holes at two places; any two holes have one
abbrev pub HasGap : List Drilled → ℕ → ℕ → Option ℤ → Type 0
HasGap holes i j None = ⊥
HasGap holes i j (Some gap) = IsGap (hole_at holes i) (hole_at holes j) gap

-- the rings that a board meets at all holes that need one
abbrev pub MeetsRings : {S : Type 0} → (S → GridPoint → ℕ → Bool) → Profile → List (List S) → List Drilled → Met → Type 0
MeetsRings covers profile layers holes met = IsLeast (NeedsRing (length layers) holes) (HasRing covers profile layers holes) met

-- the rings that a board meets at the holes that need one and are not bare
abbrev pub MeetsRingsInPads : {S : Type 0} → (S → GridPoint → ℕ → Bool) → Profile → List (List S) → List Drilled → Met → Type 0
MeetsRingsInPads covers profile layers holes met = IsLeastInPads (NeedsRing (length layers) holes) (HasRing covers profile layers holes) met

-- what is met by pairs that are asked for a length, those without one counted (`ring`) and skipped (`held`)
pub record AreLeast (required : ℕ → ℕ → Type 0) (has : ℕ → ℕ → Option ℤ → Type 0) (met : RingsMet) : Type 0 where
  pub ring : IsLeast required has met.ring
  pub held : IsLeastInPads required has met.in_pads

-- the rings that the first `count` layers of a board meet
abbrev pub MeetsOnLayers : {S : Type 0} → (S → GridPoint → ℕ → Bool) → Profile → List (List S) → List Drilled → ℕ → RingsMet → Type 0
MeetsOnLayers covers profile layers holes count met = AreLeast (NeedsRing count holes) (HasRing covers profile layers holes) met

-- the gaps that a board meets: the least gap of two of its holes, plated or not
abbrev pub MeetsGaps : List Drilled → Met → Type 0
MeetsGaps holes met = IsLeast (IsPair holes) (HasGap holes) met

-- for every ring: nothing is found of rings under it just where it is allowed
abbrev pub RingsPass : {S : Type 0} → (S → GridPoint → ℕ → Bool) → Profile → List (List S) → List Drilled → Met → Type 0
RingsPass covers profile layers holes met = (ring : ℕ) → (ring_findings covers profile ring layers holes ≡ []) ↔ allows met ring

-- for every gap: nothing is found of gaps under it just where it is allowed
abbrev pub GapsPass : List Drilled → Met → Type 0
GapsPass holes met = (gap : ℕ) → (gap_findings gap holes ≡ []) ↔ allows met gap

-- the rings that a board meets are just those under which nothing is found of rings
abbrev pub RingsPassExactly : {S : Type 0} → (S → GridPoint → ℕ → Bool) → Type 0
RingsPassExactly {S} covers = (profile : Profile) (layers : List (List S)) (holes : List Drilled) (met : Met) → MeetsRings covers profile layers holes met → RingsPass covers profile layers holes met

-- the gaps that a board meets are just those under which nothing is found of gaps
abbrev pub GapsPassExactly : Type 0
GapsPassExactly = (holes : List Drilled) (met : Met) → MeetsGaps holes met → GapsPass holes met
