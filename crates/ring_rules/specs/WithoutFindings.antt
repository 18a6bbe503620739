-- What follows for a board where nothing is found, and what a finding names.
use Rattle.std.specs.Prelude.{◌≡◌, ◌+◌, ◌<◌, ◌≤◌, ◌⊎◌, ℕ, Bool, true, List, [], map, length, get_or}
use Rattle.std.specs.List.{Contains, All}
use Rattle.grid_units.specs.Points.{GridPoint, square, square_distance}
use Rattle.grid_units.specs.Holes.{GridHole, IsInCore, AreClear, AreApart}
use Rattle.grid_units.specs.declared.profile.Profile.{Profile}
use Rattle.grid_units.specs.declared.profile.Profile.TheVariants.{Strict, Wide}
use Rattle.pad_shapes.specs.Shapes.{IsAxisAligned}
use Rattle.pad_shapes.specs.Holding.{HoldsHole}
use Rattle.ring_rules.specs.Findings.{is_oblique, layer_findings, ring_findings, gap_findings}
use Rattle.grid_units.specs.Spans.{is_in_span}
use Rattle.ring_rules.specs.declared.finding.Drilled.{Drilled}
use Rattle.ring_rules.specs.declared.finding.Finding.{Finding}
use Rattle.ring_rules.specs.declared.finding.Finding.TheVariants.{Ring, Oblique, Gap}

-- a round hole is held: all grid points within the radius and the ring of its centre are points of one shape
pub record IsHeld {S : Type 0} (points : S → GridPoint → Type 0) (ring : ℕ) (pads : List S) (hole : GridHole) : Type 0 where
  pub pad : S
  pub flashed : Contains pads pad
  pub holds : (p : GridPoint) → square_distance p hole.from ≤ square (hole.radius + ring) → points pad p

-- a slot is held: all grid points within the radius and the ring of some point of its core are points of one shape
pub record IsSlotHeld {S : Type 0} (points : S → GridPoint → Type 0) (ring : ℕ) (pads : List S) (hole : GridHole) : Type 0 where
  pub pad : S
  pub flashed : Contains pads pad
  pub holds : (c p : GridPoint) → IsInCore hole c → square_distance p c ≤ square (hole.radius + ring) → points pad p

-- each plated round hole is held on each layer of its span
abbrev pub AreHeld : {S : Type 0} → (S → GridPoint → Type 0) → ℕ → List (List S) → List Drilled → Type 0
AreHeld {S} points ring layers holes =
    (l : ℕ) (d : Drilled) → l < length layers → Contains holes d → d.plated ≡ true → is_in_span l d.span ≡ true → d.hole.from ≡ d.hole.to → IsHeld points ring (get_or layers l []) d.hole

-- each plated slot along an axis is held on each layer of its span
abbrev pub AreSlotsHeld : {S : Type 0} → (S → GridPoint → Type 0) → ℕ → List (List S) → List Drilled → Type 0
AreSlotsHeld {S} points ring layers holes =
    (l : ℕ) (d : Drilled) → l < length layers → Contains holes d → d.plated ≡ true → is_in_span l d.span ≡ true → IsAxisAligned d.hole.from d.hole.to → IsSlotHeld points ring (get_or layers l []) d.hole

-- a hole, round or a slot at any angle, is held: all grid points within the radius and the ring of its centre line are points of one shape
pub record IsHoleHeld {S : Type 0} (points : S → GridPoint → Type 0) (ring : ℕ) (pads : List S) (hole : GridHole) : Type 0 where
  pub pad : S
  pub flashed : Contains pads pad
  pub holds : HoldsHole (points pad) ring hole

-- each plated hole is held on each layer of its span
abbrev pub AreHolesHeld : {S : Type 0} → (S → GridPoint → Type 0) → ℕ → List (List S) → List Drilled → Type 0
AreHolesHeld {S} points ring layers holes =
    (l : ℕ) (d : Drilled) → l < length layers → Contains holes d → d.plated ≡ true → is_in_span l d.span ≡ true → IsHoleHeld points ring (get_or layers l []) d.hole

-- each plated hole with a layer in its span is round or a slot along an axis
abbrev pub AreAlongAxes : {S : Type 0} → List (List S) → List Drilled → Type 0
AreAlongAxes layers holes =
    (l : ℕ) (d : Drilled) → l < length layers → Contains holes d → d.plated ≡ true → is_in_span l d.span ≡ true → IsAxisAligned d.hole.from d.hole.to

-- the holes at any two places of the list are clear, and apart
abbrev pub AreAllApart : ℕ → List Drilled → Type 0
AreAllApart gap holes =
    (i j : ℕ) (d : Drilled) → i < j → j < length holes → AreClear gap (get_or holes i d).hole (get_or holes j d).hole × AreApart gap (get_or holes i d).hole (get_or holes j d).hole

-- where no hole lacks its ring, each plated round hole is held, in every profile
abbrev pub RingsHoldWithoutFindings : {S : Type 0} → (S → GridPoint → Type 0) → (S → GridPoint → ℕ → Bool) → Type 0
RingsHoldWithoutFindings {S} points covers =
    (profile : Profile) (ring : ℕ) (layers : List (List S)) (holes : List Drilled) → ring_findings covers profile ring layers holes ≡ [] → AreHeld points ring layers holes

-- where no hole lacks its ring, each plated slot along an axis is held, in every profile
abbrev pub SlotsHoldWithoutFindings : {S : Type 0} → (S → GridPoint → Type 0) → (S → GridPoint → ℕ → Bool) → Type 0
SlotsHoldWithoutFindings {S} points covers =
    (profile : Profile) (ring : ℕ) (layers : List (List S)) (holes : List Drilled) → ring_findings covers profile ring layers holes ≡ [] → AreSlotsHeld points ring layers holes

-- where no hole lacks its ring, each plated hole is held, at whatever angle and in every profile
abbrev pub HolesHoldWithoutFindings : {S : Type 0} → (S → GridPoint → Type 0) → (S → GridPoint → ℕ → Bool) → Type 0
HolesHoldWithoutFindings {S} points covers =
    (profile : Profile) (ring : ℕ) (layers : List (List S)) (holes : List Drilled) → ring_findings covers profile ring layers holes ≡ [] → AreHolesHeld points ring layers holes

-- where no hole lacks its ring in the strict profile, no plated slot with a layer in its span is oblique
abbrev pub StraightWithoutFindings : {S : Type 0} → (S → GridPoint → ℕ → Bool) → Type 0
StraightWithoutFindings {S} covers =
    (ring : ℕ) (layers : List (List S)) (holes : List Drilled) → ring_findings covers Strict ring layers holes ≡ [] → AreAlongAxes layers holes

-- in the strict profile a plated oblique slot is an `Oblique` finding on each layer of its span
abbrev pub FindsOblique : {S : Type 0} → (S → GridPoint → ℕ → Bool) → Type 0
FindsOblique {S} covers =
    (ring : ℕ) (layers : List (List S)) (holes : List Drilled) (l h : ℕ) (d : Drilled) → l < length layers → h < length holes
    → (get_or holes h d).plated ≡ true → is_in_span l (get_or holes h d).span ≡ true → is_oblique (get_or holes h d).hole ≡ true
    → Contains (ring_findings covers Strict ring layers holes) (Oblique l h)

-- in the wide profile no finding is `Oblique`
abbrev pub FindsNoObliqueInWide : {S : Type 0} → (S → GridPoint → ℕ → Bool) → Type 0
FindsNoObliqueInWide {S} covers =
    (ring : ℕ) (layers : List (List S)) (holes : List Drilled) (l h : ℕ) → ¬ Contains (ring_findings covers Wide ring layers holes) (Oblique l h)

-- the pads of each layer are, by a map that keeps what they cover, among those of the same layer in other lists
pub record AreAmong {S W : Type 0} (covers : S → GridPoint → ℕ → Bool) (wide : W → GridPoint → ℕ → Bool) (into : S → W) (layers : List (List S)) (more : List (List W)) : Type 0 where
  pub as_many : length layers ≡ length more
  pub same : (s : S) (p : GridPoint) (r : ℕ) → wide (into s) p r ≡ covers s p r
  pub among : (l : ℕ) (s : S) → l < length layers → Contains (get_or layers l []) s → Contains (get_or more l []) (into s)

-- a hole that lacks its ring on a layer in the wide profile is a finding of that layer in the strict profile too, of one kind or the
-- other, where the layer has the same pads or some of them alone
abbrev pub WideFindsNoMore : {S W : Type 0} → (S → GridPoint → ℕ → Bool) → (W → GridPoint → ℕ → Bool) → Type 0
WideFindsNoMore {S} {W} covers wide =
    (into : S → W) (ring : ℕ) (layers : List (List S)) (more : List (List W)) (holes : List Drilled) (l h : ℕ) → AreAmong covers wide into layers more
    → Contains (ring_findings wide Wide ring more holes) (Ring l h)
    → Contains (ring_findings covers Strict ring layers holes) (Ring l h) ⊎ Contains (ring_findings covers Strict ring layers holes) (Oblique l h)

-- the findings of rings on a layer are those by what each pad of it covers
abbrev pub JudgesByCoverings : {S : Type 0} → (S → GridPoint → ℕ → Bool) → Type 0
JudgesByCoverings {S} covers =
    (profile : Profile) (ring layer : ℕ) (holes : List Drilled) (pads : List S)
    → layer_findings (λ covering. covering) profile ring holes layer (map covers pads) ≡ layer_findings covers profile ring holes layer pads

-- where no gap is a finding, the holes at any two places of the list are clear, and apart
abbrev pub ApartWithoutFindings : Type 0
ApartWithoutFindings = (gap : ℕ) (holes : List Drilled) → gap_findings gap holes ≡ [] → AreAllApart gap holes

-- a finding of a ring names one of the layers and one of the holes; a finding of a gap two of the holes, in their order
abbrev pub NamesPlaces : ℕ → ℕ → Finding → Type 0
NamesPlaces layers holes (Ring layer hole) = (layer < layers) × (hole < holes)
NamesPlaces layers holes (Oblique layer hole) = (layer < layers) × (hole < holes)
NamesPlaces layers holes (Gap first second) = (first < second) × (second < holes)

-- each finding of a ring names a layer and a hole of the lists
abbrev pub RingsNamePlaces : {S : Type 0} → (S → GridPoint → ℕ → Bool) → Type 0
RingsNamePlaces {S} covers =
    (profile : Profile) (ring : ℕ) (layers : List (List S)) (holes : List Drilled) → All (NamesPlaces (length layers) (length holes)) (ring_findings covers profile ring layers holes)

-- each finding of a gap names two holes of the list, in their order
abbrev pub GapsNamePlaces : Type 0
GapsNamePlaces = (gap layers : ℕ) (holes : List Drilled) → All (NamesPlaces layers (length holes)) (gap_findings gap holes)
