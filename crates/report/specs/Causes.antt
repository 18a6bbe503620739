-- Why a hole lacks its ring on a layer. Lengths are whole picometres. A place counts from 0, a flash's number from 1. A row is a flash or a
-- contour without its pad, so the numbers of flashes count contours too; the pads of a layer are those of its rows that are pads, in order.
use Rattle.std.specs.Prelude.{◌≡◌, ◌↔◌, ℕ, ℤ, pos, ◌+◌, ◌<◌, ◌≤◌, ◌+ℤ◌, ◌-ℤ◌, ◌≤ℤ◌, Bool, true, false, not, Option, Some, None, List, [], ◌∷◌, length, get_or, if◌then◌else◌}
use Rattle.std.specs.Int.{div_ceil}
use Rattle.std.specs.List.{All, Contains, enumerate_from, filter_map, find, list_any, slice_range}
use Rattle.std.specs.List.Sorted.{IsPermutation}
use Rattle.grid_units.specs.Points.{GridPoint, abs_diff}
use Rattle.grid_units.specs.Holes.{GridHole, is_round}
use Rattle.grid_units.specs.declared.profile.Profile.{Profile}
use Rattle.pad_shapes.specs.Pads.{pad_covers}
use Rattle.pad_shapes.specs.Rounded.{GridRounded, IsInSlot, rounded_covers}
use Rattle.pad_shapes.specs.Shapes.{covers_both_ends}
use Rattle.pad_shapes.specs.declared.pad.Pad.{Pad}
use Rattle.pad_shapes.specs.WidePads.{wide_pad_covers}
use Rattle.pad_shapes.specs.declared.wide_pad.WidePad.{WidePad}
use Rattle.pad_shapes.specs.declared.wide_pad.WidePad.TheVariants.{Plain, Rounded}
use Rattle.ring_rules.specs.Findings.{is_refused_slot}
use Rattle.ring_rules.specs.Places.{hole_at}
use Rattle.ring_rules.specs.declared.finding.Drilled.{Drilled}
use Rattle.pad_shapes.specs.Rows.{is_pad_row}
use Rattle.pad_shapes.specs.declared.row.FeatureRow.{FeatureRow}
use Rattle.pad_shapes.specs.declared.row.RowKind.{RowKind}
use Rattle.pad_shapes.specs.declared.row.RowKind.TheVariants as row_kind
use Rattle.report.specs.declared.FurtherCopper.{FurtherCopper}
use Rattle.report.specs.declared.bounds.Bounds.{Bounds}
use Rattle.report.specs.declared.groups.Group.{Group}
use Rattle.report.specs.declared.layer.CauseFinder.{CauseFinder}
use Rattle.report.specs.declared.other.Other.{Other}
use Rattle.board.specs.BestPads.{AreBestPads, NoneCovers, IsDeepest}
use Rattle.board.specs.Depths.{pad_middle}
use Rattle.board.specs.declared.best.BestPad.{BestPad}
use Rattle.report.specs.declared.RingAtEdge.{RingAtEdge}
use Rattle.report.specs.declared.RingInPad.{RingInPad}
use Rattle.report.specs.declared.RingCause.{RingCause}
use Rattle.report.specs.declared.RingCause.TheVariants as cause
use Rattle.report.specs.declared.cover.UncountedCover.{UncountedCover}

-- the place of a row if it is a pad, else `None`
abbrev pub pad_place : ℕ × FeatureRow → Option ℕ
pad_place (place, row) = if is_pad_row row.what then Some place else None

-- the places of the rows that are pads, in order: of flashed pad, other, contour they are 0 and 2
abbrev pub pad_places : List FeatureRow → List ℕ
pad_places rows = filter_map pad_place (enumerate_from 0 rows)

-- rows and pads belong together: as many rows are pads as there are pads
abbrev pub AreMatched : List FeatureRow → List WidePad → Type 0
AreMatched rows pads = length (pad_places rows) ≡ length pads

-- a row that is no pad: its place, its point, and what it is; `None` for a pad
abbrev pub other_row : ℕ × FeatureRow → Option Other
other_row (place, row) = if is_pad_row row.what then None else Some (record { place = place; at = row.at; what = row.what })

-- the rows of a layer that are no pads, in order
abbrev pub others : List FeatureRow → List Other
others rows = filter_map other_row (enumerate_from 0 rows)

-- a hole as a rounded polygon: round its centre, or round the straight line between the ends of a slot at any angle
abbrev pub hole_shape : GridHole → GridRounded
hole_shape h = record { first = h.from; others = if is_round h then [] else h.to ∷ []; radius = h.radius }

-- a point is one of a rounded polygon, whose points are those that it covers with the reach 0
abbrev pub is_in_shape : GridRounded → GridPoint → Bool
is_in_shape shape p = rounded_covers shape p 0

-- a point lies in a hole: it is no further than its radius from its centre, or from the straight line between the ends of a slot
abbrev pub is_in_hole : GridHole → GridPoint → Bool
is_in_hole h p = is_in_shape (hole_shape h) p

-- the points that lie in a hole are those of its slot, and in a round hole those of the slot with both ends at its centre
abbrev pub HolesHaveTheirPoints : Type 0
HolesHaveTheirPoints = (h : GridHole) (p : GridPoint) → IsInSlot h.from h.to h.radius p ↔ (is_in_hole h p ≡ true)

-- the first row that is no pad and whose point lies in the hole
abbrev pub other_in : List FeatureRow → GridHole → Option Other
other_in rows h = find (λ other. is_in_hole h other.at) (others rows)

-- half the distance of two coordinates, rounded up: of 0 and 3 it is 2
abbrev pub half_apart : ℤ → ℤ → ℕ
half_apart a b = div_ceil (abs_diff a b) 2

-- the lower end of a hole along each axis if its middle were at a point: half its length below, for a round hole the point itself; for a slot
-- at an angle the lower left corner of its box, which a plain pad covers just where it covers the other corners
abbrev pub lower_end_at : GridHole → GridPoint → GridPoint
lower_end_at h at = record { x = at.x -ℤ pos (half_apart h.from.x h.to.x); y = at.y -ℤ pos (half_apart h.from.y h.to.y) }

-- the upper end of a hole along each axis if its middle were at a point; for a slot at an angle the upper right corner of its box
abbrev pub upper_end_at : GridHole → GridPoint → GridPoint
upper_end_at h at = record { x = at.x +ℤ pos (half_apart h.from.x h.to.x); y = at.y +ℤ pos (half_apart h.from.y h.to.y) }

-- a pad is too small for a hole with its ring: even with the hole's middle at its own, the pad would not cover
-- both ends of the hole with the radius and the ring
abbrev pub is_small : ℕ → GridHole → Pad → Bool
is_small ring h pad = not (covers_both_ends pad_covers pad (lower_end_at h (pad_middle pad)) (upper_end_at h (pad_middle pad)) (h.radius + ring))

-- the best pad of a hole (the one in which it lies deepest), which is plain: its flash, the hole's ring in it, and what this lacks of the required ring
pub record IsRingInPad (rows : List FeatureRow) (pads : List WidePad) (asked : ℕ) (h : GridHole) (in_best_pad : RingInPad) : Type 0 where
  pub best : BestPad
  pub deepest : IsDeepest wide_pad_covers pads (length pads) h best
  pub flash : in_best_pad.flash ≡ get_or (pad_places rows) best.pad 0 + 1
  pub pad : (p : WidePad) → get_or pads best.pad p ≡ Plain in_best_pad.pad
  pub ring : in_best_pad.ring ≡ pos best.depth -ℤ pos h.radius
  pub lack : in_best_pad.lack ≡ pos asked -ℤ in_best_pad.ring

-- the best pad of a hole, which is a rounded polygon: its flash or contour, the hole's ring in it, and what this lacks of the required ring
pub record IsRingAtEdge (rows : List FeatureRow) (pads : List WidePad) (asked : ℕ) (h : GridHole) (at_edge : RingAtEdge) : Type 0 where
  pub best : BestPad
  pub deepest : IsDeepest wide_pad_covers pads (length pads) h best
  pub flash : at_edge.flash ≡ get_or (pad_places rows) best.pad 0 + 1
  pub polygon : GridRounded
  pub pad : (p : WidePad) → get_or pads best.pad p ≡ Rounded polygon
  pub ring : at_edge.ring ≡ pos best.depth -ℤ pos h.radius
  pub lack : at_edge.lack ≡ pos asked -ℤ at_edge.ring

-- the profile does not refuse the hole as a slot, and no pad of the layer covers both its ends
abbrev pub HasNoPad : Profile → List WidePad → GridHole → Type 0
HasNoPad profile pads h = (is_refused_slot profile h ≡ false) × NoneCovers wide_pad_covers pads (length pads) h

-- the pads of a layer that its profile does not count: the shapes of flashes of macros, and the contours of regions
pub record UncountedPads : Type 0 where
  pub macros : List WidePad
  pub contours : List WidePad

-- those of two lists that are passed
abbrev pub uncounted_pads : FurtherCopper → UncountedPads
uncounted_pads uncounted = record { macros = uncounted.macros.now; contours = uncounted.contours.now }

-- a hole lies in a pad of a list: this covers both its ends
abbrev pub lies_in_pad : List WidePad → GridHole → Bool
lies_in_pad pads h = list_any (λ pad. covers_both_ends wide_pad_covers pad h.from h.to 0) pads

-- no pad of the layer covers both ends of the hole, and no row that is no pad has its point in it
abbrev pub HasNoFlash : Profile → List FeatureRow → List WidePad → GridHole → Type 0
HasNoFlash profile rows pads h = HasNoPad profile pads h × (other_in rows h ≡ None)

-- of the rows that are no pads, the first whose point lies in the hole is of a kind, and has a number on the layer
abbrev pub IsFirstOther : List FeatureRow → GridHole → RowKind → ℕ → Type 0
IsFirstOther rows h kind flash = (other : Other) × (other_in rows h ≡ Some other) × (other.what ≡ kind) × (flash ≡ other.place + 1)

-- why a hole lacks its ring, the first that applies: a slot that the profile refuses; a best pad that is too small; a hole off the middle of its
-- best pad, or too near the edge of one that is a rounded polygon; no pad, but another flash whose point lies in the hole; no pad and no such flash,
-- but the shape of a macro's flash that the profile does not count; no such shape, but a contour that it does not count; neither
abbrev pub IsCause : Profile → List FeatureRow → List WidePad → UncountedPads → ℕ → GridHole → RingCause → Type 0
IsCause profile rows pads uncounted ring h (cause.TooSmall in_best_pad) =
    (is_refused_slot profile h ≡ false) × IsRingInPad rows pads ring h in_best_pad × (is_small ring h in_best_pad.pad ≡ true)
IsCause profile rows pads uncounted ring h (cause.OffCentre in_best_pad) =
    (is_refused_slot profile h ≡ false) × IsRingInPad rows pads ring h in_best_pad × (is_small ring h in_best_pad.pad ≡ false)
IsCause profile rows pads uncounted ring h (cause.Edge at_edge) = (is_refused_slot profile h ≡ false) × IsRingAtEdge rows pads ring h at_edge
IsCause profile rows pads uncounted ring h (cause.Other why flash) = HasNoPad profile pads h × IsFirstOther rows h (row_kind.Other why) flash
IsCause profile rows pads uncounted ring h (cause.Clear flash) = HasNoPad profile pads h × IsFirstOther rows h row_kind.Clear flash
IsCause profile rows pads uncounted ring h (cause.Cleared flash) = HasNoPad profile pads h × IsFirstOther rows h row_kind.Cleared flash
IsCause profile rows pads uncounted ring h cause.MacroShape = HasNoFlash profile rows pads h × (lies_in_pad uncounted.macros h ≡ true)
IsCause profile rows pads uncounted ring h cause.DrawnCopper =
    HasNoFlash profile rows pads h × (lies_in_pad uncounted.macros h ≡ false) × (lies_in_pad uncounted.contours h ≡ true)
IsCause profile rows pads uncounted ring h cause.NoFlash =
    HasNoFlash profile rows pads h × (lies_in_pad uncounted.macros h ≡ false) × (lies_in_pad uncounted.contours h ≡ false)
IsCause profile rows pads uncounted ring h cause.Oblique = is_refused_slot profile h ≡ true

-- a flash's point lies in a box, and the flash stands no earlier on the layer than the box's first one
pub record IsWithin (bounds : Bounds) (other : Other) : Type 0 where
  pub left : bounds.least.x ≤ℤ other.at.x
  pub right : other.at.x ≤ℤ bounds.greatest.x
  pub low : bounds.least.y ≤ℤ other.at.y
  pub high : other.at.y ≤ℤ bounds.greatest.y
  pub later : bounds.first.place ≤ other.place

-- a box holds the points of some flashes, and its first flash is one of them: the earliest on the layer
pub record IsBounds (all : List Other) (bounds : Bounds) : Type 0 where
  pub within : All (IsWithin bounds) all
  pub first : Contains all bounds.first

-- a group: consecutive flashes of a list, from one place up to an end, and their box
pub record IsGroup (all : List Other) (group : Group) : Type 0 where
  pub ordered : group.start ≤ group.end
  pub inside : group.end ≤ length all
  pub bounds : IsBounds (slice_range all group.start group.end) group.bounds

-- each is a group of flashes of a list
abbrev pub AreGroups : List Other → List Group → Type 0
AreGroups all groups = All (IsGroup all) groups

-- the data kept of a layer: the places of its rows that are pads, its other rows in any order, and groups of these
pub record HoldsRows (rows : List FeatureRow) (layer : CauseFinder) : Type 0 where
  pub places : layer.places.items ≡ pad_places rows
  pub others : IsPermutation (others rows) layer.others.items
  pub groups : AreGroups layer.others.items layer.groups.items

-- a list marks the holes that are bare: each lies in no pad of another list; past its end every hole is bare
abbrev pub MarksBare : List WidePad → List Drilled → List Bool → Type 0
MarksBare pads holes bare = (place : ℕ) → place < length holes → not (get_or bare place true) ≡ lies_in_pad pads (hole_at holes place)

-- two lists mark the holes that are bare among the pads that the profile does not count: the shapes of flashes of macros, and contours
pub record MarkUncounted (uncounted : UncountedPads) (holes : List Drilled) (cover : UncountedCover) : Type 0 where
  pub macros : MarksBare uncounted.macros holes cover.macros.items
  pub contours : MarksBare uncounted.contours holes cover.contours.items

-- the same data with the best pad of each hole, if it has one, and with which holes lie in pads that the profile does not count
pub record HoldsRowsAndBests (rows : List FeatureRow) (pads : List WidePad) (uncounted : UncountedPads) (holes : List Drilled) (layer : CauseFinder) : Type 0 where
  pub known : HoldsRows rows layer
  pub bests : AreBestPads wide_pad_covers pads holes layer.bests.items
  pub cover : MarkUncounted uncounted holes layer.cover

-- the ring of a hole in its best pad; nothing where it lies in no pad that counts or is a slot that is refused
abbrev pub ring_of : RingCause → Option ℤ
ring_of (cause.TooSmall place) = Some place.ring
ring_of (cause.OffCentre place) = Some place.ring
ring_of (cause.Edge place) = Some place.ring
ring_of _ = None

-- the length that a ring lacks; nothing where the hole lies in no pad or is a slot that is refused
abbrev pub lack_of : RingCause → Option ℤ
lack_of (cause.TooSmall place) = Some place.lack
lack_of (cause.OffCentre place) = Some place.lack
lack_of (cause.Edge place) = Some place.lack
lack_of _ = None

-- the number of the flash or contour that a cause names, if it names one
abbrev pub flash_of : RingCause → Option ℕ
flash_of (cause.TooSmall place) = Some place.flash
flash_of (cause.OffCentre place) = Some place.flash
flash_of (cause.Edge place) = Some place.flash
flash_of (cause.Other why flash) = Some flash
flash_of (cause.Clear flash) = Some flash
flash_of (cause.Cleared flash) = Some flash
flash_of _ = None
