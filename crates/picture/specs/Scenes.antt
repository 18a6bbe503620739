-- The contents of a layer's panel: what it draws, its pads, its rows that are no pads, the holes, and the findings there (docs/FORMATS.md, Pictures).
use Rattle.std.specs.Prelude.{◌≡◌, ℕ, ◌+◌, ◌≤◌, ◌<◌, ◌==◌, ◌||◌, nat_lt, Bool, true, List, [], ◌∷◌, length, get_or, Option, Some, None, slice_get, if◌then◌else◌}
use Rattle.std.specs.List.{flat_map, enumerate_from}
use Rattle.std.specs.List.Sorted.{IsSortedByKey}
use Rattle.std.specs.Ordering.{nat_cmp, ordering_then}
use Rattle.std.specs.declared.cmp.Ordering.{Ordering}
use Rattle.grid_units.specs.Points.{GridPoint}
use Rattle.pad_shapes.specs.Rows.{is_pad_row}
use Rattle.pad_shapes.specs.declared.row.FeatureRow.{FeatureRow}
use Rattle.pad_shapes.specs.declared.drawn.Drawn.{Drawn}
use Rattle.pad_shapes.specs.Rounded.{GridRounded}
use Rattle.pad_shapes.specs.declared.pad.Pad.{Pad}
use Rattle.pad_shapes.specs.declared.pad.Pad.TheVariants as pads
use Rattle.ring_rules.specs.declared.finding.Drilled.{Drilled}
use Rattle.ring_rules.specs.declared.finding.Finding.{Finding}
use Rattle.ring_rules.specs.declared.finding.Finding.TheVariants as finding
use Rattle.pad_shapes.specs.declared.wide_pad.WidePad.{WidePad}
use Rattle.pad_shapes.specs.declared.wide_pad.WidePad.TheVariants.{Plain, Rounded}
use Rattle.picture.specs.Elements.{are_alike}
use Rattle.picture.specs.declared.scene.DrawnFinding.{DrawnFinding}
use Rattle.picture.specs.declared.scene.DrawnFinding.TheVariants.{Ring, Gap}

-- more rows and holes than a panel draws: above 100,000
abbrev pub is_crowded : List FeatureRow → List Drilled → Bool
is_crowded rows holes = nat_lt 100000 (length rows + length holes)

-- the rows, pads or holes that are drawn: none of them in a crowded panel
abbrev pub unless_crowded : {X : Type 0} → Bool → List X → List X
unless_crowded crowded xs = if crowded then [] else xs

-- what a panel shows of what its layer draws: nothing in a crowded panel, or above 100,000 parts
abbrev pub shown_copper : Bool → List Drawn → List Drawn
shown_copper crowded drawn = unless_crowded (crowded || nat_lt 100000 (length drawn)) drawn

-- a pad, if it is a plain one
abbrev pub plain_pad : WidePad → List Pad
plain_pad (Plain pad) = pad ∷ []
plain_pad (Rounded pad) = []

-- the plain ones among some pads, in order
abbrev pub plain_pads : List WidePad → List Pad
plain_pads pads = flat_map plain_pad pads

-- a pad on the board, if it is a rounded polygon
abbrev pub round_pad : WidePad → List GridRounded
round_pad (Plain pad) = []
round_pad (Rounded pad) = pad ∷ []

-- the rounded polygons among some pads, in order
abbrev pub rounded_pads : List WidePad → List GridRounded
rounded_pads pads = flat_map round_pad pads

-- the kind of a pad (0 disc, 1 rectangle, 2 obround) and its half sides along x and y, in pm
abbrev pub kind_of : Pad → ℕ × ℕ × ℕ
kind_of (pads.Disc d) = (0, d.radius, d.radius)
kind_of (pads.Rect r) = (1, r.half_x, r.half_y)
kind_of (pads.Obround o) = (2, o.half_x, o.half_y)

-- the order of kinds; of one kind by the half side along x, then by that along y
abbrev pub kind_order : ℕ × ℕ × ℕ → ℕ × ℕ × ℕ → Ordering
kind_order a b = ordering_then (ordering_then (nat_cmp a.0 b.0) (nat_cmp a.1 b.1)) (nat_cmp a.2 b.2)

-- pads in order of kind and size, so that pads alike stand next to each other
abbrev pub AreSortedBySize : List Pad → Type 0
AreSortedBySize pads = IsSortedByKey kind_of kind_order pads

-- each kind and size is one path: between two pads alike no new path begins
abbrev pub IsOnePathPerSize : List Pad → Type 0
IsOnePathPerSize pads =
    (i j k : ℕ) (d : Pad) → i ≤ j → j < k → k < length pads → are_alike (get_or pads i d) (get_or pads k d) ≡ true
    → are_alike (get_or pads j d) (get_or pads (j + 1) d) ≡ true

-- the point of a row that is no pad
abbrev pub cross_of : FeatureRow → List GridPoint
cross_of row = if is_pad_row row.what then [] else row.at ∷ []

-- the crosses of some rows: a point for each that is no pad, in order
abbrev pub crosses_of : List FeatureRow → List GridPoint
crosses_of rows = flat_map cross_of rows

-- the insufficient ring of a hole, with the number of its finding; nothing where there is no such hole
abbrev pub drawn_ring : ℕ → Option Drilled → List DrawnFinding
drawn_ring number None = []
drawn_ring number (Some d) = Ring number d.hole ∷ []

-- the insufficient gap between two holes, with the number of its finding; nothing where one hole is missing
abbrev pub drawn_gap : ℕ → Option Drilled → Option Drilled → List DrawnFinding
drawn_gap number (Some a) (Some b) = Gap number a.hole b.hole ∷ []
drawn_gap number _ _ = []

-- what a finding shows in the panel of a layer: a ring on its own layer alone, a gap in every panel; numbers count from 1
unfoldable pub drawn_finding : ℕ → List Drilled → ℕ × Finding → List DrawnFinding
drawn_finding layer holes (place, finding.Ring l hole) = if l == layer then drawn_ring (place + 1) (slice_get holes hole) else []
drawn_finding layer holes (place, finding.Oblique l hole) = if l == layer then drawn_ring (place + 1) (slice_get holes hole) else []
drawn_finding layer holes (place, finding.Gap first second) = drawn_gap (place + 1) (slice_get holes first) (slice_get holes second)

-- what all findings show there, in their order
abbrev pub drawn_findings : ℕ → List Drilled → List Finding → List DrawnFinding
drawn_findings layer holes findings = flat_map (drawn_finding layer holes) (enumerate_from 0 findings)
