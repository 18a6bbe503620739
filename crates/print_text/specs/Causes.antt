-- The kinds of causes why holes lack their rings, and their words (docs/FORMATS.md, Report for people).
use Rattle.std.specs.Prelude.{◌==◌, ℕ, Bool, List, [], ◌∷◌, codes}
use Rattle.grid_units.specs.declared.profile.Profile.{Profile}
use Rattle.grid_units.specs.declared.profile.Profile.TheVariants.{Strict, Wide}
use Rattle.pad_shapes.specs.declared.row.Why.{Why}
use Rattle.pad_shapes.specs.declared.row.Why.TheVariants as why
use Rattle.report.specs.declared.RingCause.{RingCause}
use Rattle.report.specs.declared.RingCause.TheVariants as causes
use Rattle.print_text.specs.declared.kind.CauseKind.{CauseKind}
use Rattle.print_text.specs.declared.kind.CauseKind.TheVariants as kinds

-- the kind of a flash that is no pad
abbrev pub flash_kind : Why → CauseKind
flash_kind why.Macro = kinds.Macro
flash_kind why.Polygon = kinds.Polygon
flash_kind why.Holed = kinds.Holed
flash_kind why.Scaled = kinds.Scaled
flash_kind why.Turned = kinds.Turned

-- the kind of a cause
abbrev pub kind_of : RingCause → CauseKind
kind_of (causes.TooSmall place) = kinds.TooSmall
kind_of (causes.OffCentre place) = kinds.OffCentre
kind_of (causes.Edge at_edge) = kinds.Edge
kind_of (causes.Other why flash) = flash_kind why
kind_of (causes.Clear flash) = kinds.Clear
kind_of (causes.Cleared flash) = kinds.Cleared
kind_of causes.MacroShape = kinds.Macro
kind_of causes.DrawnCopper = kinds.Drawn
kind_of causes.NoFlash = kinds.Bare
kind_of causes.Oblique = kinds.Oblique

-- the kinds, in the order in which a report counts them
abbrev pub all_kinds : List CauseKind
all_kinds =
    kinds.TooSmall ∷ kinds.OffCentre ∷ kinds.Edge ∷ kinds.Macro ∷ kinds.Polygon ∷ kinds.Holed ∷ kinds.Scaled ∷ kinds.Turned
    ∷ kinds.Clear ∷ kinds.Cleared ∷ kinds.Drawn ∷ kinds.Bare ∷ kinds.Oblique ∷ []

-- the place of a kind in that order, from 0
abbrev pub place_of : CauseKind → ℕ
place_of kinds.TooSmall = 0
place_of kinds.OffCentre = 1
place_of kinds.Edge = 2
place_of kinds.Macro = 3
place_of kinds.Polygon = 4
place_of kinds.Holed = 5
place_of kinds.Scaled = 6
place_of kinds.Turned = 7
place_of kinds.Clear = 8
place_of kinds.Cleared = 9
place_of kinds.Drawn = 10
place_of kinds.Bare = 11
place_of kinds.Oblique = 12

-- a cause is of a kind
abbrev pub is_of_kind : CauseKind → RingCause → Bool
is_of_kind kind cause = place_of (kind_of cause) == place_of kind

-- the words for a kind, as in a line of a hole
abbrev pub kind_words : CauseKind → List ℕ
kind_words kinds.TooSmall = codes "pad too small"
kind_words kinds.OffCentre = codes "off centre"
kind_words kinds.Edge = codes "in a rounded pad or contour, too near its edge"
kind_words kinds.Macro = codes "only a macro flash"
kind_words kinds.Polygon = codes "only a polygon flash"
kind_words kinds.Holed = codes "only a flash with a hole"
kind_words kinds.Scaled = codes "only a scaled flash"
kind_words kinds.Turned = codes "only a turned flash"
kind_words kinds.Clear = codes "only a clear flash"
kind_words kinds.Cleared = codes "only a cleared flash"
kind_words kinds.Drawn = codes "only drawn copper"
kind_words kinds.Bare = codes "no pad at the hole"
kind_words kinds.Oblique = codes "oblique slot"

-- one of two texts, by the profile: in the wide one flashes of some forms count that the strict one does not judge
abbrev pub in_profile : Profile → List ℕ → List ℕ → List ℕ
in_profile Strict strict wide = strict
in_profile Wide strict wide = wide

-- the hint that a report in a profile prints for a kind
abbrev pub hint : Profile → CauseKind → List ℕ
hint profile kinds.TooSmall = codes "the pad's own radius or half side is less than the hole's radius plus the ring"
hint profile kinds.OffCentre = codes "the pad is large enough for a hole at its centre; drill files are rounded: see `ringcheck explain ring`"
hint profile kinds.Edge = codes "move the hole or enlarge the pad: rings in rounded pads and contours are measured to their edge"
hint profile kinds.Macro =
    in_profile profile
    (codes "--profile wide counts macros whose shape is known, such as rounded rectangles; or choose circle, oval or rectangle: see `ringcheck explain macro`")
    (codes "macros of this form are not judged: choose circle, oval or rectangle: see `ringcheck explain macro`")
hint profile kinds.Polygon =
    in_profile profile
    (codes "--profile wide counts the disc inside a polygon of up to twelve sides; or choose circle, oval or rectangle: see `ringcheck explain polygon`")
    (codes "polygons of this form are not judged: choose circle, oval or rectangle: see `ringcheck explain polygon`")
hint profile kinds.Holed = codes "flashes with a hole are not judged"
hint profile kinds.Scaled = codes "scaled flashes are not judged"
hint profile kinds.Turned =
    in_profile profile
    (codes "--profile wide counts the disc inside a turned rectangle or oval; or turn the pad by quarter turns: see `ringcheck explain turned`")
    (codes "flashes of this form turned by anything but quarter turns are not judged: see `ringcheck explain turned`")
hint profile kinds.Clear = codes "a flash in clear polarity takes copper away"
hint profile kinds.Cleared = codes "a flash that clear polarity may remove does not count"
hint profile kinds.Drawn = codes "--profile wide counts convex contours as pads; or flash a pad there: see `ringcheck explain none`"
hint profile kinds.Bare = codes "no pad was flashed here, or it is drawn or of a shape that is not judged, or the drill file has another origin or format: see `ringcheck explain none`"
hint profile kinds.Oblique = codes "plated slots parallel to neither axis are not judged"
