-- The causes of a hole by the parts that decide them.
use Rattle.std.specs.Prelude.{ℕ, ◌+◌, Option, Some, None, if◌then◌else◌, ◌≡◌, ◌≤◌, true, false, List, length, take}
use Rattle.grid_units.specs.Holes.{GridHole}
use Rattle.pad_shapes.specs.declared.row.RowKind.{RowKind}
use Rattle.report.specs.Causes.{UncountedPads, is_small, lies_in_pad, is_in_shape}
use Rattle.report.specs.declared.RingInPad.{RingInPad}
use Rattle.report.specs.declared.RingCause.{RingCause}
use Rattle.report.specs.declared.other.Other.{Other}
use Rattle.std.specs.List.{All, Contains}
use Rattle.pad_shapes.specs.Rounded.{GridRounded}
use Rattle.report.specs.declared.groups.Search.{Search}
use Rattle.pad_shapes.specs.declared.row.RowKind.TheVariants as row_kind
use Rattle.report.specs.declared.RingCause.TheVariants as cause

-- the cause of a hole whose best pad is plain: this is too small, or the hole is off its middle
abbrev pub plain_cause : ℕ → GridHole → RingInPad → RingCause
plain_cause ring h in_best_pad = if is_small ring h in_best_pad.pad then cause.TooSmall in_best_pad else cause.OffCentre in_best_pad

-- the cause of a hole without a pad by a row that is none, and the number of this row
abbrev pub other_cause : RowKind → ℕ → RingCause
other_cause (row_kind.Other why) flash = cause.Other why flash
other_cause row_kind.Clear flash = cause.Clear flash
other_cause row_kind.Cleared flash = cause.Cleared flash
other_cause _ flash = cause.NoFlash

-- the cause of a hole without a pad: by the first other row in it, if there is one, and otherwise as is given
abbrev pub cause_without_pad : Option Other → RingCause → RingCause
cause_without_pad (Some other) otherwise = other_cause other.what (other.place + 1)
cause_without_pad None otherwise = otherwise

-- the cause of a hole that lies in no pad and has no other flash's point in it, by the pads that the profile does not count
abbrev pub uncounted_cause : UncountedPads → GridHole → RingCause
uncounted_cause uncounted h =
    if lies_in_pad uncounted.macros h then cause.MacroShape else (if lies_in_pad uncounted.contours h then cause.DrawnCopper else cause.NoFlash)

-- among the flashes whose points lie in a hole, the one of the lowest place; `None` where there is none
abbrev pub IsFirstIn : List Other → GridRounded → Option Other → Type 0
IsFirstIn all h None = All (λ other. is_in_shape h other.at ≡ false) all
IsFirstIn all h (Some first) = Contains all first × (is_in_shape h first.at ≡ true) × All (λ other. is_in_shape h other.at ≡ true → first.place ≤ other.place) all

-- a search has passed the first `passed` flashes of a list, and has the first of these in the hole, if there is one
pub record HasPassed (all : List Other) (h : GridRounded) (search : Search) : Type 0 where
  pub inside : search.passed ≤ length all
  pub first : IsFirstIn (take search.passed all) h search.first
