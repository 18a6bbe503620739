-- Names that proofs of this crate cite, passed on from one place. Declares nothing.
pub use Rattle.std.proofs.Common.{Bool, List, None, Option, Some, [], ap, append-nil, append_assoc, ap₂, arith, cond, drop, false, get_or, inl, inr, length, map, negsuc, not, refl, rules, subst, suc, sym, take, true, w64, ℕ, ℤ, ◌&&◌, ◌*◌, ◌++◌, ◌+◌, ◌-◌, ◌<◌, ◌==◌, ◌||◌, ◌↔◌, ◌∙◌, ◌∷◌, ◌≡◌, ◌≤ℤ◌, ◌≤◌, ◌⊎◌}
pub use Rattle.grid_units.specs.Holes.{GridHole, IsBetween, is_round}
pub use Rattle.grid_units.specs.Points.{GridPoint, IsCoordinate, abs_diff, max_coordinate, square}
pub use Rattle.board.specs.BestPads.{AreBare, AreBestPads, IsBare, IsBestPad, NoneCovers}
pub use Rattle.board.specs.Inner.DepthLaws.{both_le, le_both, wide_pad_covers_less}
pub use Rattle.board.specs.declared.best.BestPad.{BestPad}
pub use Rattle.pad_shapes.specs.Rounded.{GridRounded, IsInSlot, IsNear, is_outline, rounded_covers}
pub use Rattle.pad_shapes.specs.Rows.{is_pad_row}
pub use Rattle.pad_shapes.specs.Shapes.{IsAxisAligned, IsInBox, covers_both_ends, end_radius}
pub use Rattle.pad_shapes.specs.WidePads.{wide_pad_covers}
pub use Rattle.pad_shapes.specs.declared.row.FeatureRow.{FeatureRow}
pub use Rattle.pad_shapes.specs.declared.wide_pad.WidePad.{WidePad}
pub use Rattle.report.specs.Causes.{AreGroups, HasNoFlash, HasNoPad, HolesHaveTheirPoints, IsCause, IsGroup, IsRingInPad, IsWithin, MarksBare, UncountedPads, half_apart, hole_shape, is_in_hole, is_in_shape, is_small, lies_in_pad, lower_end_at, other_in, other_row, others, pad_place, pad_places, uncounted_pads, upper_end_at}
pub use Rattle.report.specs.Inner.CauseParts.{HasPassed, IsFirstIn, cause_without_pad, other_cause, plain_cause, uncounted_cause}
pub use Rattle.report.specs.Inner.RescaledCounts.{AddsRange, AreCounted, AreHoleRanges, AreRescaled, AreRescaledRanges, AreSuspects, AreTried, IsFewest, IsRescaled, IsRescaledRange, IsScaledPoint, IsSuspect, IsTried, holes_of, open_part}
pub use Rattle.report.specs.UnitMistakes.{AreUnitMistakes, BareIsUncovered, IsFirstFewest, IsRoundedDown, IsUnitMistake, IsUnitMistakeOrNone, bare_count, bare_count_with, factors, holes_in, is_bare, is_bare_with, is_on_grid, is_uncovered, round_count, scaled_coordinate, scaled_point}
pub use Rattle.report.specs.declared.RingCause.{RingCause}
pub use Rattle.report.specs.declared.UnitFactor.{UnitFactor}
pub use Rattle.report.specs.declared.counts.HoleRange.{HoleRange}
pub use Rattle.report.specs.declared.fewest.Fewest.{Fewest}
pub use Rattle.report.specs.declared.fewest.Tried.{Tried}
pub use Rattle.report.specs.declared.mistakes.FileRange.{FileRange}
pub use Rattle.report.specs.declared.mistakes.Suspect.{Suspect}
pub use Rattle.report.specs.declared.other.Other.{Other}
pub use Rattle.ring_rules.specs.Findings.{is_oblique, is_refused_slot}
pub use Rattle.ring_rules.specs.Places.{default_hole, hole_at}
pub use Rattle.ring_rules.specs.declared.finding.Drilled.{Drilled}
pub use Rattle.std.proofs.Math.Seq.{drop-append_seam, get_or-append_seam, take-add}
pub use Rattle.std.proofs.lemmas.Bool.{and_from, and_parts, cases_lt, false≢true}
pub use Rattle.std.proofs.lemmas.Bool.Decides.{Decides-eqb, Decides-int_eq, nat_tests}
pub use Rattle.std.proofs.lemmas.Int.{clamps, ints, to_z-of_z}
pub use Rattle.std.proofs.lemmas.List.{drop-append-le, get_or-drop, get_or-map, get_or-take, get_or_append_left, get_or_default, length-append, length-drop, length-map, length-take-le, take-append-le, take_all, take_more}
pub use Rattle.std.proofs.lemmas.List.Elements.{All-append, All-cons, All-contains, All-get_or, All-head, All-map, All-nil, All-tail, All-weaker, Contains-append_cases, Contains-append_left, Contains-append_right}
pub use Rattle.std.proofs.lemmas.Result.{IfOk-weaker}
pub use Rattle.std.specs.List.{All, AllPairs, Contains, cons_option, count_by, enumerate_from, filter_map, find, list_any, slice_range, sum_by}
pub use Rattle.std.specs.Ordering.{int_eq}
pub use Rattle.std.specs.Prelude.{IfOk, IfSome, IsSome, if◌then◌else◌, nat_le, nat_lt, pos, unsigned_abs, ◌*ℤ◌, ◌+ℤ◌, ◌-ℤ◌}
