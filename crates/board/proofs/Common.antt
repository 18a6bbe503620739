-- Names that proofs of this crate cite, passed on from one place. Declares nothing.
pub use Rattle.std.proofs.Common.{Bool, Bor, IfSome, IsSomeAnd, List, None, Option, Some, [], ap, arith, cond, drop, false, get_or, inl, inr, length, map, max, min, negsuc, not, of_z, pos, refl, set, subst, suc, sym, take, to_z, true, w64, zero, ℕ, ℤ, ◌*◌, ◌++◌, ◌+ℤ◌, ◌+◌, ◌-ℤ◌, ◌-◌, ◌<ℤ◌, ◌<◌, ◌↔◌, ◌∙◌, ◌∷◌, ◌≡◌, ◌≤ℤ◌, ◌≤◌, ◌⊎◌}
pub use Rattle.grid_units.proofs.BoolLemmas.{and_false_right, both_true, either, not_false, not_true, or_is_false}
pub use Rattle.grid_units.proofs.TriangleInequalities.{abs_diff_comm, abs_diff_triangle, le_of_squares, square-le, two_steps-le}
pub use Rattle.grid_units.specs.Holes.{GridHole}
pub use Rattle.grid_units.specs.Points.{GridPoint, abs_diff, square, square_distance}
pub use Rattle.grid_units.specs.declared.profile.Profile.{Profile}
pub use Rattle.board.specs.BestPads.{AreBare, AreBestPads, IsBare, IsBestPad}
pub use Rattle.board.specs.Depths.{CoversLess, IsDepth, IsDepthOfHole}
pub use Rattle.board.specs.Gaps.{IsGap}
pub use Rattle.board.specs.Hulls.{IsDeepIn, IsHullOf, IsWiderThan}
pub use Rattle.board.specs.Inner.BestPads.{AllImprove, AreAllCovered, AreGroups, AreNoBetter, AreTriedOrLarge, HoldsNone, Improves, IsDepthInPad, IsGroup, IsInGroup, IsNoBetter, IsNoBetterAt, IsNoBetterForAll, IsTriedAt, one_unless_before, required_depth}
pub use Rattle.board.specs.Inner.Meets.{NeedsRingBefore, NeedsRingOn, with_length, with_length_in_pads}
pub use Rattle.board.specs.Inner.NearestHoles.{IsGapOf, IsNearerPair, IsNearestAmong, IsNearestForAll, IsNearestForHole, IsNearestForLater, IsPairAt, IsPairInRange}
pub use Rattle.board.specs.Meets.{AreLeast, GapsPassExactly, HasGap, HasLeast, HasLeastInPads, HasRing, IsLeast, IsLeastInPads, IsRing, IsRingOf, LacksAll, MeetsGaps, NeedsRing, RingsPassExactly, needs_ring}
pub use Rattle.board.specs.NearestHoles.{IsNearest, IsNearestOf, IsNoFurther, IsPair}
pub use Rattle.board.specs.Rows.{IsLeastRing, IsLeastRingOf, has_no_best_pad, has_no_ring, ring_at, ring_from_best}
pub use Rattle.board.specs.declared.best.BestPad.{BestPad}
pub use Rattle.board.specs.declared.nearest.Nearest.{Nearest}
pub use Rattle.pad_shapes.specs.Shapes.{GridDisc, GridObround, GridRect, covers_both_ends, disc_covers, end_radius, obround_covers, rect_covers, square_axis_distance}
pub use Rattle.pad_shapes.specs.Zones.{CoversNone, IsInZone}
pub use Rattle.pad_shapes.specs.declared.zone.Zone.{Zone}
pub use Rattle.ring_rules.specs.Cores.{are_clear, positive_part, range_distance, square_of_cores}
pub use Rattle.ring_rules.specs.Findings.{finding_of, gap_findings, hole_findings, is_refused_slot, is_ring_finding, lacks_ring, layer_findings, ring_findings}
pub use Rattle.ring_rules.specs.Places.{default_hole, entry_at, hole_at}
pub use Rattle.ring_rules.specs.declared.finding.Drilled.{Drilled}
pub use Rattle.std.proofs.lemmas.Bool.{cases_eq, cases_lt, false≢true}
pub use Rattle.std.proofs.lemmas.Bool.Decides.{nat_tests}
pub use Rattle.std.proofs.lemmas.Int.{clamps, ints}
pub use Rattle.std.proofs.lemmas.List.{get_or-map, get_or-replicate, get_or-set_other, get_or-set_same, get_or-take, get_or_append_left, get_or_default, get_or_push, length-append, length-map, length-replicate, length-set, length-take-le, map_more, take_at}
pub use Rattle.std.proofs.lemmas.List.Elements.{All-get_or}
pub use Rattle.std.proofs.lemmas.Result.{IfOk-weaker}
pub use Rattle.std.specs.Int.{int_max, int_min}
pub use Rattle.std.specs.List.{All, Contains, count_by, enumerate_from, filter, flat_map, list_all, list_any}
pub use Rattle.std.specs.Prelude.{if◌then◌else◌, int_lt, nat_le, nat_lt, replicate, unsigned_abs, ◌&&◌, ◌||◌}
