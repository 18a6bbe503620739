-- Names that proofs of this crate cite, passed on from one place. Declares nothing.
pub use Rattle.std.proofs.Common.{Bool, Bor, List, [], ap, arith, cond, drop, false, get_or, inl, inr, length, map, max, min, negsuc, of_z, pos, refl, rules, set, slice_index_or, subst, suc, sym, take, to_z, true, w64, zero, ℕ, ℤ, ◌*◌, ◌++◌, ◌+ℤ◌, ◌+◌, ◌-ℤ◌, ◌-◌, ◌/◌, ◌<ℤ◌, ◌<◌, ◌^◌, ◌∙◌, ◌∷◌, ◌≡◌, ◌≢◌, ◌≤ℤ◌, ◌≤◌, ◌⊎◌}
pub use Rattle.grid_units.proofs.BoolLemmas.{and_false_right, both_true, either, not_false, not_true, or_is_false}
pub use Rattle.grid_units.specs.Holes.{AreClear, GridHole, GridRules, IsBetween, IsInCore}
pub use Rattle.grid_units.specs.Points.{GridPoint, IsCoordinate, abs_diff, square, square_distance}
pub use Rattle.grid_units.specs.Spans.{is_in_span}
pub use Rattle.grid_units.specs.declared.profile.Profile.{Profile}
pub use Rattle.pad_shapes.specs.Holding.{HoldsCoveredHoles, covers_hole}
pub use Rattle.pad_shapes.specs.Zones.{IsInZone}
pub use Rattle.ring_rules.specs.Cells.{cell_at, cell_of, column_of, place_of, row_of}
pub use Rattle.ring_rules.specs.Cores.{ClearHolesAreApart, are_clear, positive_part, range_distance, square_of_cores}
pub use Rattle.ring_rules.specs.Findings.{finding_of, gap_findings, hole_findings, is_oblique, is_refused_slot, is_ring_finding, lacks_ring, layer_findings, ring_findings}
pub use Rattle.ring_rules.specs.Inner.ClashingPairs.{AddsClashes, AreClashing, IsClash, IsPairBefore, ListsClash, ListsClashes, in_order}
pub use Rattle.ring_rules.specs.Inner.Forms.{HasForm, HaveForms, default_entry, form_at, hole_of_form, spot_of, spot_with}
pub use Rattle.ring_rules.specs.Inner.FoundPlaces.{AddsFound, IsSpotInZone, ListsFound}
pub use Rattle.ring_rules.specs.Inner.Marks.{HasNoMarkFrom, NoMarkPassesFrom, RemovesMarks, gives_ring_at, is_marked}
unfoldable pub use Rattle.ring_rules.specs.Inner.Marks.{gives_ring}
pub use Rattle.ring_rules.specs.Inner.Regions.{IsInRegion, NoMarkPassesIn}
pub use Rattle.ring_rules.specs.Inner.SpotLists.{AddsSpots, AreSpotted, Regroups}
pub use Rattle.ring_rules.specs.Inner.Trees.{AreClosedUnmarked, AreNodes, HoldsRun, IsNode, default_node, node_at}
pub use Rattle.ring_rules.specs.Near.{AreNearer, AreWithin, IsWithinLimits, size_of}
pub use Rattle.ring_rules.specs.Places.{IsChained, default_hole, entry_at, hole_at, steps_above}
pub use Rattle.ring_rules.specs.Search.{AreMarkedBy, AreMarksOver, Covering, HasTried, HasTriedCoverings, IsSearchOver, drilled_at}
pub use Rattle.ring_rules.specs.Spots.{AreInCells, AreSpotsOf, HasSpot, IsSpotOf, default_spot, point_at, spot_at}
pub use Rattle.ring_rules.specs.WithoutFindings.{ApartWithoutFindings, AreAmong, FindsNoObliqueInWide, FindsOblique, GapsNamePlaces, HolesHoldWithoutFindings, JudgesByCoverings, NamesPlaces, RingsHoldWithoutFindings, RingsNamePlaces, SlotsHoldWithoutFindings, StraightWithoutFindings, WideFindsNoMore}
pub use Rattle.ring_rules.specs.declared.cell_size.Axis.{Axis}
pub use Rattle.ring_rules.specs.declared.finding.Drilled.{Drilled}
pub use Rattle.ring_rules.specs.declared.finding.Finding.{Finding}
pub use Rattle.ring_rules.specs.declared.finding.Finding.TheVariants.{Gap, Oblique, Ring}
pub use Rattle.ring_rules.specs.declared.ring_index.RingIndex.{RingIndex}
pub use Rattle.ring_rules.specs.declared.spot_list.Entry.{Entry}
pub use Rattle.ring_rules.specs.declared.spots.Run.{Run}
pub use Rattle.ring_rules.specs.declared.spots.Spot.{Spot}
pub use Rattle.ring_rules.specs.declared.tree.Node.{Node}
pub use Rattle.std.proofs.lemmas.Bool.{cases_eq, cases_lt}
pub use Rattle.std.proofs.lemmas.Bool.Decides.{Decides-int_eq, nat_tests}
pub use Rattle.std.proofs.lemmas.Int.{by_lt_z, clamps, ints, to_z-of_z}
pub use Rattle.std.proofs.lemmas.List.{append-nil, append_assoc, drop-map, get_or-drop, get_or-map, get_or-replicate, get_or-set_other, get_or-set_same, get_or-take, get_or_append_left, get_or_default, get_or_past, get_or_push, length-drop, length-map, length-replicate, length-set, length_push, map-append, map_push, same_lists, take_all, take_at, take_more, with_items_is}
pub use Rattle.std.proofs.lemmas.List.Elements.{All-append, All-cons, All-contains, All-filter, All-from_get_or, All-from_recursion, All-get_or, All-head, All-map, All-nil, All-same, All-tail, All-weaker, Contains-append_left, Contains-append_right, Contains-get_or, filter-append, filter_passes}
pub use Rattle.std.proofs.lemmas.List.FromFn.{get_or-enumerate_from, length-enumerate_from}
pub use Rattle.std.proofs.lemmas.List.Kept.{AllPairs-cons, AllPairs-filter, Contains-dedup, Contains-from_dedup, IsStrictlySortedBy-dedup}
pub use Rattle.std.proofs.lemmas.List.Sorted.{All-permutation, Contains-permutation, IsPartitionPoint-from_clause, IsPermutation-map, IsPermutation-put_mid, IsPermutation-refl, IsPermutation-sym, answers_always, length_permutation, ranks_by, sorted_far}
pub use Rattle.std.proofs.lemmas.Result.{IfOk-weaker, on_ok_weaker}
pub use Rattle.std.specs.Int.{int_max, int_min}
pub use Rattle.std.specs.List.{All, AllPairs, Contains, enumerate_from, filter, flat_map, list_any, prefix_len}
pub use Rattle.std.specs.List.Sorted.{IsPartitionPoint, IsPartitionedBy, IsPermutation, IsSortedByKey}
unfoldable pub use Rattle.std.specs.List.Sorted.{IsStrictlySortedBy}
pub use Rattle.std.specs.Ordering.{eq_by_cmp, int_cmp, int_eq, is_lt, nat_cmp, ordering_then}
pub use Rattle.std.specs.Prelude.{Err, IfOk, Ok, Result, int_le, int_lt, nat_eq, nat_le, nat_lt, not, ⊤, ◌&&◌, ◌||◌}
