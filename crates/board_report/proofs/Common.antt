-- Names that proofs of this crate cite, passed on from one place. Declares nothing.
pub use Rattle.std.proofs.Common.{Bool, Bor, Equal, Err, Greater, IfOk, Less, List, None, Option, Some, [], ap, ap₂, arith, cond, drop, eqb, false, get_or, inl, inr, length, ltb, map, min, of_z, pos, refl, rules, subst, suc, sym, take, to_z, true, w64, zero, ℕ, ℤ, ◌&&◌, ◌*◌, ◌++◌, ◌+◌, ◌-◌, ◌<◌, ◌||◌, ◌∙◌, ◌∷◌, ◌≡◌, ◌≤◌, ◌⊎◌}
pub use Rattle.board_report.specs.BoardReport.{IsGapEntry, IsRingEntry, IsRingEntryAt, layer_pads, layer_uncounted, is_gap}
pub use Rattle.board_report.specs.Inner.EntriesSoFar.{AddsEntry, AreBoardBests, IsCurrentLayer}
pub use Rattle.board_report.specs.Inner.Tables.{AreFoundMistakes, AreSearched, IsLayerFileHoles, IsNumberedLeast, IsRowOf, IsSearched, IsTableOf, IsUnitMistakeOfOrNone, has_radius, is_not_empty, items_at, mistake_list, row_of}
pub use Rattle.board_report.specs.Measures.{AreLayerBests, BoardPasses, IsMeasure}
pub use Rattle.board_report.specs.Rows.{AreFileHoles, AreFilesWithHoles, AreRowLines, AreUnitMistakes, IsBefore, IsFileHoles, IsLeastWithNumber, IsPlace, IsRowLine, IsUnitMistakeOf, RowKey, first_pads, holes_in, is_in_row, is_plated, places_in, places_of}
pub use Rattle.board_report.specs.declared.places.FileHoles.{FileHoles}
pub use Rattle.board_report.specs.declared.rows.LayerFileHoles.{LayerFileHoles}
pub use Rattle.grid_units.specs.Holes.{GridHole}
pub use Rattle.grid_units.specs.declared.profile.Profile.{Profile}
pub use Rattle.board.specs.BestPads.{AreBestPads}
pub use Rattle.board.specs.Meets.{GapsPass, GapsPassExactly, MeetsOnLayers, RingsPass, RingsPassExactly, needs_ring}
pub use Rattle.board.specs.declared.best.BestPad.{BestPad}
pub use Rattle.board.specs.Boards.{BoardView, CountsAddUp, board_findings, hole_count, holes_before}
pub use Rattle.board.specs.declared.FileSum.{FileSum}
pub use Rattle.pad_shapes.specs.WidePads.{wide_pad_covers}
pub use Rattle.pad_shapes.specs.declared.wide_pad.WidePad.{WidePad}
pub use Rattle.report.specs.declared.RingLine.{RingLine}
pub use Rattle.ring_rules.specs.Places.{default_hole, hole_at}
pub use Rattle.ring_rules.specs.declared.finding.Drilled.{Drilled}
pub use Rattle.ring_rules.specs.declared.finding.Finding.{Finding}
pub use Rattle.std.proofs.lemmas.Bool.{cases_lt, eqb-true, false≢true}
pub use Rattle.std.proofs.lemmas.Bool.Decides.{eqb_tells, nat_tests}
pub use Rattle.std.proofs.lemmas.List.{append-nil, drop_all, drop_more, get_or-append_right, get_or-map, get_or_append_left, get_or_default, get_or_push, length-append, length-map, map_push, take_all, take_more}
pub use Rattle.std.proofs.lemmas.List.Elements.{All-append, All-contains, All-filter, Contains-append_left, Contains-append_right, Contains-get_or, Contains-push, filter-append, filter_passes}
pub use Rattle.std.specs.BTreeMap.{BTreeMap, IsOrdered, get, is_at, keys, values}
pub use Rattle.std.specs.Global.{Vec}
pub use Rattle.std.specs.List.{All, AllPairs, AllZip, Contains, filter, range_with_len, slice_get, slice_range, sum_by}
pub use Rattle.std.specs.Prelude.{IfSome, Ok, if◌then◌else◌, is_some, not, ◌*ℤ◌}
