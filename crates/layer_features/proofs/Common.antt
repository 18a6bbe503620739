-- Names that proofs of this crate cite, passed on from one place. Declares nothing.
pub use Rattle.std.proofs.Common.{Bool, Err, FitsSigned, List, None, Ok, OnOk, Option, Result, Some, [], add-one, ap, append-nil, append_assoc, arith, below_more, cond, drop, false, get_or, inl, inr, length, length-append, map, mul-le-mul, nat_eq, negsuc, not, of_z, pos, refl, reverse, subst, suc, sym, take, take-append-drop, to_z, true, unsigned_abs, unwrap_or, zero, ℕ, ℤ, ◌%◌, ◌&&◌, ◌*ℤ◌, ◌*◌, ◌++◌, ◌+ℤ◌, ◌+◌, ◌-ℤ◌, ◌-◌, ◌<◌, ◌==◌, ◌^◌, ◌||◌, ◌∙◌, ◌∷◌, ◌≡◌, ◌≤◌, ◌⊎◌}
pub use Rattle.gerber_commands.specs.declared.command.Command.{Command}
pub use Rattle.gerber_commands.specs.declared.command.Format.{Format}
pub use Rattle.gerber_commands.specs.Pieces.{unit_scale}
pub use Rattle.grid_units.proofs.LookbackLemmas.{last_or-more, last_set-more, list_any-more, with_prefixes-append}
pub use Rattle.grid_units.specs.Lists.{last_set, violation_at, with_prefixes, with_prefixes_from}
pub use Rattle.grid_units.specs.Numbers.{picometres}
unfoldable pub use Rattle.grid_units.specs.Numbers.{parse_decimal, within_limit}
pub use Rattle.grid_units.specs.Points.{GridPoint, square}
pub use Rattle.grid_units.specs.declared.lengths.Unit.TheVariants.{Millimetre}
pub use Rattle.grid_units.specs.declared.profile.Profile.{Profile}
pub use Rattle.layer_features.specs.AfterLast.{up_to_last}
pub use Rattle.layer_features.specs.Blocks.{copy_count, in_open_block, is_repeated}
pub use Rattle.layer_features.specs.Clearing.{positions_up_to_clearing, clears_all, draws, is_clear_after, is_clearing, is_drawing, polarity_set, positions_after_clearing}
pub use Rattle.layer_features.specs.Contours.{PlotState, contour_of, ends_of, is_clockwise, is_counterclockwise, is_move, part_by, part_of, points_of, polygon_by, region_parts, sides_of, starts_region}
pub use Rattle.layer_features.specs.CopperLaws.{ContoursAreInsideEdges, FlashedShapesAreInPrimitives, LegalWidePads, UnclearedPositions, WidePadsAreUnique}
pub use Rattle.layer_features.specs.Drawn.{DrawState, draw_state_after, drawn_by, mirroring_set, mode_set, near, operation_point, point_at, quadrant_set, selected_shape, stays_near}
pub use Rattle.layer_features.specs.Features.{added_features, contour_count, contour_feature, counts_of, dark_kind, features_at, flash_feature, flashed_count, is_contour, is_flashed_pad, is_other, other_count, other_kind, pad_in, pads_of, taken_away, taken_kind, wide_features_of}
pub use Rattle.layer_features.specs.FurtherPads.{CopperState, clearing_after, clears_in, contours_in, copper_state_after, ended_copies, ended_regions, flash_shape, flashed_pad, has_room, is_room, macro_why, plot_state}
pub use Rattle.layer_features.specs.Inner.Forgetting.{are_sides_of_none, is_over, starts_no_pad, starts_no_polygon}
pub use Rattle.layer_features.specs.Inner.Plotters.{Selection, after_command, draw_state, pencil_state, selection, selection_after}
pub use Rattle.layer_features.specs.Inner.States.{IsLike, MakeSameContour, after, with_capped_regions, clearing_with, copper_state, parts_after, takes_part, with_parts}
pub use Rattle.layer_features.specs.Inner.Steps.{AreWidePadsOf, changes_block, clockwise_round, counterclockwise_round, in_last_region, is_move_or_none, is_no_move, leading_sides, max_regions, polygon_of_sides}
pub use Rattle.layer_features.specs.Inner.Turns.{turns_both_ways, turns_left, turns_right}
pub use Rattle.layer_features.specs.Kept.{KeepsFeatures, first_taken_away, keeps_drawn, keeps_rows, left_pads}
pub use Rattle.layer_features.specs.WidePads.{AreDarkPads, AreWideFlashPads, AreWidePads, AreWidePadsAt, IsMacroShape, IsSelectedShape, IsTemplateShape, contour_after, contours_at, plot_state_after, point_in, template_set, wide_pad_at}
pub use Rattle.layer_features.specs.declared.feature.Feature.{Feature}
pub use Rattle.layer_features.specs.declared.part.Part.{Part}
pub use Rattle.layer_state.specs.Flashes.{added_flashes, aperture_flashes, copies, copies_at, current_unit, disc_at, flash_at, flashes_of, numbers_below, obround_at, quarter, rect_at, swaps_sides, what_at}
pub use Rattle.layer_state.specs.Lookback.{GraphicsState, aperture_selected, block_set, current_aperture, current_of, definition_set, format_set, has_hole, no_repeat, region_set, scale_set, size_at, state_after, turn_set, unit_set, x_set, y_set}
pub use Rattle.layer_state.specs.Pads.{MayFlash, copies_in, pad_at}
pub use Rattle.layer_state.specs.Placing.{copy_in, in_order, is_turned_over, mirrored_point, no_mirroring, oriented_point, shapes_at, turned_point}
pub use Rattle.layer_state.specs.Rules.{all_rules, breaks_rule, broken_rule_in, may_define_again}
unfoldable pub use Rattle.layer_state.specs.Rules.{first_broken}
pub use Rattle.layer_state.specs.Shapes.{defined_numbered, macro_named, primitives_shape, selected_after, within_limits}
unfoldable pub use Rattle.layer_state.specs.Shapes.{inner_primitive}
pub use Rattle.layer_state.specs.declared.current.Current.{Current}
pub use Rattle.layer_state.specs.declared.flash.Flash.{Flash}
pub use Rattle.macro_shapes.specs.Primitives.{are_different, is_closed, is_same, moves, polygon_of, polygon_round, stops}
pub use Rattle.pad_shapes.specs.Placed.{is_near, moved_point, moved_shape, shape_at}
pub use Rattle.pad_shapes.specs.Rounded.{Edge, GridRounded, IsInRounded, IsNear, PolygonIsLeftOfEdges, WeightedPoint, corners, cross, edges_back, has_area, is_convex, is_deep_inside, is_deep_left, is_deep_left_of_all, is_outline, max_corners, total_weight, weighted_sum}
pub use Rattle.pad_shapes.specs.declared.wide_pad.WidePad.{WidePad}
pub use Rattle.std.proofs.lemmas.Bool.{and_from, and_parts, cases_order, false≢true, or_cases, or_from, or_left, or_right}
pub use Rattle.std.proofs.lemmas.Int.{ints, to_z-of_z, unsigned_abs-mul}
pub use Rattle.std.proofs.lemmas.List.{get_or_default, map-append, reverse-append, take_all, take_more}
pub use Rattle.std.proofs.lemmas.List.Elements.{All-map, filter_map-append}
pub use Rattle.std.proofs.lemmas.List.Sums.{prefix_len_is, sum_by-append, sum_by-cons, sum_by_push}
pub use Rattle.std.proofs.lemmas.Option.{none-some}
pub use Rattle.std.specs.List.{AllByRecursion, after_last, Contains, cons_option, filter_map, find, flat_map, list_all, list_any, prefix_len, sum_by}
pub use Rattle.std.specs.Option.{option_copied, option_map_or, option_or}
pub use Rattle.std.specs.Ordering.{int_eq}
pub use Rattle.std.specs.Prelude.{count_by, if◌then◌else◌, int_le, int_lt, is_none, min, nat_le, nat_lt, neg_ℤ, option_and_then, option_map, ◌↔◌}
pub use mir.Syntax.{w128, w64}
