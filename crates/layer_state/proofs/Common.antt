-- Names that proofs of this crate cite, passed on from one place. Declares nothing.
pub use Rattle.std.proofs.Common.{Bool, Err, FitsSigned, IfOk, List, None, Ok, OnOk, Option, Result, Some, [], add-one, ap, append-nil, append_assoc, arith, cond, drop, drop-cons, false, get_or, if◌then◌else◌, inl, inr, is_none, length, length-append, lit<, map, mul-le-mul, mul-le-mul_right, nat_eq, nat_le, nat_lt, negsuc, not, of_z, pos, refl, reverse, rules, slice_get, subst, suc, sym, take, to_z, true, true≢false, unsigned_abs, unwrap_or, zero, zero-mul, ℕ, ℤ, ◌&&◌, ◌*ℤ◌, ◌*◌, ◌++◌, ◌+ℤ◌, ◌+◌, ◌-◌, ◌/◌, ◌<◌, ◌^◌, ◌||◌, ◌∙◌, ◌∷◌, ◌≡◌, ◌≤◌, ◌⊎◌}
pub use Rattle.gerber_commands.specs.declared.command.Action.{Action}
pub use Rattle.gerber_commands.specs.declared.command.Command.{Command}
pub use Rattle.gerber_commands.specs.declared.command.Command.TheVariants.{Mode, Operate}
pub use Rattle.gerber_text.specs.Reading.{Entries, ReadsIn, SpellsPrefixIn, after_end, commands_by, is_blank, latest_action, may_follow, item_entries, read_by, shown_by, spelled_in}
pub use Rattle.gerber_text.specs.Writing.{without_places}
pub use Rattle.gerber_text.specs.declared.placed.Placed.{Placed}
pub use Rattle.grid_units.proofs.BoolLemmas.{and_false, both_true, or_is_false}
pub use Rattle.grid_units.proofs.LengthLemmas.{back_128, factors, product_bound, product_fits}
pub use Rattle.grid_units.proofs.LookbackLemmas.{flat_positions-more, last_or-more, last_set-more, list_any-more, violations-append, violations-first, violations-more, with_prefixes-append}
pub use Rattle.grid_units.specs.Lists.{IsLegal, last_set, violation_at, violations, with_prefixes, with_prefixes_from}
pub use Rattle.grid_units.specs.Numbers.{is_too_far, picometres, unit_length}
pub use Rattle.grid_units.specs.Points.{GridPoint, max_coordinate}
pub use Rattle.grid_units.specs.Results.{IfFault, fault, with_place, ◌>>=◌}
pub use Rattle.grid_units.specs.declared.item_fail.ItemFail.{ItemFail}
pub use Rattle.grid_units.specs.declared.profile.Profile.{Profile}
pub use Rattle.grid_units.specs.declared.profile.Profile.TheVariants.{Strict, Wide}
pub use Rattle.layer_state.specs.Faults.{IsFirstFault, fail_at, fault_of}
pub use Rattle.layer_state.specs.FileFunction.{file_function_of, function_set}
pub use Rattle.layer_state.specs.Flashes.{added_flashes, aperture_flashes, copies, copies_at, copy_at, current_decimals, current_unit, flash_at, flashes_of, grid_at, is_flash, is_other, numbers_below, obround_at, other_count, pad_in, pads_of, rect_at, rules_out_pad, shape_at, swaps_sides, what_at, why_order}
pub use Rattle.layer_state.specs.Holding.{HasScanned, HasScannedLegal, IsScanResult}
pub use Rattle.layer_state.specs.Inner.FastOperations.{AreCachedValues, AreLengths, IsFlashOf, IsSingleFlash, changes_cached, is_far_flash, is_within, point_of}
pub use Rattle.layer_state.specs.Inner.IsStateAfter.{Applies, AppliesOrRefuses, IsStateAfter, after, current_after, state_of, state_with}
pub use Rattle.layer_state.specs.Inner.MovedPads.{flash_moved, moved_what, origin}
pub use Rattle.layer_state.specs.KeptFlashes.{Adds, KeepsFlashes, KeptParts, flash_count, keeps_flashes, keeps_pads, keeps_shapes}
pub use Rattle.layer_state.specs.Lookback.{GraphicsState, aperture_selected, block_set, current_aperture, current_of, defines_macro, definition_set, format_set, no_repeat, region_set, scale_set, state_after, template_numbered, template_set, turn_set, unit_set, x_set, y_set}
pub use Rattle.layer_state.specs.Placing.{in_order, is_turned_over, no_mirroring, oriented_point, oriented_shape, rounded_by}
pub use Rattle.layer_state.specs.Rules.{breaks_rule, broken_rule_in, flashes_too_far, has_too_many_digits, is_far_coordinate, is_far_pad, is_far_point, is_long_coordinate, makes_too_many_flashes, may_define_again, needs_aperture, reaches_too_far, sets_bad_size}
unfoldable pub use Rattle.layer_state.specs.Rules.{first_broken}
pub use Rattle.layer_state.specs.Shapes.{defined_numbered, defined_set, macro_named, macro_set}
pub use Rattle.layer_state.specs.Tables.{aperture_at, defined_at, has_name, is_allowed_again, macro_at, pieces_at, profile_of, template_at}
pub use Rattle.layer_state.specs.declared.current.Current.{Current}
pub use Rattle.layer_state.specs.declared.flash.Flash.{Flash}
pub use Rattle.layer_state.specs.declared.flashes.Flashes.{Flashes}
pub use Rattle.layer_state.specs.declared.scan.Scan.{Scan}
pub use Rattle.layer_state.specs.declared.state.State.{State}
pub use Rattle.layer_state.specs.declared.tables.Defined.{Defined}
pub use Rattle.pad_shapes.specs.Rounded.{GridRounded, IsRounded, is_outline, max_corners}
pub use Rattle.std.proofs.lemmas.Bool.{cases_lt, false≢true, ltb-false, ltb-true}
pub use Rattle.std.proofs.lemmas.Int.{fits_signed_mul, ints, to_z-of_z, to_z_pos, unsigned_abs-mul}
pub use Rattle.std.proofs.lemmas.List.{length-map, length-reverse, length-take-le, map-append, take-append-drop, take_all, take_more}
pub use Rattle.std.specs.List.{cons_option, filter_map, find, flat_map, list_all, list_any}
pub use Rattle.std.specs.Option.{option_and_then, option_copied, option_map, option_map_or, option_or}
pub use mir.Syntax.{w128, w64}
