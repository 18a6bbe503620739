-- Names that proofs of this crate cite, passed on from one place. Declares nothing.
pub use Rattle.std.proofs.Common.{All, Bool, Err, IfOk, IfSome, IsSome, List, None, Ok, Option, Result, Some, [], add-one, ap, append_assoc, arith, cond, drop, eqb, false, get_or, inl, inr, is_none, is_some, leb, length, lit≤, ltb, map, nat_eq, nat_le, not, of_z, pos, refl, replicate, rules, subst, suc, sym, take, to_z, true, unsigned_abs, unwrap_or, vec_len, w64, zero, ℕ, ℤ, ◌&&◌, ◌*◌, ◌++◌, ◌+◌, ◌-◌, ◌/◌, ◌<◌, ◌||◌, ◌↔◌, ◌∙◌, ◌∷◌, ◌≡◌, ◌≢◌, ◌≤ℤ◌, ◌≤◌, ◌⊎◌}
pub use Rattle.drill_lines.proofs.Answered.{means, written_is_answered}
unfoldable pub use Rattle.drill_lines.proofs.Answered.{read_in_part}
pub use Rattle.drill_lines.specs.HoleLines.{Runs, field, format_in, runs_of, zeros_in}
unfoldable pub use Rattle.drill_lines.specs.HoleLines.{coordinate, coordinate_of, coordinates, hole_from, hole_line, slot_line}
pub use Rattle.drill_lines.specs.Inner.RouteSteps.{IsFree, IsRouteAfter}
pub use Rattle.drill_lines.specs.LineReading.{HasReadLines, IsLater, ReadsLine}
pub use Rattle.drill_lines.specs.Lines.{is_blank, without_end_blanks}
pub use Rattle.drill_lines.specs.Meaning.{begins_comment, body_rows, common_rows, header_rows, one_command}
unfoldable pub use Rattle.drill_lines.specs.Meaning.{body_prefixes, common_lines, header_ends, line_in, lines_before, meaning}
pub use Rattle.drill_lines.specs.RouteGrammar.{IsAlone, IsRoute}
pub use Rattle.drill_lines.specs.Routes.{cuts, is_routing, last_line, lowers, machine_after, may_stand, meaning_in, other_line, part_row, says_nothing, starts, unless_routing}
unfoldable pub use Rattle.drill_lines.specs.Routes.{wide_meaning}
pub use Rattle.drill_lines.specs.Writing.{IsInRange, canonical, is_sayable}
pub use Rattle.drill_lines.specs.declared.command.CoordinateFormat.{CoordinateFormat}
pub use Rattle.drill_lines.specs.declared.command.Coordinates.{Coordinates}
pub use Rattle.drill_lines.specs.declared.command.DrillCommand.{DrillCommand}
pub use Rattle.drill_lines.specs.declared.command.DrillCommand.TheVariants.{Comment, Finish, HeaderEnd, Hit, Pick, Slot, Start, Tool, UnitLine}
pub use Rattle.drill_lines.specs.declared.command.Part.{Part}
pub use Rattle.drill_lines.specs.declared.command.Settings.{Settings}
pub use Rattle.drill_lines.specs.declared.route.Machine.{Machine}
pub use Rattle.drill_text.specs.Grammar.{AreEntries, IsWideEntry, IsRepeated, Spells, IsText, lines_of}
pub use Rattle.drill_text.specs.Holding.{Advances, HasFault, Holds, Refuses, RefusesText}
pub use Rattle.drill_text.specs.Holes.{DrillPath, coordinate_in, diameter_after, hole_of, holes_at, holes_of, path_at, point_at, unit_after, unit_or}
pub use Rattle.drill_text.specs.Inner.FastPath.{HasLeadingHit, HasLineEnd, IsLeadingRun, MayLead}
pub use Rattle.drill_text.specs.Inner.StateSteps.{Applies, AppliesOrRefuses, AreWordsAfter, DrillsOrRefuses, IsStateAfter, IsWidth, after, broken_in, drill_path, given_last, heard, hole_between, hole_in, hole_rule, mark_of, at_last_point, no_point, own_broken, own_in, path_between, picked_plating, plates_otherwise, plating_in, point_in, resolved_point, settings_with, state_of}
pub use Rattle.drill_text.specs.Keeping.{HasReadIn, ResultsIn, ResultsInLine}
pub use Rattle.drill_text.specs.Laws.{DrilledHolesAreListed, DrillsAtMostOneList, IsTextOfAtMostOne, IsWithinLimits, ListedHolesAreDrilled, ReadIsWritten, SpelledIsWritten, WideHolesAreDrilled, WrittenIsRead}
pub use Rattle.drill_text.specs.Lines.{HasNoBreak, Splits, bytes_of, ended_line}
pub use Rattle.drill_text.specs.Lookback.{StateView, diameter_set, ends_header, format_set, header, part_after, part_set, points_in, points_of, settings_after, state_after, tool_set, tools_at, tools_of, unit_set, x_set, y_set, zeros_set}
pub use Rattle.drill_text.specs.Outcome.{DrillFile, commands_in, diameter_of_tool, diameters, file_of, kept_platings}
pub use Rattle.drill_text.specs.Plating.{IsCalled, calls_plated, calls_unplated, contradiction_rule, is_plated, is_unsaid, lacks_plating, own_rule, plated_at, plating_after, plating_of_tool, plating_rule, plating_set, redefines_plating, rule_in, said_after, tool_made}
pub use Rattle.drill_text.specs.Repeats.{further_hits, hit_on}
unfoldable pub use Rattle.drill_text.specs.Repeats.{ends_in_hit}
pub use Rattle.drill_lines.specs.declared.command.Repeat.{Repeat}
pub use Rattle.drill_text.specs.Profiles.{checked_all, checked_repeat, repeat_after}
pub use Rattle.drill_text.specs.Profiles.{Kind, Reads, ReadsAsBy, ReadsAsIn, ReadsBy, ReadsIn, Shows, ShowsBy, add_unless, checked_by, commands_by, commands_at_end, is_finish, place_after, place_after_count, plain, read_by, said_first, shown_by, shown_within, spelled_in, by_role, with_rest}
unfoldable pub use Rattle.drill_text.specs.Profiles.{step_in}
pub use Rattle.drill_text.specs.Rules.{applies, broken_rule, broken_rule_in, defines_alike, drills, first_broken_in, has_bad_size, has_no_tool, lacks_unit, max_holes, redefines_tool}
unfoldable pub use Rattle.drill_text.specs.Rules.{first_broken, width_with}
pub use Rattle.drill_text.specs.Texts.{AreWithinLimit, IsDrillText, ReadsAs, SpellsText, spelled_after}
pub use Rattle.drill_text.specs.Writing.{are_sayable, canonical_lines, drill_sayable, is_after_end, part_from, part_with, vec_bytes, rewritten_text}
pub use Rattle.drill_text.specs.declared.kept.Keep.{Keep}
pub use Rattle.drill_text.specs.declared.kept.Keep.TheVariants.{Commands}
pub use Rattle.drill_text.specs.declared.platings.PlatingKind.{PlatingKind}
pub use Rattle.drill_text.specs.declared.platings.PlatingKind.TheVariants.{Stated}
pub use Rattle.drill_text.specs.declared.reader.Progress.{Progress}
pub use Rattle.drill_text.specs.declared.state.DrillState.{DrillState}
pub use Rattle.grid_units.proofs.BoolLemmas.{and_false, and_false_right, and_true, both_true, not_true, or_is_false}
pub use Rattle.grid_units.proofs.LookbackLemmas.{flat_positions-more, last_or-more, last_set-append, last_set-more, list_any-more, option_or_assoc, option_or_none, unwrap_or_or, violations-append, violations-more, with_prefixes-append}
pub use Rattle.grid_units.proofs.ResultLemmas.{bind_Ok, bind_assoc, bind_cong, bind_err, bind_ok, guard_err, guard_ok}
pub use Rattle.grid_units.specs.Holes.{GridHole}
pub use Rattle.grid_units.specs.Limits.{line_limit, text_limit}
pub use Rattle.grid_units.specs.Lists.{IsLegal, last_set, violation_at, violations, with_prefixes, with_prefixes_from}
pub use Rattle.grid_units.specs.Numbers.{fits_eight_decimals, fraction, is_decimal, is_digits, is_number_char, is_too_far, picometres, signed_value, to_units, value, value_without_point, whole, without_sign, zero_filled, zeros_to_fill}
unfoldable pub use Rattle.grid_units.specs.Numbers.{parse_decimal, parse_zero_filled, within_limit}
pub use Rattle.grid_units.specs.Results.{Answers, IfFault, IsRefusedAs, both, fault, with_place, ◌>>=◌}
pub use Rattle.grid_units.specs.declared.fault.Fail.{Fail}
pub use Rattle.grid_units.specs.declared.fault.Fault.{Fault}
pub use Rattle.grid_units.specs.declared.fault.Reason.{Reason}
pub use Rattle.grid_units.specs.declared.fault.Reason.TheVariants.{BadLine, BadSize, FormatConflict, NoPlating, NoTool, NoUnit, PlatingConflict, Redefined, Routed, TooFar, TooLong, TooManyHoles, Truncated, UnitConflict, UnknownTool}
pub use Rattle.grid_units.specs.declared.item_fail.ItemFail.{ItemFail}
pub use Rattle.grid_units.specs.declared.lengths.Unit.TheVariants.{Inch, Millimetre}
pub use Rattle.grid_units.specs.declared.profile.Profile.{Profile}
pub use Rattle.grid_units.specs.declared.profile.Profile.TheVariants.{Strict, Wide}
pub use Rattle.indexmap.specs.IndexMap.{get}
pub use Rattle.std.proofs.Math.Seq.{drop-cons, take-add, take-suc}
pub use Rattle.std.proofs.lemmas.Bool.{eq-eqb, eqb-false, eqb-true, false≢true, le-ltb, lt-ltb, ltb-false, ltb-true, ne_eqb}
pub use Rattle.std.proofs.lemmas.Int.{ints, to_z-of_z}
pub use Rattle.std.proofs.lemmas.List.{append-nil, drop_all, get_or-take, length-append, length-drop, length-take, map-append, nil_from_length, take-append-drop, take-append-le, take_all, take_at, take_more, take_rest}
pub use Rattle.std.proofs.lemmas.List.Concat.{flat_map-append}
pub use Rattle.std.proofs.lemmas.List.Elements.{All-from_get_or, filter_map-append, recursion_from_All}
pub use Rattle.std.proofs.lemmas.Result.{IfErr-weaker, err_from_is_err_and}
pub use Rattle.std.specs.List.{AllByRecursion, AllZip, Contains, cons_option, filter, filter_map, find, flat_map, fold, list_all, list_any, onto_first, prefix_len}
pub use Rattle.std.specs.Option.{ok_or, option_and_then, option_map, option_map_or, option_or, option_to_list}
pub use Rattle.std.specs.Prelude.{codes, int_le}
