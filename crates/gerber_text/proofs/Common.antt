-- Names that proofs of this crate cite, passed on from one place. Declares nothing.
pub use Rattle.std.proofs.Common.{All, Bool, Contains, Err, List, None, Ok, Option, Result, Some, [], add-zero, ap, append_assoc, arith, cond, drop, drop-cons, eqb, false, get_or, inl, inr, is_some, leb, length, lit<, lit≤, ltb, map, negsuc, not, pos, refl, rules, subst, suc, sym, take, true, unwrap_or, w64, zero, ℕ, ℤ, ◌%◌, ◌&&◌, ◌*◌, ◌++◌, ◌+◌, ◌-◌, ◌/◌, ◌<◌, ◌^◌, ◌||◌, ◌↔◌, ◌∙◌, ◌∷◌, ◌≡◌, ◌≢◌, ◌≤◌, ◌⊎◌}
pub use Rattle.gerber_commands.specs.Canonical.{action_code, coordinate_text, integer, pieces_text, sizes_text, standard_name, template_text}
unfoldable pub use Rattle.gerber_commands.specs.Canonical.{canonical}
pub use Rattle.gerber_commands.specs.Negative.{is_negative_comment, is_negative_image}
pub use Rattle.gerber_commands.specs.Numbers.{significant_digits}
unfoldable pub use Rattle.gerber_commands.specs.Numbers.{int_of, nat_of}
pub use Rattle.gerber_commands.specs.Rows.{Meaning, Row, field, first_match, modes_of}
pub use Rattle.gerber_commands.specs.declared.command.Action.{Action}
pub use Rattle.gerber_commands.specs.declared.command.Action.TheVariants.{Flash, Move, Plot}
pub use Rattle.gerber_commands.specs.declared.command.Command.{Command}
pub use Rattle.gerber_commands.specs.declared.command.Command.TheVariants.{Attribute, Clear, Comment, Dark, Define, Finish, FormatIs, Macro, Mirror, Mode, Operate, Quadrant, RegionEnd, RegionStart, Remove, Repeat, RepeatEnd, Scale, Select, Turn, UnitIs}
pub use Rattle.gerber_commands.specs.declared.command.Interpolation.{Interpolation}
pub use Rattle.gerber_commands.specs.declared.command.Interpolation.TheVariants.{Clockwise, Counterclockwise, Linear}
pub use Rattle.gerber_commands.specs.declared.command.QuadrantMode.TheVariants.{Multi, Single}
pub use Rattle.gerber_commands.specs.declared.command.Standard.{Standard}
pub use Rattle.gerber_commands.specs.declared.command.Standard.TheVariants.{Circle, Obround, Polygon, Rectangle}
pub use Rattle.gerber_commands.specs.declared.command.Template.{Template}
pub use Rattle.gerber_commands.proofs.RowLemmas.{IsPlain, block_fields_are, bytes_are}
pub use Rattle.gerber_commands.specs.PieceGrammar.{HasNo, IsMacro, IsMacroName, IsPiece, IsTemplate, SpellsOne, fixed_pieces, standards}
pub use Rattle.gerber_commands.specs.Pieces.{after_comma, all_values, are_sizes, before_comma, before_last, define_template, format_fields, has_several_pieces, is_name_byte, is_name_start, last_byte, macro_of, max_sizes, min_sizes, pieces, repeat_fields, standard_template}
unfoldable pub use Rattle.gerber_commands.specs.Pieces.{aperture_number, attribute, block_aperture_row, block_fields, define, define_named, define_standard, definition, deprecated_piece_row, extended_meaning, file_attribute, format_row, is_name, macro_definition, mirror_row, negative_row, neutral_axes_row, no_effect_piece_row, piece, polarity_row, refused_format_row, removal, repeat, repeat_row, repeat_start, scale, sizes_of, transform_row, turn, unit_piece_row}
pub use Rattle.gerber_commands.specs.Profiles.{IsPieceIn, extended_in}
pub use Rattle.gerber_commands.specs.WordGrammar.{IsOperation, IsWord, NamesInt, fixed_words, modes}
pub use Rattle.gerber_commands.specs.Words.{Fields, action, is_plot, named_action, words}
unfoldable pub use Rattle.gerber_commands.specs.Words.{comment, coordinate, d_word, deprecated_row, fields, finish_row, g54_word, incremental_row, kind, mode_row, no_effect_row, operands, operate, operation_row, quadrant_row, region_row, select_row, split_mode, unit_row, word}
pub use Rattle.gerber_text.specs.Cut.{AreItems, OffsetByte, Splits, bytes_of, first_offset, has_end, offset_bytes, offset_bytes_from}
pub use Rattle.gerber_text.specs.CutItems.{IsCutItem, IsSpelled, Spells, is_not_break, without_breaks}
pub use Rattle.gerber_text.specs.FastPath.{HasLeadingCoordinate, HasLeadingInt, HasLeadingOperation, HasLeadingText, coordinate_field, is_negative_text, mode_prefix, operation_commands, text_code, text_command, text_end}
pub use Rattle.gerber_text.specs.Grammar.{AreItemsIn, IsEnd, IsItemIn, IsTextIn}
pub use Rattle.gerber_text.specs.Holding.{Advances, Ends, FailedIn, FailsOnBytes, FailsWithIn, Holds, Refuses, RefusesText, StandsIn, passed_entries, passed_text, text_entries}
pub use Rattle.gerber_text.specs.Inner.Bytes.{HasLeadingItem, IsInside, may_follow_end}
pub use Rattle.gerber_text.specs.Items.{IsItem, IsUnfinished, after_percent, end_byte, is_end_item, is_line_break}
pub use Rattle.gerber_text.specs.Meaning.{repeated_in, without_end}
unfoldable pub use Rattle.gerber_text.specs.Meaning.{meaning_in}
pub use Rattle.gerber_text.specs.Reading.{Entries, ReadsIn, ReadsUpToFault, ResultsIn, ShowsIn, SpellsBeforeFaultIn, SpellsPrefixIn, SpellsTextIn, after_end, commands_by, entries_at_end, entries_after, entries_of, is_blank, latest_action, may_follow, item_entries, action_of, read_by, shown_by, shown_within}
unfoldable pub use Rattle.gerber_text.specs.Reading.{spelled_in}
pub use Rattle.gerber_text.specs.Sayable.{are_parameters, is_aperture_number, is_block, is_dec, is_finish, is_format, is_int, is_macro_name, is_nat, is_operation, is_optional_int, is_optional_text, is_sayable, is_short, is_template, is_text, is_text_byte}
unfoldable pub use Rattle.gerber_text.specs.Sayable.{has_valid_fields}
pub use Rattle.gerber_text.specs.Writing.{ReadsAs, canonical_text, limited_text, lines, sayable, vec_bytes, without_places}
pub use Rattle.gerber_text.specs.declared.placed.Placed.{Placed}
pub use Rattle.gerber_text.specs.declared.reader.Progress.{Progress}
pub use Rattle.gerber_text.specs.declared.reader.WordReader.{WordReader}
pub use Rattle.grid_units.proofs.BoolLemmas.{and_true, both_true, not_empty, not_true, or_is_false}
pub use Rattle.grid_units.proofs.ListLemmas.{list_all_append, list_all_weaker}
pub use Rattle.grid_units.proofs.LookbackLemmas.{last_set-append, option_or_none}
pub use Rattle.grid_units.proofs.ReadPrefix.{digits_numbers}
pub use Rattle.grid_units.proofs.ResultLemmas.{bind_Ok, bind_cong, bind_err, bind_ok, guard_err, guard_ok}
pub use Rattle.grid_units.specs.Limits.{item_limit, text_limit}
pub use Rattle.grid_units.specs.Lists.{last_set}
pub use Rattle.grid_units.specs.Numbers.{fits_eight_decimals, fraction, is_decimal, is_digit, is_digits, is_negative, is_number_char, max_units, signed_value, to_units, value, value_without_point, whole, without_sign}
unfoldable pub use Rattle.grid_units.specs.Numbers.{parse_decimal}
pub use Rattle.grid_units.specs.Results.{Answers, AnswersAlways, IfFault, both, fault, with_place, ◌>>=◌}
pub use Rattle.grid_units.specs.declared.fault.Fail.{Fail}
pub use Rattle.grid_units.specs.declared.fault.Fail.TheVariants.{Memory, Refused}
pub use Rattle.grid_units.specs.declared.fault.Fault.{Fault}
pub use Rattle.grid_units.specs.declared.fault.Reason.{Reason}
pub use Rattle.grid_units.specs.declared.fault.Reason.TheVariants.{AfterEnd, BadNumber, BadWord, ClearPolarity, Incremental, NegativeImage, SeveralInOne, TooFar, TooFine, TooLong, TooManyDigits, TrailingZeros, Truncated}
pub use Rattle.grid_units.specs.declared.lengths.Unit.TheVariants.{Inch, Millimetre}
pub use Rattle.grid_units.specs.declared.profile.Profile.{Profile}
pub use Rattle.grid_units.specs.declared.profile.Profile.TheVariants.{Strict, Wide}
pub use Rattle.std.proofs.Math.Seq.{take-add, take-append-add, take-append_seam, take-length}
pub use Rattle.std.proofs.lemmas.Bool.{eq-eqb, eqb-false, eqb-true, false≢true, le-leb, le-ltb, leb-true, lt-leb, lt-ltb, ltb-false, ltb-true, ne_eqb}
pub use Rattle.std.proofs.lemmas.Bool.Decides.{nat_tests}
pub use Rattle.std.proofs.lemmas.Fmt.{decimal_digit, length-decimal-le}
pub use Rattle.std.proofs.lemmas.List.{append-nil, drop_all, get_or-take, length-append, length-drop, length-map, length-take, map-append, nil_from_length, take-append-drop, take-append-le, take_all, take_at, take_more, take_rest}
pub use Rattle.std.proofs.lemmas.List.Concat.{flat_map-append}
pub use Rattle.std.proofs.lemmas.List.Elements.{All-contains, All-from_get_or, All-from_recursion, All-more, filter-append, recursion_from_All}
pub use Rattle.std.proofs.lemmas.List.Folds.{list_all-append, list_any-append}
pub use Rattle.std.proofs.lemmas.List.Sums.{AllPass-from_list_all, fold-append}
pub use Rattle.std.proofs.lemmas.Result.{IfErr-weaker, err_from_is_err_and}
pub use Rattle.std.specs.Global.{Vec}
pub use Rattle.std.specs.List.{AllByRecursion, concat, enumerate_from, flat_map, fold, join_with_byte, list_all, list_any, prefix_len, take_while}
pub use Rattle.std.specs.Option.{ok_or, option_map, option_or}
pub use Rattle.std.specs.Prelude.{IfErr, IfOk, IfSome, OnOk, codes, decimal, filter, neg_ℤ, unsigned_abs}
pub use Rattle.std.specs.Str.{bytes_eq}
pub use Rattle.grid_units.specs.Rows.{split_by}
