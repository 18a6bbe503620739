-- Names that proofs of this crate cite, passed on from one place. Declares nothing.
pub use Rattle.std.proofs.Common.{◌≡◌, ◌≢◌, inl, inr, ℕ, ◌+◌, ◌-◌, ◌<◌, ◌≤◌, Bool, true, false, cond, not, ◌||◌, ◌&&◌, eqb, leb, ltb, List, [], ◌∷◌, ◌++◌, length, take, drop, map, Option, Some, None, is_some, Result, Ok, Err, refl, sym, ap, ◌∙◌, arith, append_assoc, get_or, zero, suc, ◌⊎◌, slice_index_or, is_ok, subst, ◌*◌, ◌^◌, ◌==◌, rules, w64}
pub use Rattle.std.specs.Prelude.{codes, decimal, take_while, neg_ℤ, IfOk}
pub use Rattle.std.specs.Option.{option_map, option_or, option_copied}
pub use Rattle.std.specs.List.{list_any, list_all, prefix_len, AllByRecursion, join_with_byte, flat_map, slice_split, onto_first, position_or_len, before_first, after_first, count_by}
pub use Rattle.std.specs.Str.{bytes_eq}
pub use Rattle.std.proofs.lemmas.List.{length-append, take_at, drop_at, take_more, take_all, length-drop, take_rest, take-append-drop, drop_more, length-take-le}
pub use Rattle.std.proofs.lemmas.List.Elements.{All-from_recursion, All-contains, recursion_from_All, All-more}
pub use Rattle.std.proofs.lemmas.Bool.{le-leb, lt-ltb, le-ltb, eqb-true, false≢true, ltb-true, ltb-false, leb-true, leb-false}
pub use Rattle.std.proofs.lemmas.Bool.Decides.{nat_tests, Decides-int_eq}
pub use Rattle.std.proofs.lemmas.Fmt.{decimal_digit}
pub use Rattle.grid_units.specs.declared.fault.Reason.{Reason}
pub use Rattle.grid_units.specs.declared.fault.Reason.TheVariants.{SeveralInOne, NegativeImage, BadWord, BadNumber, TooManyDigits, TooFine, TooFar, ClearPolarity, BareCoordinate, BlockAperture, TrailingZeros, Incremental, OldParameter}
pub use Rattle.grid_units.specs.Results.{◌>>=◌, both, earlier_reason}
pub use Rattle.grid_units.specs.Numbers.{is_digit, is_number_char, is_digits, value, without_sign, signed_value, is_negative, to_units, whole, fraction, is_decimal, fits_eight_decimals, value_without_point}
pub use Rattle.grid_units.specs.Rows.{strip_prefix, split_by, literal_row, split_by_if}
pub use Rattle.gerber_commands.specs.declared.command.Command.{Command}
pub use Rattle.gerber_commands.specs.declared.command.Command.TheVariants.{FormatIs, Define, Macro, Turn, Scale, Repeat, Attribute, Remove, Comment, Mode, RegionStart, RegionEnd, Select, Operate, UnitIs, Dark, Clear, Mirror, RepeatEnd, Quadrant, Finish}
pub use Rattle.gerber_commands.specs.declared.command.Format.{Format}
pub use Rattle.gerber_commands.specs.declared.command.StepRepeat.{StepRepeat}
pub use Rattle.gerber_commands.specs.declared.command.Standard.{Standard}
pub use Rattle.gerber_commands.specs.declared.command.Standard.TheVariants.{Circle, Rectangle, Obround, Polygon}
pub use Rattle.gerber_commands.specs.Rows.{Meaning, Row, first_match, modes_of}
pub use Rattle.gerber_commands.specs.Negative.{is_negative_image, is_negative_comment}
pub use Rattle.gerber_commands.specs.Pieces.{last_byte, before_last, format, is_name_start, is_name_byte, standard_template, min_sizes, max_sizes, all_values, are_sizes, define_template, before_comma, after_comma, define_row, macro_of, macro_row, run_after, repeat_fields, has_value, is_omitted_or, pieces_from_attributes, pieces_from_polarity, pieces, has_several_pieces, format_fields, is_zero_rotation, has_no_effect}
pub use Rattle.gerber_commands.specs.PieceGrammar.{HasNo, fixed_pieces, standards, IsMacroName, IsTemplate, SpellsOne, IsOmittedOr, neutral_values, HasNoEffect, IsPiece, IsMacro}
pub use Rattle.gerber_commands.specs.PieceLaws.{WrittenIsAnswered, PiecesSpellOneList, AnswersAreWritten}
pub use Rattle.grid_units.proofs.BoolLemmas.{and_true, both_true, and_false, not_true, not_false, or_is_false}
pub use Rattle.grid_units.proofs.ListLemmas.{list_all_weaker, prefix_len_append, take_while_append, drop_run_append, take_while_all, drop_run_all, list_all_append, map_contains}
pub use Rattle.grid_units.specs.Spellings.{canonical}
pub use Rattle.gerber_commands.specs.Canonical.{sizes_text, pieces_text}
pub use Rattle.gerber_commands.specs.declared.command.Interpolation.{Interpolation}
pub use Rattle.gerber_commands.specs.declared.command.Interpolation.TheVariants.{Linear, Clockwise, Counterclockwise}
pub use Rattle.gerber_commands.specs.declared.command.Action.{Action}
pub use Rattle.gerber_commands.specs.declared.command.Action.TheVariants.{Plot, Move, Flash}
pub use Rattle.gerber_commands.specs.Words.{comment_row, action, digits_after, named_action, is_plot, Fields, is_operation, words_after_comment, words, interpolations, match_mode, has_offsets}
pub use Rattle.gerber_commands.specs.WordGrammar.{NamesInt, fixed_words, modes, code, IsComment, IsSelection, IsOperation, IsWord}
pub use Rattle.grid_units.proofs.ReadPrefix.{digits_numbers}
pub use Rattle.gerber_commands.specs.Numbers.{significant_digits}
pub use Rattle.std.proofs.Math.Nat.{pow-suc, pow-le-pow_right}
pub use Rattle.std.proofs.lemmas.List.Sums.{fold-append, prefix_len_stops, split_at_first}
pub use Rattle.grid_units.specs.declared.lengths.Unit.TheVariants.{Millimetre, Inch}
pub use Rattle.grid_units.specs.declared.profile.Profile.TheVariants.{Wide, Strict}
pub use Rattle.gerber_commands.specs.Profiles.{IsPieceIn, spelled_in_turn, IsWidePiece, SpellInTurn, ItemsAreWrittenIn, ItemsAreAnsweredIn, WideReadsMore}
pub use Rattle.std.proofs.lemmas.List.Splits.{join_with_byte-slice_split, length-slice_split}
pub use Rattle.grid_units.proofs.ResultLemmas.{bind_ok, both_ok}
pub use Rattle.gerber_commands.specs.declared.command.QuadrantMode.TheVariants.{Single, Multi}
pub use Rattle.grid_units.proofs.SplitLemmas.{left_of}
