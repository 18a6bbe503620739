-- Names that proofs of this crate cite, passed on from one place. Declares nothing.
pub use Rattle.drill_lines.specs.Formats.{AreDigitCounts, Digits}
pub use Rattle.drill_lines.specs.Grammar.{IsCoordinate, IsLine, IsNumber, IsPointText, fixed_lines, unit_words, zeros_words}
pub use Rattle.drill_lines.specs.Header.{digit_counts, is_digit_count, is_zero, pattern_from}
pub use Rattle.drill_lines.specs.HoleLines.{Runs, field, format_in, has_run, runs_of, zeros_in}
pub use Rattle.drill_lines.specs.LineReading.{ReadsLine}
pub use Rattle.drill_lines.specs.Lines.{is_blank, without_end_blanks}
pub use Rattle.drill_lines.specs.Meaning.{begins_comment, meaning, one_command}
pub use Rattle.drill_lines.specs.Tools.{are_fields, begins_with, is_diameter_letter, is_point, is_skipped_letter, is_tool_letter}
pub use Rattle.drill_lines.specs.Writing.{IsInRange, can_give_zeros, canonical, has_coordinate, is_comment_text, is_sayable, pattern_text, unit_word, zeros_text}
pub use Rattle.drill_lines.specs.declared.command.Coordinates.{Coordinates}
pub use Rattle.drill_lines.specs.declared.command.DrillCommand.{DrillCommand}
pub use Rattle.drill_lines.specs.declared.command.DrillCommand.TheVariants.{Comment, Finish, HeaderEnd, Hit, Pick, Slot, Start, Tool, UnitCode, UnitLine}
pub use Rattle.drill_lines.specs.declared.command.Part.{Part}
pub use Rattle.drill_lines.specs.declared.command.Settings.{Settings}
pub use Rattle.grid_units.proofs.BoolLemmas.{and_true, both_true}
pub use Rattle.grid_units.proofs.ListLemmas.{list_all_append, list_all_weaker}
pub use Rattle.grid_units.proofs.SpellingsLemmas.{digit_number, length-zeros, spells_decimal}
pub use Rattle.grid_units.specs.Numbers.{is_digit, is_digits, is_number_char, parse_decimal, parse_zero_filled, value}
pub use Rattle.grid_units.specs.Results.{both, ◌>>=◌}
pub use Rattle.grid_units.specs.Rows.{RowOf, first_match_or, literal_row, strip_prefix}
pub use Rattle.grid_units.specs.declared.fault.Reason.{Reason}
pub use Rattle.grid_units.specs.declared.fault.Reason.TheVariants.{BadLine, BadNumber}
pub use Rattle.grid_units.specs.declared.lengths.Unit.TheVariants.{Inch, Millimetre}
pub use Rattle.grid_units.specs.declared.profile.Profile.TheVariants.{Wide}
pub use Rattle.grid_units.specs.declared.zero_filling.Zeros.{Zeros}
pub use Rattle.grid_units.specs.declared.zero_filling.Zeros.TheVariants.{Full, Leading, Trailing}
pub use Rattle.std.proofs.Common.{Bool, Err, IfOk, IfSome, List, None, Ok, Option, Result, Some, [], ap, append_assoc, arith, cond, drop, eqb, false, inl, inr, is_some, leb, length, lit<, lit≤, ltb, not, refl, replicate, subst, suc, sym, take, true, zero, ℕ, ℤ, ◌&&◌, ◌++◌, ◌+◌, ◌<◌, ◌||◌, ◌∙◌, ◌∷◌, ◌≡◌, ◌≢◌, ◌≤◌, ◌⊎◌}
pub use Rattle.std.proofs.lemmas.Bool.{eq-eqb, eqb-true, le-leb, leb-true}
pub use Rattle.std.proofs.lemmas.Bool.Decides.{nat_tests}
pub use Rattle.std.proofs.lemmas.Fmt.{length-decimal-le}
pub use Rattle.std.proofs.lemmas.List.{append-nil, length-append}
pub use Rattle.std.proofs.lemmas.List.Elements.{All-contains, All-from_recursion}
pub use Rattle.std.proofs.lemmas.List.Folds.{list_all-append}
pub use Rattle.std.specs.List.{AllByRecursion, after_first, before_first, list_all, list_any, prefix_len}
pub use Rattle.std.specs.Option.{option_map}
pub use Rattle.std.specs.Prelude.{codes, count_by, decimal, take_while}
pub use Rattle.std.specs.Str.{bytes_eq}
