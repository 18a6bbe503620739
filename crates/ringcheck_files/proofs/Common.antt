-- Names that proofs of this crate cite, passed on from one place. Declares nothing.
pub use Rattle.std.proofs.Common.{Bool, Bor, Err, IfOk, IfSome, IsSome, List, MatchOption, None, Ok, Option, Result, Some, [], ap, append-nil, append_assoc, ap₂, arith, cond, drop, eqb, false, get_or, inl, inr, is_ok, leb, length, length-append, lit<, ltb, map, negsuc, not, pos, refl, rules, subst, suc, sym, take, tests, true, unsigned_abs, unwrap_or, zero, ℕ, ℤ, ◌%◌, ◌&&◌, ◌*◌, ◌++◌, ◌+◌, ◌-◌, ◌/◌, ◌<◌, ◌^◌, ◌↔◌, ◌∙◌, ◌∷◌, ◌≡◌, ◌≤◌, ◌⊎◌}
pub use Rattle.drill_lines.specs.declared.command.DrillCommand.{DrillCommand}
pub use Rattle.drill_text.specs.Profiles.{ReadsAsIn, ReadsIn, ShowsIn, plain}
pub use Rattle.drill_text.specs.Texts.{IsDrillText, ReadsAs, SpellsText, spelled_after}
pub use Rattle.gerber_text.specs.Reading.{Entries, entries_after}
pub use Rattle.gerber_text.specs.Writing.{canonical_text, lines, vec_bytes, without_places}
pub use Rattle.grid_units.proofs.ListLemmas.{done_is_all}
pub use Rattle.grid_units.specs.Reasons.{reason_number}
unfoldable pub use Rattle.grid_units.specs.Reasons.{reason_name}
pub use Rattle.grid_units.specs.Results.{Answers, AnswersAlways, IfFault, both, fault, ◌>>=◌}
pub use Rattle.grid_units.specs.Spellings.{minus}
unfoldable pub use Rattle.grid_units.specs.Spellings.{millimetres, places}
pub use Rattle.grid_units.specs.declared.fault.Fault.{Fault}
pub use Rattle.grid_units.specs.declared.fault.Reason.{Reason}
pub use Rattle.grid_units.specs.declared.fault.Reason.TheVariants.{BadLine, BadNumber, NoZeros, OldFormat, TooFar, TooFine, TooLong, TooManyDigits}
pub use Rattle.grid_units.specs.declared.profile.Profile.TheVariants.{Strict, Wide}
pub use Rattle.layer_image.specs.Holding.{LayerStands, ShowsLayerFaultIn, has_forgotten, left_pads}
pub use Rattle.layer_image.specs.Kept.{KeptLayer, ReadsKeptIn}
pub use Rattle.layer_image.specs.Layers.{IsLayerTextIn, LayerImage, ReadingIsUniqueIn, ReadsLayer, ReadsLayerIn, StrictLayers, image_of}
pub use Rattle.pad_shapes.specs.declared.wide_pad.WidePad.{WidePad}
pub use Rattle.ringcheck_files.specs.Inner.{HasHandedOn, IsNextRead, extra_reads}
pub use Rattle.ringcheck_files.specs.Inner.Writing.{HoldsLines, IsWriterAfter, ShowsReadFault}
pub use Rattle.ringcheck_files.specs.KnownWords.{IsPageOf, is_near, known_word, listed_word, listed_in_any_case}
pub use Rattle.ringcheck_files.specs.ManifestStatus.{HasAllLoaded, HasLoaded, HasRisenBy, IsHeldStatus, IsManifestStatus, IsProposalText, LoadedView, PrintsProposal, are_containers, bytes, count_unread, first_said, folder, is_container, is_entry_name, is_unread, loaded_file, loaded_files, loaded_view, long, said_of, unread}
pub use Rattle.ringcheck_files.specs.PageWords.{EachWordIsListed, FitsScreen, HasHeading, IsExplained, all_reasons, all_words, is_colon, topic_words}
pub use Rattle.ringcheck_files.specs.Rewriting.{KeepsCommands, RewritesDrill, RewritesLayer, RewritingIsIdempotent, RewritingIsUnique}
pub use Rattle.ringcheck_files.specs.Rows.{NeedNoQuotes, NeedsNoQuotes, row}
unfoldable pub use Rattle.ringcheck_files.specs.Rows.{rows_from}
pub use Rattle.ringcheck_files.specs.Tables.{ReadsDrill, ShowsDrill, ShowsLayer, drill_table, feature_fields, hole_fields, layer_table}
pub use Rattle.std.proofs.lemmas.Bool.{eqb-true, false≢true, leb-true, ltb-false}
pub use Rattle.std.proofs.lemmas.Fmt.{decimal_by_steps, decimal_digit, length-decimal-le}
pub use Rattle.std.proofs.lemmas.List.{get_or-map, length-map, length-take, map-append, take_all, take_more}
pub use Rattle.std.proofs.lemmas.Result.{IfOk-weaker, err_from_is_err_and}
pub use Rattle.std.specs.Global.{Vec}
pub use Rattle.std.specs.Io.KnownBytes.{Appends, Consumes}
pub use Rattle.std.specs.List.{AllByRecursion, Contains, before_first, find, flat_map, list_all, list_any, prefix_len}
pub use Rattle.std.specs.Option.{option_map, option_or, option_to_list}
pub use Rattle.std.specs.Prelude.{All, codes, count_by, decimal, neg_ℤ, option_and_then, slice_get, take_while}
pub use Rattle.std.specs.Slice.Iter.{chunks_rest, chunks_size, iter_rest}
pub use Rattle.std.specs.Str.{bytes_eq, str_eq_ignore_ascii_case}
pub use Rattle.drill_lines.specs.Formats.{AreDigitCounts, Digits}
pub use Rattle.drill_lines.specs.Writing.{IsDec, IsInRange, IsOptionalDec, IsPoint}
pub use Rattle.drill_text.proofs.RoundTrip.{AreTyped, round_trip, typed_more, typed_none}
pub use Rattle.drill_text.specs.Outcome.{DrillFile, file_of}
pub use Rattle.drill_text.specs.Writing.{rewritten_text}
pub use Rattle.drill_text.specs.declared.platings.PlatingKind.TheVariants.{Stated}
pub use Rattle.gerber_text.proofs.SpellsTextLemmas.{reads_spells, spells_reads}
pub use Rattle.gerber_text.specs.Holding.{FailsWithIn, held_entries}
pub use Rattle.grid_units.proofs.BoolLemmas.{both_true}
pub use Rattle.grid_units.proofs.ResultLemmas.{bind_ok, both_ok}
pub use Rattle.grid_units.proofs.Spelled.{below_one}
pub use Rattle.grid_units.specs.Lists.{IsLegal, last_set}
pub use Rattle.grid_units.specs.Numbers.{is_digit, is_number_char, parse_decimal, parse_zero_filled}
pub use Rattle.grid_units.specs.declared.fault.Fail.{Fail}
pub use Rattle.grid_units.specs.declared.profile.Profile.{Profile}
pub use Rattle.grid_units.specs.declared.zero_filling.Zeros.{Zeros}
pub use Rattle.grid_units.specs.declared.zero_filling.Zeros.TheVariants.{Full, Leading, Trailing}
pub use Rattle.layer_features.specs.Features.{features_of, view_in, wide_features_of}
pub use Rattle.std.proofs.lemmas.Iterator.{YieldsList-from_map_by, YieldsList-from_slice}
pub use Rattle.std.proofs.lemmas.Iterator.Consumers.{YieldsList-at, YieldsList-from_copied}
pub use Rattle.std.proofs.lemmas.Iterator.Search.{find_from_yields_List}
pub use Rattle.std.proofs.lemmas.List.Elements.{All-from_recursion, All-take, Contains-append_cases, Contains-append_left, Contains-append_right}
pub use Rattle.std.proofs.lemmas.Option.{IfSome_then}
pub use Rattle.std.proofs.lemmas.Slice.Eq.{bytes_eq-Decides}
