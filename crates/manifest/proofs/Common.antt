-- Names that proofs of this crate cite, passed on from one place. Declares nothing.
pub use Rattle.std.proofs.Common.{Bool, Bor, Err, IfOk, List, None, Ok, Option, Result, Some, [], add-one, ap, append_assoc, ap₂, arith, codes, cond, drop, false, get_or, inl, inr, length, map, min, not, refl, reverse, rules, set, slice_get, subst, suc, sym, take, tests, true, unwrap_or, zero, ℕ, ◌%◌, ◌&&◌, ◌++◌, ◌+◌, ◌-◌, ◌/◌, ◌<◌, ◌==◌, ◌^◌, ◌||◌, ◌∙◌, ◌∷◌, ◌≡◌, ◌≢◌, ◌≤◌, ◌⊎◌}
pub use Rattle.csv.specs.Reading.{AreRecords, Ready, default_config, records, source_of}
unfoldable pub use Rattle.csv.specs.Reading.{Reached, records_from, strip_bom}
pub use Rattle.csv.specs.Records.{fields_of}
unfoldable pub use Rattle.csv.specs.Records.{field_at}
pub use Rattle.csv.specs.Writing.{default_writer, fields_written, has_written, read_back, row_text, writer_pending, writer_setup, writer_under}
pub use Rattle.grid_units.proofs.BoolLemmas.{and_true, both_true, not_not}
pub use Rattle.grid_units.proofs.DigitLemmas.{nine_digits}
pub use Rattle.grid_units.specs.Lists.{violation_at, violations, with_prefixes, with_prefixes_from}
pub use Rattle.grid_units.specs.Numbers.{is_digit, is_digits, value}
pub use Rattle.grid_units.specs.Results.{Answers, IfFault, fault, with_place}
pub use Rattle.grid_units.specs.declared.fault.Fault.{Fault}
pub use Rattle.grid_units.specs.declared.fault.Reason.{Reason}
pub use Rattle.grid_units.specs.declared.fault.Reason.TheVariants.{BadManifest, BadRole, BadSpan, EmptyName, NoCopper, NoDrill, RepeatedName}
pub use Rattle.grid_units.specs.declared.profile.Profile.{Profile}
pub use Rattle.grid_units.specs.declared.profile.Profile.TheVariants.{Strict, Wide}
pub use Rattle.manifest.specs.Contents.{contains, ends_function, function_of, function_prefix, has_no_hole, is_blank, is_comma, is_line_of, kind_of, says_plated_holes, says_unplated_holes}
pub use Rattle.manifest.specs.Decisions.{Decision, by_file_function, by_kind, copper_by_name, decision, drill_by_function, drill_by_name, drill_by_text, drill_by_words, gerber_by_extension, gerber_by_function, gerber_by_stem, gerber_by_word, gerber_by_words, hole_kind, inner_copper_by_name, lacks_layers, layers_of_fields, layers_of_function, left_out_by_name, other_by_name, stack_position}
pub use Rattle.manifest.specs.Manifest.{CsvRecord, are_empty, are_span_numbers, broken_after, csv_records, entries_of, entries_or_fault, entry_of, exceeds_layers, field, field_count, first_broken_rule, first_exceeding, first_fault, has_version_3, is_bad_span, is_control, is_layer_number, is_header_v1, is_header_v2, is_header_v3, is_manifest_reason, is_plain_text, is_repeated, is_role_in, is_well_formed, is_wide_alone, joint_fault, manifest, manifest_in, missing_role, parse_entries, parse_manifest_records, role_of_word, span_of_fields}
unfoldable pub use Rattle.manifest.specs.Manifest.{format_of_fields, may_say}
pub use Rattle.manifest.specs.Manifests.{IsManifestOrder, backslash, because_text, byte_text, count_named, entry_row, has_spans, heading, hex_digit, is_ambiguous, is_copper, is_copper_role, is_listed, is_listed_role, is_partial, is_printed, label, layers_of_role, manifest_text, named_function, named_row, place_rank, rank, reason_row, reason_words, role_word, span_fields}
pub use Rattle.manifest.specs.MixedFiles.{decision_in, is_mixed_reason, is_mixed_role, is_mixed_text, lines_and_rest, mixed_by_function, mixed_decision, with_byte}
pub use Rattle.manifest.specs.Names.{base_name, digits_of, ends_in_copper, extension_of, has_dot, has_end, has_non_plated, has_plated, inner_extensions, inner_words, is_copper_word, is_number_within, is_one_of, is_other_word, is_plated_word, is_unclear_word, is_word_byte, last_other_word, letters_of, names_copper, number_suffix, number_within, says_plated, says_unplated, stem_of, unplated_words, word_runs, words_of}
pub use Rattle.manifest.specs.Places.{count_ranked, has_known_place, place_checked, place_checked_in}
pub use Rattle.manifest.specs.ProposalList.{decision_for, distinct, is_named, name_of, placed_proposals, proposal, proposals, separate_proposals, unless_seen}
pub use Rattle.manifest.specs.ReadBack.{AreDecided, as_span, entry_in, is_decided, is_valid_name, role_of}
pub use Rattle.manifest.specs.Stack.{AreLayersInOrder, are_clear, are_one_to_n, are_within_count, copper_layers, fit_kind, hints_at_missing, is_copper_complete, is_stack, layer_at_position, layer_of_role, layers_checked, layers_checked_in, names_layers, numbers_from, occurs_once_in_range}
pub use Rattle.manifest.specs.declared.Entry.{Entry}
pub use Rattle.manifest.specs.declared.model.InputFile.{InputFile}
pub use Rattle.manifest.specs.declared.model.LayerRange.{LayerRange}
pub use Rattle.manifest.specs.declared.model.Proposal.{Proposal}
pub use Rattle.manifest.specs.declared.model.ProposedRole.{ProposedRole}
pub use Rattle.manifest.specs.declared.model.ProposedRole.TheVariants.{Copper, LeftOut, Mixed, Plated, Undecided, Unplated}
pub use Rattle.manifest.specs.declared.model.StackPosition.{StackPosition}
pub use Rattle.manifest.specs.declared.model.StackPosition.TheVariants.{Bottom, Inner, Numbered, Top, Unknown}
pub use Rattle.std.proofs.lemmas.Bool.{cases_Bool, eq-eqb, eqb-true, false≢true, le-leb, leb-true, lt-ltb, ltb-true, ne_eqb}
pub use Rattle.std.proofs.lemmas.Bool.Decides.{nat_tests}
pub use Rattle.std.proofs.lemmas.Iterator.{YieldsList-from_slice}
pub use Rattle.std.proofs.lemmas.Iterator.Search.{all_from_yields_List, any_from_yields_List, find_from_yields_List}
pub use Rattle.std.proofs.lemmas.Iterator.Splits.{YieldsList-from_slice_split}
pub use Rattle.std.proofs.lemmas.List.{append-nil, drop_all, drop_more, get_or-drop, get_or-map, length-append, length-drop, length-map, map-append, take-append-drop, take-map, take_all, take_more}
pub use Rattle.std.proofs.lemmas.List.Folds.{list_all-append, list_all-map, list_all_at, list_any-append}
pub use Rattle.std.proofs.lemmas.List.Sorted.{IsNonDecreasingBy-from_sort, IsNonDecreasingBy-from_sort_by_key, IsPermutation-map, length_permutation, list_any-IsPermutation, sum_by-IsPermutation}
pub use Rattle.std.proofs.lemmas.List.Sums.{length-filter, position_or_len_is, suffix_len_is, sum_by-append, sum_by-cons}
pub use Rattle.std.proofs.lemmas.Map.Text.{is_eq-slice_cmp}
pub use Rattle.std.proofs.lemmas.Slice.Eq.{bytes_eq-Decides}
pub use Rattle.std.proofs.lemmas.Str.{IsCharBoundary-after_ascii, IsUtf8-drop, IsUtf8-from_ascii, IsUtf8-from_is_utf8, is_utf8-from_IsUtf8}
pub use Rattle.std.specs.BTreeSet.{contains_by}
pub use Rattle.std.specs.Cmp.Lexicographic.{slice_cmp}
pub use Rattle.std.specs.List.{after_first, before_first, cons_option, count_by, filter, filter_map, find, flat_map, list_all, list_any, position, position_or_len, suffix_len}
pub use Rattle.std.specs.List.Sorted.{IsNonDecreasing, IsNonDecreasingBy, IsPermutation, IsStableByKey, ties}
pub use Rattle.std.specs.Option.{option_map, option_or}
pub use Rattle.std.specs.Ordering.{is_eq, is_lt, nat_cmp}
pub use Rattle.std.specs.Prelude.{Vec, decimal, if◌then◌else◌, is_some, nat_le, nat_lt}
pub use Rattle.std.specs.Result.{is_ok}
pub use Rattle.std.specs.Str.{IsAscii, IsUtf8, bytes_eq, is_utf8}
