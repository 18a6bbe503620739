-- Names that proofs of this crate cite, passed on from one place. Declares nothing.
pub use Rattle.std.proofs.Common.{Bool, Err, IsUtf8, List, None, Ok, Option, Result, Some, [], ap, append-nil, append_assoc, arith, codes, cond, false, get_or, inl, inr, is_some, length, map, nat_lt, ne_eqb, negsuc, not, pos, refl, rules, slice_get, subst, suc, sym, take, true, unsigned_abs, w64, zero, ℕ, ℤ, ◌%◌, ◌*◌, ◌++◌, ◌+◌, ◌/◌, ◌<◌, ◌==◌, ◌^◌, ◌||◌, ◌∙◌, ◌∷◌, ◌≡◌, ◌≢◌, ◌≤◌}
pub use Rattle.csv.specs.Writing.{default_writer, field_text, needs_byte, needs_quotes, read_back, row_text}
unfoldable pub use Rattle.csv.specs.Writing.{escaped, fields_text, is_blank}
pub use Rattle.manifest.specs.Manifest.{CsvRecord, csv_records, field}
pub use Rattle.std.proofs.Output.{has_written_append, has_written_of_eq}
pub use Rattle.std.proofs.lemmas.List.{length-take-le, map-append, take_more}
pub use Rattle.std.proofs.lemmas.Result.{IfOk-weaker, err_from_is_err_and}
pub use Rattle.std.proofs.lemmas.Slice.Eq.{bytes_eq-Decides, slice_eq-Decides}
pub use Rattle.std.specs.List.{All, AllByRecursion, enumerate_from, filter, flat_map, list_any, position_from}
pub use Rattle.std.specs.Prelude.{Vec, if◌then◌else◌, option_map}
pub use Rattle.std.specs.Str.{bytes_eq}
pub use Rattle.waivers.specs.Findings.{finding_record, gap_fields, head_record, ring_fields}
pub use Rattle.waivers.specs.Inner.{checked_waiver, has_first_place, has_place, is_used, is_waived_by, is_waived_by_first, record_key, place_at, unless_broken, unused_numbers, unused_records}
pub use Rattle.waivers.specs.Reading.{broken_rule, first_wrong, has_plain_fields, is_heading, is_kind, is_waiver_reason, reason_limit, unless_wrong, waiver_of, waivers, waivers_after_head, waivers_of}
pub use Rattle.waivers.specs.Waiving.{IsWaived, compared_fields, idle_numbers, reason_at, report_fields, waived_by, waives, waives_nothing}
pub use Rattle.waivers.specs.declared.Waiver.{Waiver}
pub use Rattle.csv.specs.Records.{fields_of}
pub use Rattle.grid_units.specs.HoleWords.{drilled_words, name_of}
pub use Rattle.grid_units.specs.Lists.{violations}
pub use Rattle.grid_units.specs.Results.{Answers, fault, with_place}
pub use Rattle.grid_units.specs.declared.fault.Fault.{Fault}
pub use Rattle.grid_units.specs.declared.fault.Reason.{Reason}
pub use Rattle.report.specs.declared.BoardReport.{BoardReport}
pub use Rattle.std.proofs.lemmas.Bool.Decides.{Decides-eqb, Decides-like, same_from_decides}
pub use Rattle.std.proofs.lemmas.Iterator.Adapters.{position_from-zero}
pub use Rattle.std.proofs.lemmas.List.Folds.{list_any-append}
pub use Rattle.std.specs.Cmp.Lexicographic.{pointwise, slice_cmp}
pub use Rattle.std.specs.Fmt.{HasWritten, IsPlainFormatter}
pub use Rattle.std.specs.Option.{option_or}
