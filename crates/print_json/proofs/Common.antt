-- Names that proofs of this crate cite, passed on from one place. Declares nothing.
pub use Rattle.std.proofs.Common.{Bool, List, None, Option, Some, [], ap, append-nil, append_assoc, ap₂, arith, codes, cond, decimal, drop, false, get_or, length, length-append, map, option_and_then, refl, subst, suc, sym, take, true, zero, ℕ, ℤ, ◌%◌, ◌++◌, ◌+◌, ◌-◌, ◌/◌, ◌<◌, ◌==◌, ◌^◌, ◌∙◌, ◌∷◌, ◌≡◌, ◌≤◌}
pub use Rattle.json.proofs.Printed.Trees.{document-print}
pub use Rattle.json.specs.Json.{Items, Json, Members, array, boolean, item, max_depth, member, no_items, no_members, null, number, object, string}
pub use Rattle.json.specs.Print.{IsNumber, escape, print, quoted}
unfoldable pub use Rattle.json.specs.Print.{escape_byte, print_from}
pub use Rattle.json.specs.Tree.{HasNumbers, ItemsHaveNumbers, depth, items_depth, items_tokens, json_tokens, members_depth, members_tokens}
pub use Rattle.print_json.specs.Inner.Texts.{comma_before, items_text, members_text, more_items, more_members, value_text}
pub use Rattle.print_json.specs.Packages.{file_values, gap_values, input_error_value, ring_values}
unfoldable pub use Rattle.print_json.specs.Packages.{measure_value, report_value}
pub use Rattle.print_json.specs.Values.{acceptance_value, array_of, file_value, hole_at_place, items_of, json_text, layer_number, least_hole, least_ring, members_of, met_value, or_null, picometres, place_value, span_value, whole, word}
unfoldable pub use Rattle.print_json.specs.Values.{drill_value, gap_value, hole_value, layer_value, least_gap_value, meets_value, mixed_value, point_value, ring_value, row_value, rules_value, scale_value, wide_layer_value}
pub use Rattle.report.specs.declared.GapLack.{GapLack}
pub use Rattle.report.specs.declared.RingLack.{RingLack}
pub use Rattle.std.proofs.Output.{has_written_append, has_written_of_eq}
pub use Rattle.std.proofs.lemmas.List.{drop_all, get_or-append-add, get_or-map, get_or_append_left, length-map, length-take-le, map-id, take_all, take_more}
pub use Rattle.std.specs.Char.{encode_utf8, is_ascii_digit}
pub use Rattle.std.specs.Fmt.{HasWritten, IsPlainFormatter, signed_decimal}
pub use Rattle.std.specs.List.{All, enumerate_from, flat_map, prefix_len}
