-- Names that proofs of this crate cite, passed on from one place. Declares nothing.
pub use Rattle.std.proofs.Common.{Bool, List, Option, Some, [], ap, append_assoc, ap₂, arith, codes, decimal, false, get_or, inl, inr, length, map, not, of_z, refl, rules, subst, suc, sym, take, to_z, to_z-of_z, true, w64, zero, ℕ, ◌++◌, ◌+◌, ◌-◌, ◌<◌, ◌==◌, ◌∙◌, ◌∷◌, ◌≡◌, ◌≤◌}
pub use Rattle.drawing.specs.Pages.{IsPage, IsPanel, after_panels, before_panels, declaration, svg_text, text_of_panel}
pub use Rattle.grid_units.specs.declared.profile.Profile.{Profile}
pub use Rattle.board.specs.declared.FileSum.{FileSum}
pub use Rattle.print_text.proofs.Showing.{marks_all, marks_more}
pub use Rattle.report.specs.declared.LayerHead.{LayerHead}
pub use Rattle.report.specs.declared.RingLack.{RingLack}
pub use Rattle.report_page.specs.Pages.{EachRowHasItsMarker, NumbersEachOnce, conflict_warning, count_words, file_counts, file_items, file_words, files_text, gap_row, gap_rows, head_text, html_text, marker_start, particulars_text, picture_text, reason_words, ring_row, ring_rows, row_numbers, table_rows, tables_text, tool_rows, verdict}
pub use Rattle.std.proofs.Output.{has_written_append, has_written_of_eq}
pub use Rattle.std.proofs.lemmas.List.{append-nil, get_or-append_right, get_or_append_left, get_or_default, length-append, length-map}
pub use Rattle.std.specs.Borrow.{Bor}
pub use Rattle.std.specs.Fmt.{HasWritten, IsPlainFormatter}
pub use Rattle.std.specs.List.{All, AllZip, Contains, enumerate_from, filter, flat_map}
pub use Rattle.grid_units.specs.Holes.{GridHole, GridRules}
pub use Rattle.picture.specs.Escapes.{escaped_name}
pub use Rattle.print_text.specs.Texts.{number_of}
pub use Rattle.report.specs.declared.GapLack.{GapLack}
pub use Rattle.report_page.specs.declared.frame.TheConstants.{BEFORE_RULES, BEFORE_SCRIPT, BEFORE_STYLE, BODY, CAPTION, COLUMNS, END, HEAD, TOOL_COLUMNS}
pub use Rattle.std.proofs.lemmas.List.Concat.{flat_map-append, flat_map-cons}
pub use Rattle.std.proofs.lemmas.List.FromFn.{get_or-enumerate_from, length-enumerate_from}
pub use Rattle.std.specs.Prelude.{if◌then◌else◌, slice_get}
