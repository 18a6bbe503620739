-- Names that proofs of this crate cite, passed on from one place. Declares nothing.
pub use Rattle.std.proofs.Common.{Bool, List, None, Option, Some, [], ap, ap₂, arith, cond, drop, false, get_or, length, length-drop, map, min, pos, refl, reverse, rules, suc, sym, take, tests, true, w64, ℕ, ℤ, ⊎_elim, ◌*◌, ◌++◌, ◌+◌, ◌-◌, ◌<◌, ◌∙◌, ◌∷◌, ◌≡◌, ◌≤◌}
pub use Rattle.print_text.specs.Inner.{AreRuns, IsRun, gap_lines, group_lines, ring_lines, smaller}
pub use Rattle.print_text.specs.Texts.{causes_text, conflict_line, gap_line, gaps_text, group_line, group_words, groups_text, is_alike, is_first_alike, is_shown, kind_line, last_lines, layer_text, number_of, ring_line, rules_line, scale_line, size_words, smallest, smallest_line, summary_text, waived_report_text}
unfoldable pub use Rattle.print_text.specs.Texts.{head_text, scale_words}
pub use Rattle.report.specs.Acceptances.{acceptance_at, is_waived}
pub use Rattle.report.specs.Causes.{ring_of}
pub use Rattle.report.specs.declared.GapLack.{GapLack}
pub use Rattle.report.specs.declared.LayerHead.{LayerHead}
pub use Rattle.report.specs.declared.RingLack.{RingLack}
pub use Rattle.std.proofs.Output.{has_written_append, has_written_of_eq}
pub use Rattle.std.proofs.lemmas.List.{append-nil, drop-take, get_or-drop, get_or-take, length-take, map-append, take-append-drop, take-take, take_all, take_more}
pub use Rattle.std.proofs.lemmas.List.Elements.{filter-append, filter_map-append}
pub use Rattle.std.proofs.lemmas.List.Sums.{fold-append, length-filter}
pub use Rattle.std.specs.Borrow.{Bor}
pub use Rattle.std.specs.Fmt.{HasWritten, IsPlainFormatter}
pub use Rattle.std.specs.List.{cons_option, count_by, enumerate_from, filter, filter_map, flat_map, list_any}
pub use Rattle.std.specs.Prelude.{codes, if◌then◌else◌, not, slice_range, ◌&&◌, ◌==◌, ◌||◌}
