-- Names that proofs of this crate cite, passed on from one place. Declares nothing.
pub use Rattle.std.proofs.Common.{Bool, Err, IfErr, IfOk, List, None, Ok, OnOk, Option, Result, Some, [], ap, append-nil, append_assoc, arith, cond, drop, false, get_or, inl, inr, length, map, nat_lt, not, pos, refl, slice_get, subst, suc, sym, take, true, true≢false, unwrap_or, zero, ℕ, ℤ, ◌&&◌, ◌++◌, ◌+◌, ◌-◌, ◌<◌, ◌||◌, ◌∙◌, ◌∷◌, ◌≡◌, ◌≤◌, ◌⊎◌}
pub use Rattle.gerber_commands.specs.declared.command.Command.{Command}
pub use Rattle.gerber_text.proofs.ShowsLemmas.{shown_spelled, two_takes}
pub use Rattle.gerber_text.proofs.SpellsTextLemmas.{reads_spells, spells_reads}
pub use Rattle.gerber_text.specs.Cut.{OffsetByte, bytes_of, first_offset, has_end, offset_bytes}
pub use Rattle.gerber_text.specs.FastPath.{text_command}
pub use Rattle.gerber_text.specs.Holding.{FailedIn, FailsWithIn, StandsIn, held_entries, passed_entries, passed_text, text_entries}
pub use Rattle.gerber_text.specs.Reading.{Entries, ReadsIn, ShowsIn, SpellsBeforeFaultIn, SpellsPrefixIn, after_end, commands_by, entries_after, is_blank, latest_action, may_follow, item_entries, read_by, shown_by}
unfoldable pub use Rattle.gerber_text.specs.Reading.{spelled_in}
pub use Rattle.gerber_text.specs.Writing.{sayable, without_places}
pub use Rattle.gerber_text.specs.declared.placed.Placed.{Placed}
pub use Rattle.gerber_text.specs.declared.reader.WordReader.{WordReader}
pub use Rattle.grid_units.proofs.ResultLemmas.{bind_err, bind_ok}
pub use Rattle.grid_units.specs.Limits.{item_limit, text_limit}
pub use Rattle.grid_units.specs.Lists.{IsLegal, violation_at, violations, with_prefixes_from}
pub use Rattle.grid_units.specs.Points.{GridPoint}
pub use Rattle.grid_units.specs.Results.{Answers, AnswersAlways, IfFault, fault, with_place, ◌>>=◌}
pub use Rattle.grid_units.specs.declared.fault.Fault.{Fault}
pub use Rattle.grid_units.specs.declared.fault.Reason.{Reason}
pub use Rattle.grid_units.specs.declared.profile.Profile.{Profile}
pub use Rattle.grid_units.specs.declared.profile.Profile.TheVariants.{Strict, Wide}
pub use Rattle.layer_features.specs.CopperHolding.{HasMet, IsCopperOf, IsPassed}
pub use Rattle.layer_features.specs.Features.{contour_count, contour_feature, contour_pad, counts_of, dark_kind, features_at, features_of, flash_feature, flashed_count, is_contour, is_flashed_pad, is_other, macro_pad, other_count, other_kind, pad_in, strict_feature, strict_feature_of, strict_kind, strict_kind_of, strict_view, wide_features_of}
pub use Rattle.layer_features.specs.Kept.{keeps_commands, keeps_drawn, keeps_pads_alone, keeps_rows, left_pads}
pub use Rattle.layer_features.specs.declared.keep.Keep.{Keep}
pub use Rattle.layer_image.specs.Holding.{HasContent, HasMetLegal, HasMetText, HasScannedFor, LayerStands, ShowsLayerFaultIn, has_forgotten, standing_in}
pub use Rattle.layer_image.specs.Kept.{IsKeptOf, KeptLayer, ReadsKeptIn, counting_profile, flashes_kept, image_in, plain}
pub use Rattle.layer_image.specs.Layers.{EachTextAnswersIn, LayerImage, LayerReasonsIn, ReadsLayer, ReadsLayerIn, StrictLayers, image_of}
pub use Rattle.layer_image.specs.PadLaws.{FlashesAreCopies, LayerPads, LegalPads, PadsAreFlashed, PadsAreUnique}
pub use Rattle.layer_image.specs.declared.content.LayerContent.{LayerContent}
pub use Rattle.layer_state.specs.Faults.{IsFirstFault, fault_of}
pub use Rattle.layer_state.specs.Flashes.{added_flashes, aperture_flashes, copies_at, current_unit, flash_at, flash_copies, flashes_of, grid_at, numbers_below, pads_of}
pub use Rattle.layer_state.specs.Holding.{HasScannedLegal, IsScanned, scanned_flashes, scanned_pads}
pub use Rattle.layer_state.specs.KeptFlashes.{KeptParts, keeps_flashes, keeps_pads, taking_pads, without_flashes, without_pads}
pub use Rattle.layer_state.specs.Lookback.{GraphicsState, current_aperture, current_of, state_after, template_numbered}
pub use Rattle.layer_state.specs.Pads.{AreFlashPads, ArePads, ArePadsFrom, ArePadsOf, IsFlashPad, IsPadOf, MayFlash, copies_in, copy_in, flashed_at}
pub use Rattle.layer_state.specs.Rules.{all_rules, breaks_rule, broken_rule_in, may_define_again}
unfoldable pub use Rattle.layer_state.specs.Rules.{first_broken}
pub use Rattle.layer_state.specs.declared.flash.Flash.{Flash}
pub use Rattle.pad_shapes.specs.declared.pad.Pad.{Pad}
pub use Rattle.pad_shapes.specs.declared.wide_pad.WidePad.{WidePad}
pub use Rattle.std.proofs.Math.Seq.{take-length}
pub use Rattle.std.proofs.lemmas.List.{length-drop, length-map, length-take, length-take-le, map-append, take-append-drop, take_all, take_rest}
pub use Rattle.std.proofs.lemmas.List.Concat.{flat_map-cons}
pub use Rattle.std.proofs.lemmas.List.Elements.{Contains-append_cases, Contains-append_left, Contains-append_right, filter_map-append}
pub use Rattle.std.proofs.lemmas.Result.{err_from_is_err_and}
pub use Rattle.std.specs.List.{AllByRecursion, Contains, cons_option, filter_map, find, flat_map, list_all, list_any}
pub use Rattle.std.specs.Option.{option_and_then, option_map, option_map_or}
pub use Rattle.std.specs.Prelude.{count_by, if◌then◌else◌}
pub use Rattle.gerber_commands.specs.Rows.{modes_of}
pub use Rattle.gerber_commands.specs.declared.command.Command.TheVariants.{Mode, Operate}
pub use Rattle.gerber_commands.specs.declared.command.Interpolation.{Interpolation}
pub use Rattle.gerber_text.proofs.ReaderStepLemmas.{spelled_place}
pub use Rattle.layer_features.specs.DrawnCopper.{drawn_at, first_parts, uncleared_drawn}
pub use Rattle.layer_features.specs.declared.counts.FeatureCounts.{FeatureCounts}
pub use Rattle.layer_state.specs.Shapes.{defined_numbered}
pub use Rattle.layer_state.specs.declared.flash.What.{What}
pub use Rattle.layer_state.specs.declared.scan.Scan.{Scan}
pub use Rattle.std.proofs.lemmas.Bool.{cases_lt}
