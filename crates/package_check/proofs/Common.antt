-- Names that proofs of this crate cite, passed on from one place. Declares nothing.
pub use Rattle.std.proofs.Common.{Bool, Bor, Err, IfErr, IfOk, List, None, Ok, OnOk, Option, Result, Some, [], ap, append_assoc, ap₂, arith, cond, drop, eqb, false, get_or, inl, inr, leb, length, ltb, map, min, not, pos, refl, rules, set, slice_get, subst, suc, sym, take, true, zero, zero-add, ℕ, ◌&&◌, ◌*◌, ◌++◌, ◌+◌, ◌-◌, ◌<◌, ◌||◌, ◌↔◌, ◌∙◌, ◌∷◌, ◌≡◌, ◌≢◌, ◌≤◌, ◌⊎◌, tests}
pub use Rattle.drill_lines.specs.declared.command.CoordinateFormat.{CoordinateFormat}
pub use Rattle.drill_lines.specs.declared.command.DrillCommand.{DrillCommand}
pub use Rattle.drill_text.specs.MixedLaws.{CalledIsListed, KindsReadTheSame, ListedIsCalled, UncontradictedIsLegal}
pub use Rattle.drill_text.specs.Plating.{calls_plated, plated_of, says_otherwise}
pub use Rattle.drill_text.specs.Profiles.{Kind, ReadsAsBy, ReadsBy, ReadsIn, ShowsBy, mixed_in, by_role, unplated_in}
pub use Rattle.drill_text.specs.Texts.{IsDrillText}
pub use Rattle.gerber_commands.specs.declared.command.Command.{Command}
pub use Rattle.gerber_text.specs.Writing.{without_places}
pub use Rattle.grid_units.specs.Holes.{GridHole, GridRules, is_round}
pub use Rattle.grid_units.specs.Results.{Answers, IfFault}
pub use Rattle.grid_units.specs.Spans.{LayerSpan, is_in_span}
pub use Rattle.grid_units.specs.declared.fault.Fail.{Fail}
pub use Rattle.grid_units.specs.declared.fault.Fault.{Fault}
pub use Rattle.grid_units.specs.declared.profile.Profile.{Profile}
pub use Rattle.grid_units.specs.declared.profile.Profile.TheVariants.{Strict, Wide}
pub use Rattle.layer_features.specs.DrawnCopper.{drawn_in, first_parts, uncleared_drawn}
pub use Rattle.layer_features.specs.Kept.{keeps_drawn, keeps_rows}
pub use Rattle.layer_features.specs.declared.counts.FeatureCounts.{FeatureCounts}
pub use Rattle.layer_features.specs.declared.feature.Feature.{Feature}
pub use Rattle.layer_features.specs.declared.keep.Keep.{Keep}
pub use Rattle.layer_image.specs.Holding.{LayerStands, ShowsLayerFaultIn, has_forgotten, left_pads, standing_pads}
pub use Rattle.layer_image.specs.Kept.{KeptLayer, ReadsKeptIn, counting_profile, plain}
pub use Rattle.layer_image.specs.Layers.{LayerImage, ReadingIsUniqueIn, ReadsLayerIn, StrictLayers}
pub use Rattle.manifest.specs.declared.Role.{Role}
pub use Rattle.manifest.specs.declared.Said.{Said}
pub use Rattle.package_check.specs.AlikePackages.{AllReadAlike, AnswerExists, AnswerIsUnique, ReadingExists, ReadingIsUnique, SameAnswers}
pub use Rattle.board.specs.Boards.{BoardView, CountsAddUp, board_findings, hole_count, holes_before, numbered_in}
pub use Rattle.package_check.specs.Boards.{AreDrawnOf, AreFileLists, FileCountsAddUp, IsBoard, IsDrawnBoard, IsFlashedBoard, OfCopper, Returns, board_of, report_of_board, LayersHaveFiles}
pub use Rattle.package_check.specs.CheckViews.{CheckView, holes_in_slot, is_drill_in, is_drill_sum}
pub use Rattle.package_check.specs.Checking.{AreHolesOf, HasJudged, HasJudgedAll, IsJudgedOf, JudgesThose, TakesCopper, drill_files, layer_number}
pub use Rattle.package_check.specs.ContentViews.{DrillView, LayerView}
pub use Rattle.package_check.specs.FileTexts.{Draws, HasContours, HasLayerView, HasMacros, HasRows, ReadsDrill, ReadsLayer, ReadsMixed, drill_kind, drill_view, format_in, is_copper_function, layer_view, holes_with_platings, mixed_holes, mixed_kind, plating_in}
pub use Rattle.package_check.specs.Holding.{HasShown, HasTaken, HasTakenAll, HoldsThose, IsKeptOf, IsOutOfMemory, IsPutAt, ReadsAt, ReadsInto, StoppedAmong, TakesFile, TakesThose, contents_in, is_kind, is_kind_at, is_kind_of, is_wanted, kept_at, next_stop, setting_of, shown_board, shown_in}
pub use Rattle.package_check.specs.HoleViews.{HolesView}
pub use Rattle.package_check.specs.Inner.Leftovers.{AreFileStarts, AreStartsOf, LeftView, count_in, holes_in, index_in, layer_indexes_in, left_in, left_report, rings_in, sums_in}
pub use Rattle.package_check.specs.Judging.{HasTriedIn, HasTriedPadsOf, IsLeftOf, Judges, JudgesCopper, rings_of}
pub use Rattle.package_check.specs.OpenFiles.{HasFailed, HasOpened, HasOpenedCopper, HasReadCopper, HasReadText, copper_keep, drill_role}
pub use Rattle.package_check.specs.Package.{BytesHaveContent, FileView, FindingsNameTheirPlaces, HasContent, HasDrillContent, HasMixedContent, HaveContents, IsAnswer, IsFirstRefused, IsReport, NamesItsPlaces, Reads, ReadsBytes, ReadsCopper, ReadsHoles, ReadsMixedHoles, ReadsUnlessBadSpan, ReturnsExactly, ReturnsReport, Setting, bad_span, holes_of_all, file_view, file_views_in, findings, holes_of, index_of, is_bad_span, is_copper, layer_count, layer_indexes, layers, not_copper, numbered_holes, pads_of, pieced_file_views, report_on, sum_of, unnamed_file, views_in}
pub use Rattle.package_check.specs.Reports.{ReportView}
pub use Rattle.package_check.specs.Soundness.{AreDrilledBy, HolesAreSaidOnce, IsRun, IsSound, LiesAsAllowed, MakePads, PadsAreSaidOnce, PassingIsSound, SaysHoles, SaysPads, SoundIsStraight}
pub use Rattle.package_check.specs.SoundnessAsRead.{AreLegal, IsPlatedThrough, PassingIsSoundAsRead, SoundAsReadIsSound, drilled_in}
pub use Rattle.package_check.specs.Texts.{file_line, finding_line, last_line, name_words, report_text, rules_line, span_words, text_of}
pub use Rattle.package_check.specs.WiderProfile.{FindsNoMore, IsUncontradicted, ReadIsUncontradicted, WideFindsNoMore, read_in, said_in, WideAnswersByBoard, is_called_plated, in_wide, layer_rings, wide_rings}
pub use Rattle.board_report.specs.BoardReport.{is_gap, IsGapEntry, IsRingEntry, conflict_in}
pub use Rattle.board.specs.declared.FileSum.{FileSum}
pub use Rattle.board.specs.declared.Numbered.{Numbered}
pub use Rattle.package_check.specs.declared.PackageFault.{PackageFault}
pub use Rattle.package_check.specs.declared.checking.Judged.{Judged}
pub use Rattle.package_check.specs.declared.contents.Content.{Content}
pub use Rattle.package_check.specs.declared.package_reader.PackageReader.{PackageReader}
pub use Rattle.package_check.specs.declared.slots.Kept.{Kept}
pub use Rattle.pad_shapes.specs.WidePads.{IsInWidePad, wide_pad_covers}
pub use Rattle.pad_shapes.specs.declared.drawn.Drawn.{Drawn}
pub use Rattle.pad_shapes.specs.declared.wide_pad.WidePad.{WidePad}
pub use Rattle.ring_rules.proofs.EnumeratedLists.{enumerated_all, flat_listed_more}
pub use Rattle.ring_rules.proofs.TriedPads.{layer_by_coverings, tried_more}
pub use Rattle.ring_rules.specs.Findings.{finding_of, gap_findings, hole_findings, is_refused_slot, is_ring_finding, layer_findings, ring_findings}
pub use Rattle.ring_rules.specs.Search.{Covering, HasTried, HasTriedCoverings}
pub use Rattle.ring_rules.specs.WithoutFindings.{ApartWithoutFindings, AreAllApart, GapsNamePlaces, HolesHoldWithoutFindings, IsHoleHeld, NamesPlaces, RingsNamePlaces, StraightWithoutFindings}
pub use Rattle.ring_rules.specs.declared.finding.Drilled.{Drilled}
pub use Rattle.ring_rules.specs.declared.finding.Finding.{Finding}
pub use Rattle.ring_rules.specs.declared.ring_index.RingIndex.{RingIndex}
pub use Rattle.std.proofs.Output.{has_written_append, has_written_of_eq}
pub use Rattle.std.proofs.lemmas.Bool.{both_ways, cases_eq, cases_lt, cases_order, eq-eqb, eqb-true, false≢true, le-leb, le-ltb, leb-false, leb-true, lt-ltb, ltb-true, ne_eqb, or_cases, or_left, or_right}
pub use Rattle.std.proofs.lemmas.List.{append-nil, get_or-append_right, get_or-map, get_or-set_other, get_or-set_same, get_or_append_left, get_or_default, length-append, length-drop, length-map, length-set, length-take-le, map-append, take-append-drop, take-take, take_all, take_more, nil_from_length, flat_map_more, drop_all, map-id}
pub use Rattle.std.proofs.lemmas.List.Concat.{flat_map-cons}
pub use Rattle.std.proofs.lemmas.List.Elements.{All-append, Contains-append_cases, Contains-append_left}
pub use Rattle.std.proofs.lemmas.List.Sums.{count_by_more_no, count_by_more_yes, sum_by-cons, sum_by-take-le, sum_by_more}
pub use Rattle.std.proofs.lemmas.Option.{get_or_from_slice_get, none-some, same_Some, slice_get-map, slice_get_past, slice_get_read, slice_get_within}
pub use Rattle.std.proofs.lemmas.Result.{IfOk-weaker, err_from_is_err_and, on_ok_weaker}
pub use Rattle.std.specs.List.{All, AllByRecursion, AllZip, Contains, concat, cons_option, count_by, enumerate_from, filter, flat_map, list_any, sum_by, filter_map}
pub use Rattle.std.specs.Prelude.{alloc_error, if◌then◌else◌, nat_lt, option_map, ⊤, ◌==◌}
pub use Rattle.std.specs.Slice.Iter.{chunks_rest, chunks_size}
pub use Rattle.std.specs.declared.alloc.AllocError.{AllocError}
pub use Rattle.package_check.specs.BoardReports.{MatchesGap, MatchesRing, ReportAgreesWithCheck, RowsAreMatched}
pub use Rattle.std.proofs.lemmas.Slice.Zip.{AllZip-long}
pub use Rattle.grid_units.proofs.BoolLemmas.{not_not, not_true, or_is_false}
pub use Rattle.ring_rules.specs.declared.finding.Finding.TheVariants.{Gap, Ring, Oblique}
pub use Rattle.layer_image.specs.declared.reader.LayerReader.{LayerReader}
pub use Rattle.std.proofs.lemmas.List.Sorted.{IsPartitionedBy-leb, IsPartitionPoint-from_clause}
pub use Rattle.std.specs.Global.{Vec}
pub use Rattle.layer_features.specs.Features.{pad_in, row_kind, rows_of, features_of, view_in, wide_features_of, contour_pad, macro_pad, strict_kind_of, strict_view, uncounted_contours, uncounted_macros, counts_of}
pub use Rattle.layer_features.specs.declared.feature.FeatureKind.{FeatureKind}
pub use Rattle.grid_units.proofs.ListLemmas.{flat_map_at, append_nil_left, append_nil_right}
pub use Rattle.std.proofs.lemmas.List.Folds.{concat-append, list_any-append}
pub use Rattle.gerber_text.specs.Laws.{TextsSpellOneListIn, SpelledTextsAreWrittenIn}
pub use Rattle.layer_features.specs.CopperLaws.{WidePadsAreUnique, LegalWidePads}
pub use Rattle.layer_image.specs.PadLaws.{PadsAreUnique, LayerPads}
pub use Rattle.drill_text.specs.Drilling.{AreHoles}
pub use Rattle.drill_text.specs.Laws.{DrillsAtMostOneList, IsTextOfAtMostOne, ListedHolesAreDrilled, ReadIsWritten, SpelledIsWritten, WideHolesAreDrilled}
pub use Rattle.grid_units.specs.Points.{GridPoint}
pub use Rattle.pad_shapes.specs.declared.wide_pad.WidePad.TheVariants.{Plain, Rounded}
pub use Rattle.std.proofs.lemmas.Iterator.Adapters.{YieldsList-from_vec}
pub use Rattle.std.proofs.lemmas.Iterator.Consumers.{YieldsList-end}
pub use Rattle.std.specs.Vec.Iter.{into_iter_len}
pub use Rattle.report.specs.declared.RoleConflict.{RoleConflict}
pub use Rattle.std.specs.Option.{option_copied}
pub use Rattle.package_check.specs.declared.open_copper.CopperReading.{CopperReading}
pub use Rattle.package_check.specs.declared.open_file.Reading.{Reading}
unfoldable pub use Rattle.board.specs.Boards.{numbered_from}
unfoldable pub use Rattle.package_check.specs.Texts.{drill_words, file_lines, layer_words, length_words, place_words, slot_words}
