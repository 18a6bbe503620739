-- Names that proofs of this crate cite, passed on from one place. Declares nothing.
pub use Rattle.std.proofs.Common.{Bool, Err, IfOk, List, None, Ok, OnOk, Option, Result, Some, [], ap, append-nil, append_assoc, arith, codes, cond, eqb, false, get_or, inl, inr, is_some, length, ltb, map, min, not, option_map, refl, set, subst, suc, sym, take, true, zero, ℕ, ◌&&◌, ◌++◌, ◌+◌, ◌<◌, ◌||◌, ◌↔◌, ◌∙◌, ◌∷◌, ◌≡◌, ◌≢◌, ◌≤◌}
pub use Rattle.grid_units.specs.Holes.{GridRules}
pub use Rattle.grid_units.specs.declared.fault.Reason.{Reason}
pub use Rattle.grid_units.specs.declared.profile.Profile.{Profile}
pub use Rattle.grid_units.specs.declared.profile.Profile.TheVariants.{Strict, Wide}
pub use Rattle.manifest.specs.Manifest.{manifest_in}
pub use Rattle.manifest.specs.declared.Entry.{Entry}
pub use Rattle.package_check.specs.Boards.{IsBoard, Returns, report_of_board}
pub use Rattle.package_check.specs.CheckViews.{CheckView, setting_of}
pub use Rattle.package_check.specs.Checking.{HasJudged, HasJudgedAll, TakesCopper, drill_files, layer_number}
pub use Rattle.package_check.specs.Holding.{HasTaken, HasTakenAll}
pub use Rattle.package_check.specs.OpenFiles.{HasOpened, HasOpenedCopper}
pub use Rattle.package_check.specs.Package.{FileView, ReadsBytes, ReadsCopper, ReadsHoles, ReadsUnlessBadSpan, ReturnsReport, Setting, is_bad_span, is_copper}
pub use Rattle.package_check.specs.declared.PackageFault.{PackageFault}
pub use Rattle.ringcheck.specs.CheckStatus.{Checks, HasFiles, HoldsForPackage, IsPackageRefusal, IsParsedCheckStatus, IsTable, RefusedAmong, RefusedFile, SaysManifest, bad_file, file_views_among, long_file, refused_file, refused_manifest, setting_in, sources, status_of}
pub use Rattle.ringcheck.specs.DrawStatus.{IsDrawStatus, IsParsedDrawStatus, PrintsPicture}
pub use Rattle.ringcheck.specs.Inner.Digests.{AreDigestsOf, Hashes, HashesOn}
pub use Rattle.ringcheck.specs.Inner.Halting.{AfterHalt, AfterNoTable, Halts, HaltsTable, OfFiles, RefusesTable, refusal}
pub use Rattle.ringcheck.specs.Inner.Jobs.{Holds, SaysJob, given_waivers, job_profile, job_style}
pub use Rattle.ringcheck.specs.Inner.Loading.{AreFirstOf, CopperGoesOn, EndsAt, GoesOn, HasJudgedHashed, HasLoaded, HasTakenHashed, LoadsCopper, LoadsCopperTo, LoadsFile, LoadsKind, OfCheckedCopper, RefusesLong, is_kind_at, is_kind_of, source}
pub use Rattle.ringcheck.specs.MeasureStatus.{IsParsedMeasureStatus, PrintsMeasure, measure_page, measure_style}
pub use Rattle.ringcheck.specs.Outlining.{IsOutlinedStatus}
pub use Rattle.ringcheck.specs.ParsedWords.{parse_check, parse_draw, parse_measure, parse_report, profile_of, word_bytes}
unfoldable pub use Rattle.ringcheck.specs.ParsedWords.{parse_count}
pub use Rattle.ringcheck.specs.Refusals.{PrintsRefusal, Refusal, indented_row, of_archive, of_file, of_role}
pub use Rattle.ringcheck.specs.ReportStatus.{IsFewer, IsParsedReportStatus, IsReportStatus, IsWaivingReportStatus, Judges, PrintsReport, Reports, asks_wide, has_none, kept_for, report_style, says_fewer}
pub use Rattle.ringcheck.specs.RequestStatus.{IsExitOf, IsRequestStatus}
pub use Rattle.ringcheck.specs.declared.parsed_words.ReportFormat.{ReportFormat}
pub use Rattle.ringcheck.specs.declared.refusals.Halt.{Halt}
pub use Rattle.ringcheck_files.specs.LoaderRelation.{Relation, file_limit, in_folder, within}
pub use Rattle.ringcheck_files.specs.Outcomes.{HasCause, HasRisen}
pub use Rattle.ringcheck_files.specs.Writers.{IsSilent, IsSilentStatus, Written, texts}
pub use Rattle.ringcheck_files.specs.declared.Status.{Status}
pub use Rattle.std.proofs.lemmas.Bool.{and_left, and_right, both_ways, cases_eq, cases_lt, eqb-true, false≢true, le-leb, le-ltb, lt-ltb, or_cases, or_from}
pub use Rattle.std.proofs.lemmas.List.{flat_map_more, get_or-set_other, get_or-set_same, length-set, length-take-le, nil_from_length, take_all}
pub use Rattle.std.proofs.lemmas.Option.{IfSome_then, none-some, same_Some, slice_get_read, slice_get_within}
pub use Rattle.std.proofs.lemmas.Result.{IfOk-weaker, err_from_is_err_and}
pub use Rattle.std.specs.Io.KnownBytes.{Appends}
pub use Rattle.std.specs.List.{AllByRecursion, Contains, count_by, flat_map, list_any}
pub use Rattle.std.specs.Option.{IfSome, option_or, unwrap_or}
pub use Rattle.std.specs.Prelude.{nat_le, slice_get, ◌==◌}
