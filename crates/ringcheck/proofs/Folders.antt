-- What a status says of a request, of a loader whose names are taken from a folder, and where no folder could be entered.
use Rattle.print_text.specs.Drilling.{DrillBounds}
use Rattle.ringcheck.proofs.Common.{Bool, true, false, ℕ, List, [], ◌∷◌, Option, Some, None, Result, Ok, Err, inl, inr, refl, GridRules, Reason, Profile, AllByRecursion, Entry, Status, Relation, Written, parse_check, parse_draw, parse_measure, profile_of, Checks, IsParsedCheckStatus, IsDrawStatus, IsParsedDrawStatus, PrintsPicture, IsParsedMeasureStatus, PrintsMeasure, measure_style, IsParsedReportStatus, IsWaivingReportStatus, IsExitOf, IsRequestStatus, word_bytes, ReportFormat}
use Rattle.command_line.specs.declared.Request.{Request}
use Rattle.command_line.specs.declared.Request.TheVariants.{Check, Certify, Verify, Measure, Report, Draw, Show, Rewrite, Manifest, Explain}
use Rattle.ringcheck_files.specs.declared.Status.TheVariants as status
use Rattle.ringcheck_files.specs.declared.file_jobs.FileJob.{FileJob}
use Rattle.ringcheck_files.specs.declared.file_jobs.FileJob.TheVariants as file_job
use Rattle.ringcheck_files.specs.FileStatus.{IsKindStatus, IsParsedFileStatus, parse_kind}
use Rattle.ringcheck_files.specs.ManifestStatus.{HasAllLoaded, HasLoaded, IsExplainStatus, IsManifestStatus, LoadedView, bytes, folder, long, unread}
use Rattle.ringcheck_files.specs.declared.rewrite.Kind.{Kind}
use Rattle.print_json.specs.ReadCertificates.{CertifiedView}
use Rattle.ringcheck.specs.CertificateStatus.{AreOther, Certifies, HasOther, IsCertificateStatus, IsOtherAt, IsParsedCertificateStatus, IsVerified, IsVerifyStatus, changed, made_anew, no_certificate, other_files, other_manifest}
use Rattle.ringcheck.specs.ManifestStatus.{IsParsedManifestStatus}
use Rattle.ringcheck.specs.Sentences.{measure_sentence, profile_sentence}
use Rattle.ringcheck.specs.ShowStatus.{IsParsedShowStatus}
use Rattle.ringcheck.specs.declared.parsed_words.MeasureOrder.{MeasureOrder}
use Rattle.ringcheck.specs.declared.refusals.RefusalStyle.TheVariants as style
use Rattle.ringcheck.proofs.Outcomes.{outlined_along, report_outlined_along, says_along}

-- ---- a loader that has no more, and one that has more

-- with the flag of a report or without it, what is said for one reason is said for a weaker one
exit_weaker : (zero : Bool) (P Q : Status → Type 0) → ((s : Status) → P s → Q s) → (s : Status) → IsExitOf zero P s → IsExitOf zero Q s
exit_weaker false P Q to s h = to s h
exit_weaker true P Q to status.Pass (inl h) = inl (to status.Pass h)
exit_weaker true P Q to status.Pass (inr h) = inr (to status.Findings h)
exit_weaker true P Q to status.Findings h = h
exit_weaker true P Q to status.Refused h = to status.Refused h
exit_weaker true P Q to status.Usage h = to status.Usage h
exit_weaker true P Q to status.Device h = to status.Device h

module _ (later has : List ℕ → List ℕ → Type 0) (to : (n b : List ℕ) → later n b → has n b) where
  other_along : (name : List ℕ) (digest : Option (List ℕ)) → HasOther later name digest → HasOther has name digest
  other_along name digest (found, had, why) = (found, to name found had, why)

  pub all_other_along : (digests : List (List ℕ)) (entries : List Entry) (numbers : List ℕ) → AllByRecursion (IsOtherAt later digests entries) numbers → AllByRecursion (IsOtherAt has digests entries) numbers
  all_other_along digests entries [] h = tt
  all_other_along digests entries (n ∷ ns) ((index, entry, is, at, other), h) = ((index, entry, is, at, other_along entry.file _ other), all_other_along digests entries ns h)

module _ (later has : List ℕ → List ℕ → Type 0) (to : (n b : List ℕ) → later n b → has n b) (before after : Written) where
  check_along : (name : List ℕ) (parsed : Result GridRules Reason) (sentence : List ℕ) (s : Status) → IsParsedCheckStatus later name parsed sentence before after s → IsParsedCheckStatus has name parsed sentence before after s
  check_along name (Ok rules) sentence s h = says_along later has to rules.profile name (λ text entries. Checks rules before.0 after.0) style.Line before after s h
  check_along name (Err why) sentence s h = h

  pub certified_along : (name : List ℕ) (rules : GridRules) (given : Option (List ℕ)) (s : Status) → IsCertificateStatus later name rules given before after s → IsCertificateStatus has name rules given before after s
  certified_along name rules given s h = says_along later has to rules.profile name (Certifies rules given name before.0 after.0) style.Line before after s h

  certify_along : (name : List ℕ) (parsed : Result GridRules Reason) (sentence : List ℕ) (s : Status) → IsParsedCertificateStatus later name parsed sentence before after s → IsParsedCertificateStatus has name parsed sentence before after s
  certify_along name (Ok rules) sentence s h = certified_along name rules None s h
  certify_along name (Err why) sentence s h = h

  others_along : (it : CertifiedView) (numbers : List ℕ) → AreOther later it numbers → AreOther has it numbers
  others_along it numbers (other_manifest other) = other_manifest (other_along later has to it.manifest _ other)
  others_along it numbers (other_files entries (text, (had, short, reads)) some all) = other_files entries (text, (to it.manifest text had, short, reads)) some (all_other_along later has to it.digests entries some all)

  pub verified_along : (given : List ℕ) (s : Status) → IsVerified later given before after s → IsVerified has given before after s
  verified_along given s (no_certificate names denied) = no_certificate names denied
  verified_along given s (changed it names first more others denied) = changed it names first more (others_along it (first ∷ more) others) denied
  verified_along given s (made_anew it names h) = made_anew it names (certified_along it.manifest it.rules (Some given) s h)

  verify_along : (name : List ℕ) (s : Status) → IsVerifyStatus later name before after s → IsVerifyStatus has name before after s
  verify_along name s (inl device) = inl device
  verify_along name s (inr (inl (found, had, above, denied))) = inr (inl (found, to name found had, above, denied))
  verify_along name s (inr (inr (given, held, h))) = inr (inr (given, to name given held, verified_along given s h))

  measure_along : (name : List ℕ) (parsed : Result MeasureOrder Reason) (sentence : List ℕ) (s : Status) → IsParsedMeasureStatus later name parsed sentence before after s → IsParsedMeasureStatus has name parsed sentence before after s
  measure_along name (Ok order) sentence s h = says_along later has to order.profile name (λ text entries. PrintsMeasure order before.0 after.0) (measure_style order.format) before after s h
  measure_along name (Err why) sentence s h = h

  draw_along : (name : List ℕ) (parsed : Result (Profile × Option GridRules) Reason) (sentence : List ℕ) (outline : Option (List ℕ)) (s : Status) → IsParsedDrawStatus later name parsed sentence outline before after s
      → IsParsedDrawStatus has name parsed sentence outline before after s
  draw_along name (Ok (profile, rules)) sentence outline s h =
      outlined_along later has to (λ parts. IsDrawStatus later name profile rules parts before after) (λ parts. IsDrawStatus has name profile rules parts before after)
      (λ parts. says_along later has to profile name (λ text entries. PrintsPicture rules parts before.0 after.0) style.Line before after) outline before after s h
  draw_along name (Err why) sentence outline s h = h

  waiving_along : (name : List ℕ) (rules : GridRules) (drilling : Option DrillBounds) (limit : Option ℕ) (form : ReportFormat) (waive outline : Option (List ℕ)) (s : Status)
      → IsWaivingReportStatus later name rules drilling limit form waive outline before after s → IsWaivingReportStatus has name rules drilling limit form waive outline before after s
  waiving_along name rules drilling limit form None outline s h = report_outlined_along later has to name rules drilling limit form None outline before after s h
  waiving_along name rules drilling limit form (Some file) outline s (inl (is, (why, (text, had, refused), printed))) = inl (is, (why, (text, to file text had, refused), printed))
  waiving_along name rules drilling limit form (Some file) outline s (inr (inl is)) = inr (inl is)
  waiving_along name rules drilling limit form (Some file) outline s (inr (inr (waivers, (text, (had, short, reads)), h))) =
      inr (inr (waivers, (text, (to file text had, short, reads)), report_outlined_along later has to name rules drilling limit form (Some waivers) outline before after s h))

  report_along : (name : List ℕ) (parsed : Result (GridRules × Option DrillBounds × Option ℕ × ReportFormat) Reason) (below : Bool) (sentence : List ℕ) (waive outline : Option (List ℕ)) (s : Status)
      → IsParsedReportStatus later name parsed below sentence waive outline before after s → IsParsedReportStatus has name parsed below sentence waive outline before after s
  report_along name (Ok (rules, drilling, limit, form)) below sentence waive outline s h = waiving_along name rules drilling limit form waive outline s h
  report_along name (Err why) below sentence waive outline s h = h

  kind_along : (what : FileJob) (kind : Option Kind) (name : List ℕ) (from to_text : Option (List ℕ)) (s : Status) → IsKindStatus what kind later name from to_text s → IsKindStatus what kind has name from to_text s
  kind_along what (Some kind) name from to_text status.Pass h = record { bytes = h.bytes; loaded = (to name h.bytes h.loaded.0, h.loaded.1); text = h.text; answer = h.answer; written = h.written }
  kind_along what (Some kind) name from to_text status.Findings h = h
  kind_along what (Some kind) name from to_text status.Refused h = record { bytes = h.bytes; loaded = to name h.bytes h.loaded; why = h.why; fault = h.fault; printed = h.printed }
  kind_along what (Some kind) name from to_text status.Usage h = h
  kind_along what (Some kind) name from to_text status.Device h = tt
  kind_along what None name from to_text s h = h

  file_along : (what : FileJob) (kind : Option Kind) (name : List ℕ) (s : Status) → IsParsedFileStatus what kind later name before after s → IsParsedFileStatus what kind has name before after s
  file_along what kind name s (h, silent) = (kind_along what kind name before.0 after.0 s h, silent)

  show_along : (profile : Option Profile) (sentence : List ℕ) (kind : Option Kind) (name : List ℕ) (s : Status) → IsParsedShowStatus profile sentence kind later name before after s → IsParsedShowStatus profile sentence kind has name before after s
  show_along (Some profile) sentence kind name s h = file_along (file_job.Show profile) kind name s h
  show_along None sentence kind name s h = h

  one_along : (name : List ℕ) (view : LoadedView) → HasLoaded later name view → HasLoaded has name view
  one_along name (bytes text) h = (to name text h.0, h.1)
  one_along name unread h = tt
  one_along name folder h = tt
  one_along name long h = (h.0, to name h.0 h.1, h.2)

  all_along : (all : List (List ℕ × LoadedView)) → HasAllLoaded later all → HasAllLoaded has all
  all_along [] h = tt
  all_along (p ∷ ps) h = (one_along p.0 p.1 h.0, all_along ps h.1)

  proposal_along : (profile : Profile) (why : Bool) (failed_before failed_after : ℕ) (names : List (List ℕ)) (s : Status)
      → IsManifestStatus profile why later failed_before failed_after names before.0 after.0 s → IsManifestStatus profile why has failed_before failed_after names before.0 after.0 s
  proposal_along profile why failed_before failed_after names status.Pass (named, h) = (
    named,
    record {
      files = h.files;
      named = h.named;
      loaded = all_along _ h.loaded;
      failed = h.failed;
      proposes = h.proposes;
      text = h.text;
      is = h.is;
      written = h.written;
    },
  )
  proposal_along profile why failed_before failed_after names status.Findings h = h
  proposal_along profile why failed_before failed_after names status.Refused h = h
  proposal_along profile why failed_before failed_after names status.Usage (inl h) = inl h
  proposal_along profile why failed_before failed_after names status.Usage (inr h) =
      inr (record { all = h.all; named = h.named; loaded = all_along h.all h.loaded; failed = h.failed; hold = h.hold; written = h.written })
  proposal_along profile why failed_before failed_after names status.Device h = tt

  manifest_along : (profile : Option Profile) (sentence : List ℕ) (why : Bool) (failed_before failed_after : ℕ) (names : List (List ℕ)) (s : Status)
      → IsParsedManifestStatus profile sentence why later failed_before failed_after names before after s → IsParsedManifestStatus profile sentence why has failed_before failed_after names before after s
  manifest_along (Some profile) sentence why failed_before failed_after names s (h, silent) = (proposal_along profile why failed_before failed_after names s h, silent)
  manifest_along None sentence why failed_before failed_after names s h = h

  pub request_along : (request : Request) (failed_before failed_after : ℕ) (s : Status) → IsRequestStatus request later failed_before failed_after before after s → IsRequestStatus request has failed_before failed_after before after s
  request_along (Check options manifest) failed_before failed_after s h = check_along manifest.now (parse_check (word_bytes options.profile) options.ring.now options.gap.now) _ s h
  request_along (Certify options manifest) failed_before failed_after s h = certify_along manifest.now (parse_check (word_bytes options.profile) options.ring.now options.gap.now) _ s h
  request_along (Verify certificate) failed_before failed_after s h = verify_along certificate.now s h
  request_along (Measure profile format manifest) failed_before failed_after s h =
      measure_along manifest.now (parse_measure (word_bytes profile) (word_bytes format)) (measure_sentence (word_bytes profile) (word_bytes format)) s h
  request_along (Report options manifest) failed_before failed_after s h = exit_weaker options.exit_zero _ _ (report_along manifest.now _ _ _ _ _) s h
  request_along (Draw options manifest) failed_before failed_after s h =
      draw_along manifest.now (parse_draw (word_bytes options.profile) (word_bytes options.ring) (word_bytes options.gap)) _ (word_bytes options.outline) s h
  request_along (Show kind profile file) failed_before failed_after s h = show_along (profile_of (word_bytes profile)) (profile_sentence (word_bytes profile)) (parse_kind kind.now) file.now s h
  request_along (Rewrite kind file) failed_before failed_after s h = file_along file_job.Rewrite (parse_kind kind.now) file.now s h
  request_along (Manifest why profile files) failed_before failed_after s h = manifest_along (profile_of (word_bytes profile)) (profile_sentence (word_bytes profile)) why failed_before failed_after _ s h
  request_along (Explain word) failed_before failed_after s h = h

-- ---- Device says nothing of any request

module _ (has : Relation) (before after : Written) where
  check_device : (name : List ℕ) (parsed : Result GridRules Reason) (sentence : List ℕ) → IsParsedCheckStatus has name parsed sentence before after status.Device
  check_device name (Ok rules) sentence = tt
  check_device name (Err why) sentence = inr refl

  certify_device : (name : List ℕ) (parsed : Result GridRules Reason) (sentence : List ℕ) → IsParsedCertificateStatus has name parsed sentence before after status.Device
  certify_device name (Ok rules) sentence = tt
  certify_device name (Err why) sentence = inr refl

  measure_device : (name : List ℕ) (parsed : Result MeasureOrder Reason) (sentence : List ℕ) → IsParsedMeasureStatus has name parsed sentence before after status.Device
  measure_device name (Ok order) sentence = tt
  measure_device name (Err why) sentence = inr refl

  draw_device : (name : List ℕ) (parsed : Result (Profile × Option GridRules) Reason) (sentence : List ℕ) (outline : Option (List ℕ)) → IsParsedDrawStatus has name parsed sentence outline before after status.Device
  draw_device name (Ok (profile, rules)) sentence None = tt
  draw_device name (Ok (profile, rules)) sentence (Some file) = inr (inl refl)
  draw_device name (Err why) sentence outline = inr refl

  report_device : (name : List ℕ) (parsed : Result (GridRules × Option DrillBounds × Option ℕ × ReportFormat) Reason) (below : Bool) (sentence : List ℕ) (waive outline : Option (List ℕ)) → IsParsedReportStatus has name parsed below sentence waive outline before after status.Device
  report_device name (Ok (rules, drilling, limit, form)) below sentence (Some file) outline = inr (inl refl)
  report_device name (Ok (rules, drilling, limit, form)) below sentence None (Some file) = inr (inl refl)
  report_device name (Ok (rules, drilling, limit, form)) below sentence None None = tt
  report_device name (Err why) below sentence waive outline = inr refl

  exit_device : (zero : Bool) (Says : Status → Type 0) → Says status.Device → IsExitOf zero Says status.Device
  exit_device true Says h = h
  exit_device false Says h = h

  file_device : (what : FileJob) (kind : Option Kind) (name : List ℕ) → IsParsedFileStatus what kind has name before after status.Device
  file_device what (Some kind) name = (tt, tt)
  file_device what None name = (inr refl, tt)

  show_device : (profile : Option Profile) (sentence : List ℕ) (kind : Option Kind) (name : List ℕ) → IsParsedShowStatus profile sentence kind has name before after status.Device
  show_device (Some profile) sentence kind name = file_device (file_job.Show profile) kind name
  show_device None sentence kind name = inr refl

  manifest_device : (profile : Option Profile) (sentence : List ℕ) (why : Bool) (failed_before failed_after : ℕ) (names : List (List ℕ)) → IsParsedManifestStatus profile sentence why has failed_before failed_after names before after status.Device
  manifest_device (Some profile) sentence why failed_before failed_after names = (tt, tt)
  manifest_device None sentence why failed_before failed_after names = inr refl

  explain_device : (word : Option (List ℕ)) → IsExplainStatus word before.0 after.0 status.Device
  explain_device (Some word) = tt
  explain_device None = tt

  pub request_device : (request : Request) (failed_before failed_after : ℕ) → IsRequestStatus request has failed_before failed_after before after status.Device
  request_device (Check options manifest) failed_before failed_after = check_device manifest.now (parse_check (word_bytes options.profile) options.ring.now options.gap.now) _
  request_device (Certify options manifest) failed_before failed_after = certify_device manifest.now (parse_check (word_bytes options.profile) options.ring.now options.gap.now) _
  request_device (Verify certificate) failed_before failed_after = inl refl
  request_device (Measure profile format manifest) failed_before failed_after = measure_device manifest.now (parse_measure (word_bytes profile) (word_bytes format)) _
  request_device (Report options manifest) failed_before failed_after = exit_device options.exit_zero _ (report_device manifest.now _ _ _ _ _)
  request_device (Draw options manifest) failed_before failed_after = draw_device manifest.now (parse_draw (word_bytes options.profile) (word_bytes options.ring) (word_bytes options.gap)) _ (word_bytes options.outline)
  request_device (Show kind profile file) failed_before failed_after = show_device (profile_of (word_bytes profile)) _ (parse_kind kind.now) file.now
  request_device (Rewrite kind file) failed_before failed_after = file_device file_job.Rewrite (parse_kind kind.now) file.now
  request_device (Manifest why profile files) failed_before failed_after = manifest_device (profile_of (word_bytes profile)) _ why failed_before failed_after _
  request_device (Explain word) failed_before failed_after = (explain_device (word_bytes word), tt)
