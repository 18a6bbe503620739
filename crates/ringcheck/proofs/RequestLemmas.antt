-- What a status says of a request, by the words that it was read from.
use Rattle.ringcheck.proofs.Common.{ℕ, Bool, List, Option, is_some, option_map, sym, Relation, IsSilent, IsSilentStatus, Written, Status, IsParsedMeasureStatus, parse_check, parse_draw, parse_measure, parse_report, profile_of, IsParsedCheckStatus, IsParsedDrawStatus, IsParsedReportStatus, IsExitOf, IsRequestStatus}
use Rattle.command_line.specs.ProgramArgs.{IsCertify, IsCheck, IsDraw, IsExplain, IsManifest, IsMeasure, IsReport, IsRewrite, IsShow, IsVerify}
use Rattle.command_line.specs.declared.Request.{Request}
use Rattle.command_line.specs.declared.Request.TheVariants.{Check, Certify, Verify, Measure, Report, Draw, Show, Rewrite, Manifest, Explain}
use Rattle.ringcheck_files.specs.declared.Status.TheVariants as status
use Rattle.ringcheck_files.specs.declared.file_jobs.FileJob.TheVariants as job
use Rattle.ringcheck_files.specs.FileStatus.{IsParsedFileStatus, parse_kind}
use Rattle.ringcheck_files.specs.ManifestStatus.{IsExplainStatus}
use Rattle.ringcheck.specs.CertificateStatus.{IsParsedCertificateStatus, IsVerifyStatus}
use Rattle.ringcheck.specs.ManifestStatus.{IsParsedManifestStatus}
use Rattle.ringcheck.specs.ShowStatus.{IsParsedShowStatus}
use Rattle.ringcheck.specs.Sentences.{check_sentence, draw_sentence, is_for_people, measure_sentence, profile_sentence, report_sentence}

-- of a check
pub check_status : (has : Relation) (r g : List ℕ) (p : Option (List ℕ)) (m : List ℕ) (request : Request) (failed_before failed_after : ℕ) (before after : Written) (s : Status)
    → IsCheck r g p m request → IsRequestStatus request has failed_before failed_after before after s → IsParsedCheckStatus has m (parse_check p r g) (check_sentence p r g) before after s
check_status has r g p m (Check options manifest) failed_before failed_after before after s ((er, eg, ep), em) says = rw (sym er, sym eg, sym ep, sym em) says
check_status has r g p m request failed_before failed_after before after s h says = absurd h

-- of a certificate
pub certify_status : (has : Relation) (r g : List ℕ) (p : Option (List ℕ)) (m : List ℕ) (request : Request) (failed_before failed_after : ℕ) (before after : Written) (s : Status)
    → IsCertify r g p m request → IsRequestStatus request has failed_before failed_after before after s → IsParsedCertificateStatus has m (parse_check p r g) (check_sentence p r g) before after s
certify_status has r g p m (Certify options manifest) failed_before failed_after before after s ((er, eg, ep), em) says = rw (sym er, sym eg, sym ep, sym em) says
certify_status has r g p m request failed_before failed_after before after s h says = absurd h

-- of a certificate that is verified
pub verify_status : (has : Relation) (c : List ℕ) (request : Request) (failed_before failed_after : ℕ) (before after : Written) (s : Status)
    → IsVerify c request → IsRequestStatus request has failed_before failed_after before after s → IsVerifyStatus has c before after s
verify_status has c (Verify certificate) failed_before failed_after before after s is says = rw (sym is) says
verify_status has c request failed_before failed_after before after s h says = absurd h

-- of a report
pub report_status : (has : Relation) (z : Bool) (r g : List ℕ) (t a p n v l o : Option (List ℕ)) (m : List ℕ) (request : Request) (failed_before failed_after : ℕ) (before after : Written) (s : Status)
    → IsReport z r g t a p n v l o m request → IsRequestStatus request has failed_before failed_after before after s
    → IsExitOf z (IsParsedReportStatus has m (parse_report p r g t a n v l o) (is_for_people o) (report_sentence p r g t a n (is_some l) o) v l before after) s
report_status has z r g t a p n v l o m (Report options manifest) failed_before failed_after before after s (ez, er, eg, et, ea, ep, en, ev, el, eo, em) says =
    rw (sym ez, sym er, sym eg, sym et, sym ea, sym ep, sym en, sym ev, sym el, sym eo, sym em) says
report_status has z r g t a p n v l o m request failed_before failed_after before after s h says = absurd h

-- of a picture
pub draw_status : (has : Relation) (o : Option (List ℕ × List ℕ)) (p l : Option (List ℕ)) (m : List ℕ) (request : Request) (failed_before failed_after : ℕ) (before after : Written) (s : Status)
    → IsDraw o p l m request → IsRequestStatus request has failed_before failed_after before after s
    → IsParsedDrawStatus has m (parse_draw p (option_map (λ both. both.0) o) (option_map (λ both. both.1) o)) (draw_sentence p (option_map (λ both. both.0) o) (option_map (λ both. both.1) o)) l before after s
draw_status has o p l m (Draw options manifest) failed_before failed_after before after s (er, eg, ep, el, em) says = rw (sym er, sym eg, sym ep, sym el, sym em) says
draw_status has o p l m request failed_before failed_after before after s h says = absurd h

-- of a measure
pub measure_status : (has : Relation) (p o : Option (List ℕ)) (m : List ℕ) (request : Request) (failed_before failed_after : ℕ) (before after : Written) (s : Status) → IsMeasure p o m request
    → IsRequestStatus request has failed_before failed_after before after s → IsParsedMeasureStatus has m (parse_measure p o) (measure_sentence p o) before after s
measure_status has p o m (Measure profile format manifest) failed_before failed_after before after s (ep, eo, em) says = rw (sym ep, sym eo, sym em) says
measure_status has p o m request failed_before failed_after before after s h says = absurd h

-- of a table
pub show_status : (has : Relation) (k : List ℕ) (p : Option (List ℕ)) (f : List ℕ) (request : Request) (failed_before failed_after : ℕ) (before after : Written) (s : Status) → IsShow k p f request
    → IsRequestStatus request has failed_before failed_after before after s → IsParsedShowStatus (profile_of p) (profile_sentence p) (parse_kind k) has f before after s
show_status has k p f (Show kind profile file) failed_before failed_after before after s (ek, ep, ef) says = rw (sym ek, sym ep, sym ef) says
show_status has k p f request failed_before failed_after before after s h says = absurd h

-- of a canonical text
pub rewrite_status : (has : Relation) (k f : List ℕ) (request : Request) (failed_before failed_after : ℕ) (before after : Written) (s : Status) → IsRewrite k f request
    → IsRequestStatus request has failed_before failed_after before after s → IsParsedFileStatus job.Rewrite (parse_kind k) has f before after s
rewrite_status has k f (Rewrite kind file) failed_before failed_after before after s (ek, ef) says = rw (sym ek, sym ef) says
rewrite_status has k f request failed_before failed_after before after s h says = absurd h

-- of a manifest
pub manifest_status : (has : Relation) (w : Bool) (p : Option (List ℕ)) (fs : List (List ℕ)) (request : Request) (failed_before failed_after : ℕ) (before after : Written) (s : Status) → IsManifest w p fs request
    → IsRequestStatus request has failed_before failed_after before after s → IsParsedManifestStatus (profile_of p) (profile_sentence p) w has failed_before failed_after fs before after s
manifest_status has w p fs (Manifest why profile files) failed_before failed_after before after s (ew, ep, ef) says = rw (sym ew, sym ep, sym ef) says
manifest_status has w p fs request failed_before failed_after before after s h says = absurd h

-- of an explanation
pub explain_status : (has : Relation) (o : Option (List ℕ)) (request : Request) (failed_before failed_after : ℕ) (before after : Written) (s : Status) → IsExplain o request
    → IsRequestStatus request has failed_before failed_after before after s → IsExplainStatus o before.0 after.0 s
explain_status has o (Explain word) failed_before failed_after before after s e says = rw (sym e) says.0
explain_status has o request failed_before failed_after before after s h says = absurd h

-- where nothing was said, no status says that something was
pub silent_status : (before after : Written) (s : Status) → IsSilent before after → IsSilentStatus before after s
silent_status before after status.Pass h = h
silent_status before after status.Findings h = h
silent_status before after status.Refused h = h
silent_status before after status.Usage h = h
silent_status before after status.Device h = tt
