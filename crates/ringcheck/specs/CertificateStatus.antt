-- What a status says of a certificate that is made of a package, and of one that is verified.
use Rattle.std.specs.Prelude.{◌≡◌, ◌≢◌, ◌<◌, ◌⊎◌, ◌==◌, ◌&&◌, ◌++◌, ◌∷◌, ◌+◌, ◌-◌, [], ℕ, Bool, true, false, List, Option, None, Some, Result, Ok, Err, codes, decimal, length, map, slice_get, if◌then◌else◌}
use Rattle.std.specs.List.{AllByRecursion, flat_map, zip}
use Rattle.std.specs.Str.{IsUtf8, bytes_eq}
use Rattle.std.specs.Io.KnownBytes.{Appends}
use Rattle.hex.specs.Hex.{encode_lower}
use Rattle.sha2.specs.Sha256.{sha256}
use Rattle.grid_units.specs.Holes.{GridRules}
use Rattle.grid_units.specs.declared.fault.Reason.{Reason}
use Rattle.manifest.specs.Manifest.{manifest_in}
use Rattle.manifest.specs.declared.Entry.{Entry}
use Rattle.command_line.specs.declared.commands.TheConstants.{PROGRAM}
use Rattle.print_json.specs.Certificates.{certificate_value}
use Rattle.print_json.specs.ReadCertificates.{CertifiedView, certified_by}
use Rattle.print_json.specs.Values.{json_text}
use Rattle.package_check.specs.Reports.{ReportView}
use Rattle.package_check.specs.Package.{FileView, IsReport}
use Rattle.package_check.specs.Soundness.{IsSound}
use Rattle.package_check.specs.SoundnessAsRead.{AreLegal}
use Rattle.package_check.specs.Texts.{report_text}
use Rattle.ringcheck_files.specs.LoaderRelation.{Relation, file_limit}
use Rattle.ringcheck_files.specs.Words.{IsExplainedUsage}
use Rattle.ringcheck_files.specs.Writers.{Written}
use Rattle.ringcheck_files.specs.declared.Status.{Status}
use Rattle.ringcheck_files.specs.declared.Status.TheVariants as status
use Rattle.ringcheck.specs.declared.refusals.RefusalStyle.TheVariants as style
use Rattle.ringcheck.specs.CheckStatus.{HasTable, SaysManifest}

-- the files by the names under which they are looked for, each with the digest of its bytes, which are read, and last the manifest of this name and text
abbrev pub certified_files : List ℕ → List ℕ → List Entry → List FileView → List (List ℕ × List ℕ)
certified_files name text entries all = zip (map (λ entry. entry.file) entries) (map (λ file. sha256 file.bytes) all) ++ (name, sha256 text) ∷ []

-- the certificate of a package with this report (docs/FORMATS.md, Certificates)
abbrev pub certificate_text : GridRules → List ℕ → List ℕ → List Entry → List FileView → ReportView → List ℕ
certificate_text rules name text entries all report =
    json_text (certificate_value PROGRAM.now rules (certified_files name text entries all) (name, sha256 text) (map (λ file. file.name) all) report.files)

-- whether a certificate that is given, if one is, is this text
abbrev pub is_given : Option (List ℕ) → List ℕ → Bool
is_given None text = true
is_given (Some given) text = bytes_eq text given

-- whether a certificate that is given is certified
abbrev pub verdict_text : Bool → List ℕ
verdict_text certified = if certified then codes "CERTIFIED\n" else codes "NOT CERTIFIED\n"

-- what is printed: where no certificate is given, that of a package that passes, and the report of another; else whether the one that is given is certified
abbrev pub certified_text : Option (List ℕ) → Bool → List ℕ → List ℕ → List ℕ
certified_text None passes certificate report = if passes then certificate else report
certified_text (Some given) passes certificate report = verdict_text passes

-- the writer got just what is printed of these files, each of which is of the profile. It passes where the check has no finding, and the files are sound; and, where a
-- certificate is given, if it is just the one of the manifest of this name and text and of the bytes of these very files
pub record Certifies (rules : GridRules) (given : Option (List ℕ)) (name : List ℕ) (before after : Option (List ℕ))
    (text : List ℕ) (entries : List Entry) (passes : Bool) (all : List FileView) : Type 0 where
  pub report : ReportView
  pub is : IsReport all rules report
  pub legal : AreLegal all
  pub certificate : List ℕ
  pub certified : certificate ≡ certificate_text rules name text entries all report
  pub passed : passes ≡ ((length report.findings == 0) && is_given given certificate)
  pub written : Appends before after (certified_text given passes certificate (report_text all report))
  pub sound : passes ≡ true → IsSound all rules

-- what a status says of a certificate that is asked for, or that is given, under these rules
abbrev pub IsCertificateStatus : Relation → List ℕ → GridRules → Option (List ℕ) → Written → Written → Status → Type 0
IsCertificateStatus has name rules given before after s =
    SaysManifest has rules.profile name (Certifies rules given name before.0 after.0) style.Line before after s

-- what a status says of a certificate under the rules that words name, or where these are refused, and beside the line this sentence says why
abbrev pub IsParsedCertificateStatus : Relation → List ℕ → Result GridRules Reason → List ℕ → Written → Written → Status → Type 0
IsParsedCertificateStatus has name (Ok rules) sentence before after s = IsCertificateStatus has name rules None before after s
IsParsedCertificateStatus has name (Err why) sentence before after s = IsExplainedUsage false why sentence before after s

-- what the bytes of a certificate name; nothing only where they are no UTF-8, or no certificate
abbrev pub Names : List ℕ → Option CertifiedView → Type 0
Names bytes None = IsUtf8 bytes → certified_by bytes ≡ None
Names bytes (Some it) = certified_by bytes ≡ Some it

-- the loader has bytes under a name that have another SHA-256 than this one, which is in hexadecimal digits, or that are too long for a file
abbrev pub HasOther : Relation → List ℕ → Option (List ℕ) → Type 0
HasOther has name digest = (bytes : List ℕ) × has name bytes × ((file_limit < length bytes) ⊎ (digest ≢ Some (encode_lower (sha256 bytes))))

-- of the files of these entries the one of this number, from 1, is another than these digests say
abbrev pub IsOtherAt : Relation → List (List ℕ) → List Entry → ℕ → Type 0
IsOtherAt has digests entries number =
    (index : ℕ) × (entry : Entry) × (number ≡ index + 1) × (slice_get entries index ≡ Some entry) × HasOther has entry.file (slice_get digests index)

-- The files of these numbers are others than the certificate says that names this: just the manifest, which has the last number; or files that it lists.
pub data AreOther (has : Relation) (it : CertifiedView) : List ℕ → Type 0 where
  other_manifest : HasOther has it.manifest (slice_get it.digests (length it.digests - 1)) → AreOther has it (length it.digests ∷ [])
  other_files : (entries : List Entry) → HasTable (manifest_in it.rules.profile) has it.manifest entries → (numbers : List ℕ)
      → AllByRecursion (IsOtherAt has it.digests entries) numbers → AreOther has it numbers

-- the lines on the files of these numbers
abbrev pub differs_lines : List ℕ → List ℕ
differs_lines = flat_map (λ number. codes "differs file=" ++ (decimal number ++ codes "\n"))

-- it is not certified: below the lines on the files of these numbers the last line that was written says so, and the status is Findings
abbrev pub IsDenied : List ℕ → Written → Written → Status → Type 0
IsDenied numbers before after s = (s ≡ status.Findings) × Appends before.0 after.0 (differs_lines numbers ++ verdict_text false)

-- What a status says of a certificate of these bytes that is verified: they are none; some of its files, of which there is a first, have changed; or the status is that of this certificate,
-- of the package of the manifest and under the rules that it names. Where it passes the text is just the certificate that is made of them.
pub data IsVerified (has : Relation) (given : List ℕ) (before after : Written) (s : Status) : Type 0 where
  no_certificate : Names given None → IsDenied [] before after s → IsVerified has given before after s
  changed : (it : CertifiedView) → Names given (Some it) → (first : ℕ) (more : List ℕ) → AreOther has it (first ∷ more)
      → IsDenied (first ∷ more) before after s → IsVerified has given before after s
  made_anew : (it : CertifiedView) → Names given (Some it) → IsCertificateStatus has it.manifest it.rules (Some given) before after s
      → IsVerified has given before after s

-- what a status says of a certificate under a name that is verified: that it cannot be read, or is too long; or what is said of its bytes
abbrev pub IsVerifyStatus : Relation → List ℕ → Written → Written → Status → Type 0
IsVerifyStatus has name before after s = (s ≡ status.Device)
    ⊎ (((long : List ℕ) × has name long × (file_limit < length long) × IsDenied [] before after s)
    ⊎ ((given : List ℕ) × has name given × IsVerified has given before after s))
