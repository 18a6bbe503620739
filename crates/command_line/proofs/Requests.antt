-- The request of a line, from the command that the program finds and the rows of its values.
use Rattle.command_line.proofs.Common.{◌≡◌, ◌∙◌, sym, refl, List, Option, Some, None, Bool, true, false, codes, option_map, bytes_eq, false≢true, bytes_eq-Decides, Row, Text, first_of, IsLineOf}
use Rattle.command_line.specs.declared.CheckWords.{CheckWords}
use Rattle.command_line.specs.declared.CommandLine.{CommandLine}
use Rattle.command_line.specs.declared.Request.{Request}
use Rattle.command_line.specs.declared.Request.TheVariants.{Check, Certify, Verify, Measure, Report, Draw, Show, Rewrite, Manifest, Explain}
use Rattle.command_line.specs.ProgramArgs.{AreOptionsOf, HaveRules, IsFlagValue, IsRequestOf, IsCertify, IsCheck, IsDraw, IsExplain, IsManifest, IsMeasure, IsReport, IsRewrite, IsShow, IsVerify}
use Rattle.command_line.proofs.CommandWords.{draw_options, measure_options, rewrite_options, rules_options, show_options, verify_options, word_options}
use Rattle.command_line.proofs.GivenOptions.{first_is, rows_of}
use Rattle.command_line.proofs.ManifestWords.{rows_of_manifest}
use Rattle.command_line.proofs.ReportLine.{flag_is, report_options, rows_of_report, text_of, value_is}

some_is : {A : Type 0} (x y : A) → Some x ≡ Some y → x ≡ y
some_is x y e = cc

-- a command by one name is not that by another
differ : (a : Text) {b : Text} → a ≡ b → bytes_eq a b ≡ false → ⊥
differ a {b} same e = false≢true (sym e ∙ (bytes_eq-Decides a b).1 same)

-- a line by its rows: the folder, and the request of a command
pub on_line : (name : Text) (rows : List Row) (i : Option Text) (Is : Request → Type 0) (line : CommandLine) → first_of (codes "in") rows ≡ i → ((request : Request) → IsRequestOf (Some (name, rows)) request → Is request)
    → IsLineOf (Some (name, rows)) line → (option_map (λ f. f.now) line.folder ≡ i) × Is line.request
on_line name rows i Is line found is a = (sym a.0 ∙ found, is line.request a.1)

have_rules : (r g : Text) (f i : Option Text) (m : Text) (options : CheckWords) → AreOptionsOf (rows_of (rules_options r g f i m)) options → HaveRules r g f options
have_rules r g f i m options a =
    let all = rules_options r g f i m in
    (some_is options.ring.now r (sym a.0 ∙ first_is (codes "ring") all), some_is options.gap.now g (sym a.1 ∙ first_is (codes "gap") all), sym a.2 ∙ first_is (codes "profile") all)

pub is_check : (r g : Text) (f i : Option Text) (m : Text) (request : Request) → IsRequestOf (Some (codes "check", rows_of (rules_options r g f i m))) request → IsCheck r g f m request
is_check r g f i m (Check options manifest) a = (have_rules r g f i m options a.1, some_is manifest.now m (sym a.2 ∙ first_is (codes "manifest") (rules_options r g f i m)))
is_check r g f i m request a = absurd (differ (codes "check") a.0 refl)

pub is_certify : (r g : Text) (f i : Option Text) (m : Text) (request : Request) → IsRequestOf (Some (codes "certify", rows_of (rules_options r g f i m))) request → IsCertify r g f m request
is_certify r g f i m (Certify options manifest) a = (have_rules r g f i m options a.1, some_is manifest.now m (sym a.2 ∙ first_is (codes "manifest") (rules_options r g f i m)))
is_certify r g f i m request a = absurd (differ (codes "certify") a.0 refl)

pub is_verify : (i : Option Text) (c : Text) (request : Request) → IsRequestOf (Some (codes "verify", rows_of (verify_options i c))) request → IsVerify c request
is_verify i c (Verify certificate) a = some_is certificate.now c (sym a.1 ∙ first_is (codes "certificate") (verify_options i c))
is_verify i c request a = absurd (differ (codes "verify") a.0 refl)

pub is_measure : (p o i : Option Text) (m : Text) (request : Request) → IsRequestOf (Some (codes "measure", rows_of (measure_options p o i m))) request → IsMeasure p o m request
is_measure p o i m (Measure profile format manifest) a =
    let all = measure_options p o i m in
    (sym a.1 ∙ first_is (codes "profile") all, sym a.2 ∙ first_is (codes "format") all, some_is manifest.now m (sym a.3 ∙ first_is (codes "manifest") all))
is_measure p o i m request a = absurd (differ (codes "measure") a.0 refl)

-- the flag is on where its words are given, and else off
is_on : (z on : Bool) (text : Option Text) → text ≡ Some (text_of z) → IsFlagValue text on → on ≡ z
is_on true on text e is = is.yes e
is_on false on text e is = is.no e

pub is_report : (z : Bool) (r g : Text) (d w f n v l o i : Option Text) (m : Text) (request : Request) → IsRequestOf (Some (codes "report", rows_of_report z (report_options r g d w f n v l o i m))) request
    → IsReport z r g d w f n v l o m request
is_report z r g d w f n v l o i m (Report options manifest) a =
    let all = report_options r g d w f n v l o i m in (
      is_on z options.exit_zero _ (flag_is z all refl) a.10,
      some_is options.ring.now r (sym a.1 ∙ value_is z (codes "ring") all refl),
      some_is options.gap.now g (sym a.2 ∙ value_is z (codes "gap") all refl),
      sym a.3 ∙ value_is z (codes "drill-off") all refl,
      sym a.4 ∙ value_is z (codes "drill-wide") all refl,
      sym a.5 ∙ value_is z (codes "profile") all refl,
      sym a.6 ∙ value_is z (codes "max") all refl,
      sym a.7 ∙ value_is z (codes "waive") all refl,
      sym a.8 ∙ value_is z (codes "outline") all refl,
      sym a.9 ∙ value_is z (codes "format") all refl,
      some_is manifest.now m (sym a.11 ∙ value_is z (codes "manifest") all refl),
    )
is_report z r g d w f n v l o i m request a = absurd (differ (codes "report") a.0 refl)

pub is_draw : (o : Option (Text × Text)) (f l i : Option Text) (m : Text) (request : Request) → IsRequestOf (Some (codes "draw", rows_of (draw_options o f l i m))) request → IsDraw o f l m request
is_draw o f l i m (Draw options manifest) a =
    let all = draw_options o f l i m in (
      sym a.1 ∙ first_is (codes "ring") all,
      sym a.2 ∙ first_is (codes "gap") all,
      sym a.3 ∙ first_is (codes "profile") all,
      sym a.4 ∙ first_is (codes "outline") all,
      some_is manifest.now m (sym a.5 ∙ first_is (codes "manifest") all),
    )
is_draw o f l i m request a = absurd (differ (codes "draw") a.0 refl)

pub is_show : (k : Text) (p i : Option Text) (f : Text) (request : Request) → IsRequestOf (Some (codes "show", rows_of (show_options k p i f))) request → IsShow k p f request
is_show k p i f (Show kind profile file) a =
    let all = show_options k p i f in
    (some_is kind.now k (sym a.1 ∙ first_is (codes "kind") all), sym a.2 ∙ first_is (codes "profile") all, some_is file.now f (sym a.3 ∙ first_is (codes "file") all))
is_show k p i f request a = absurd (differ (codes "show") a.0 refl)

pub is_rewrite : (k : Text) (i : Option Text) (f : Text) (request : Request) → IsRequestOf (Some (codes "rewrite", rows_of (rewrite_options k i f))) request → IsRewrite k f request
is_rewrite k i f (Rewrite kind file) a =
    let all = rewrite_options k i f in
    (some_is kind.now k (sym a.1 ∙ first_is (codes "kind") all), some_is file.now f (sym a.2 ∙ first_is (codes "file") all))
is_rewrite k i f request a = absurd (differ (codes "rewrite") a.0 refl)

-- the folder of a manifest's line
pub manifest_folder : (why : Bool) (p i : Option Text) (fs : List Text) → first_of (codes "in") (rows_of_manifest why p i fs) ≡ i
manifest_folder true None None fs = refl
manifest_folder true None (Some i) fs = refl
manifest_folder true (Some p) None fs = refl
manifest_folder true (Some p) (Some i) fs = refl
manifest_folder false None None fs = refl
manifest_folder false None (Some i) fs = refl
manifest_folder false (Some p) None fs = refl
manifest_folder false (Some p) (Some i) fs = refl

pub is_manifest : (why : Bool) (p i : Option Text) (fs : List Text) (request : Request) → IsRequestOf (Some (codes "manifest", rows_of_manifest why p i fs)) request → IsManifest why p fs request
is_manifest true None None fs (Manifest why profile files) a = (a.1.yes refl, sym a.2, some_is _ fs (sym a.3))
is_manifest true None (Some i) fs (Manifest why profile files) a = (a.1.yes refl, sym a.2, some_is _ fs (sym a.3))
is_manifest true (Some p) None fs (Manifest why profile files) a = (a.1.yes refl, sym a.2, some_is _ fs (sym a.3))
is_manifest true (Some p) (Some i) fs (Manifest why profile files) a = (a.1.yes refl, sym a.2, some_is _ fs (sym a.3))
is_manifest false None None fs (Manifest why profile files) a = (a.1.no refl, sym a.2, some_is _ fs (sym a.3))
is_manifest false None (Some i) fs (Manifest why profile files) a = (a.1.no refl, sym a.2, some_is _ fs (sym a.3))
is_manifest false (Some p) None fs (Manifest why profile files) a = (a.1.no refl, sym a.2, some_is _ fs (sym a.3))
is_manifest false (Some p) (Some i) fs (Manifest why profile files) a = (a.1.no refl, sym a.2, some_is _ fs (sym a.3))
is_manifest why p i fs request a = absurd (differ (codes "manifest") a.0 refl)

pub is_explain : (o : Option Text) (request : Request) → IsRequestOf (Some (codes "explain", rows_of (word_options o))) request → IsExplain o request
is_explain o (Explain word) a = sym a.1 ∙ first_is (codes "word") (word_options o)
is_explain o request a = absurd (differ (codes "explain") a.0 refl)
