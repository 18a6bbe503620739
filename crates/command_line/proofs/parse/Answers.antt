use Rattle.command_line.proofs.Common.{◌≡◌, ◌∙◌, ap, ap₂, ◌++◌, List, codes, Bool, Bor, Option, refl, sym, true, Some, None, Row, Text, fault_of, subcommand_of, IsLineOf, flag_words, option_words, ringcheck_app}
use Rattle.std.proofs.Common.{◌≤◌, length, map, subst, Err, arith}
use Rattle.std.proofs.lemmas.List.{length-append, length-map}
use Rattle.clap.specs.Lexer.{usize_max}
use Rattle.clap.specs.Words.{is_simple, is_simple_and_free, takes}
use Rattle.command_line.specs.ProgramArgs.{ParsesLine, IsCertify, IsCheck, IsDraw, IsExplain, IsManifest, IsMeasure, IsReport, IsRewrite, IsShow, IsVerify, manifest_words}
use Rattle.command_line.proofs.ParseResult.{fault_told, line_is_parsed, refused, version_told}
use Rattle.command_line.proofs.CommandWords.{certify_answer, check_answer, draw_answer, draw_options, explain_answer, is_free_command, is_plain_command, measure_answer, measure_options, rewrite_answer, rewrite_options, rules_options, show_answer, show_options, verify_answer, verify_options, version_fault, word_options}
use Rattle.command_line.proofs.GivenOptions.{first_is, rows_of}
use Rattle.command_line.proofs.ManifestWords.{manifest_answer, rows_of_manifest}
use Rattle.command_line.proofs.ReportLine.{report_answer, report_options, rows_of_report, value_is}
use Rattle.command_line.proofs.NamedCommand.{answer}
use Rattle.command_line.proofs.Requests.{manifest_folder, on_line, is_certify, is_check, is_draw, is_explain, is_manifest, is_measure, is_report, is_rewrite, is_show, is_verify}
use Rattle.command_line.proofs.parse.Goals as goal

-- the files fit where the words do
few_files : (words : List (Bor Text)) (why : Bool) (profile folder : Option Text) (fs : List Text) → map (λ w. w.now) words ≡ manifest_words why profile folder fs → length words ≤ usize_max → length fs ≤ usize_max
few_files words why profile folder fs e few =
    let in_folder = option_words (codes "--in") folder ++ fs in
    let in_profile = option_words (codes "--profile") profile ++ in_folder in
    omega (
      arith,
      ap length e,
      length-map words (λ (w : Bor Text). w.now),
      length-append (flag_words (codes "--why") why) in_profile,
      length-append (option_words (codes "--profile") profile) in_folder,
      length-append (option_words (codes "--in") folder) fs,
    )

pub returns-in-Some : goal.returns-in-Some
returns-in-Some c =
    let line = c.in-Some.line in
    let parsed = c.in-Ok-try_get_matches_from.ensures.matches (ap is_simple c.in-Ok.ensures ∙ is_plain_command) in
    let faultless = c.in-Ok-try_get_matches_from.ensures.kinds (ap is_simple_and_free c.in-Ok.ensures ∙ is_free_command) in
    let asks = λ (words : List Text) (found : Option (Text × List Row)) (e : map (λ (w : Bor Text). w.now) c.args.words.now ≡ words) (is : answer words ≡ (true, found)).
    subst (λ o. IsLineOf o line) (parsed.1 ∙ ap₂ subcommand_of c.in-Ok.ensures e ∙ (λ i. (is i).1)) c.in-Some.ensures in
    record {
      exact = line_is_parsed _ _ _ line c.in-Ok.ensures faultless parsed.1 c.in-Some.ensures;
      check = λ r g f i m e p q t u s.
          on_line (codes "check") (rows_of (rules_options r g f i m)) i (IsCheck r g f m) line (first_is (codes "in") (rules_options r g f i m)) (is_check r g f i m) (asks _ _ e (check_answer r g f i m p q t u s));
      certify = λ r g f i m e p q t u s.
          on_line (codes "certify") (rows_of (rules_options r g f i m)) i (IsCertify r g f m) line (first_is (codes "in") (rules_options r g f i m)) (is_certify r g f i m) (asks _ _ e (certify_answer r g f i m p q t u s));
      verify = λ i t e u s. on_line (codes "verify") (rows_of (verify_options i t)) i (IsVerify t) line (first_is (codes "in") (verify_options i t)) (is_verify i t) (asks _ _ e (verify_answer i t u s));
      measure = λ p o i m e q t u s. on_line (codes "measure") (rows_of (measure_options p o i m)) i (IsMeasure p o m) line (first_is (codes "in") (measure_options p o i m)) (is_measure p o i m) (asks _ _ e (measure_answer p o i m q t u s));
      report = λ z r g d a f n v l o i m e p q j k y t w x u b s.
          let given = report_options r g d a f n v l o i m in
          on_line (codes "report") (rows_of_report z given) i (IsReport z r g d a f n v l o m) line (value_is z (codes "in") given refl) (is_report z r g d a f n v l o i m)
          (asks _ _ e (report_answer z r g d a f n v l o i m p q j k y t w x u b s));
      draw = λ o f l i m e p y t u s. on_line (codes "draw") (rows_of (draw_options o f l i m)) i (IsDraw o f l m) line (first_is (codes "in") (draw_options o f l i m)) (is_draw o f l i m) (asks _ _ e (draw_answer o f l i m p y t u s));
      show = λ k p i f e q t u s. on_line (codes "show") (rows_of (show_options k p i f)) i (IsShow k p f) line (first_is (codes "in") (show_options k p i f)) (is_show k p i f) (asks _ _ e (show_answer k p i f q t u s));
      rewrite = λ k i f e p u q. on_line (codes "rewrite") (rows_of (rewrite_options k i f)) i (IsRewrite k f) line (first_is (codes "in") (rewrite_options k i f)) (is_rewrite k i f) (asks _ _ e (rewrite_answer k i f p u q));
      manifest = λ why profile i fs e q t p.
          let few = few_files c.args.words.now why profile i fs e (omega (arith, c.word_count-count.ensures)) in
          on_line (codes "manifest") (rows_of_manifest why profile i fs) i (IsManifest why profile fs) line (manifest_folder why profile i fs) (is_manifest why profile i fs) (asks _ _ e (manifest_answer why profile i fs q t p few));
      list = λ e. on_line (codes "explain") (rows_of (word_options None)) None (IsExplain None) line (first_is (codes "in") (word_options None)) (is_explain None) (asks _ _ e (explain_answer None refl));
      explain = λ w e p. on_line (codes "explain") (rows_of (word_options (Some w))) None (IsExplain (Some w)) line (first_is (codes "in") (word_options (Some w))) (is_explain (Some w)) (asks _ _ e (explain_answer (Some w) p));
      version = λ e. let no = sym faultless ∙ ap₂ fault_of c.in-Ok.ensures e ∙ version_fault in cc no;
      below = tt;
    }

pub returns : goal.returns
returns c =
    let fault = c.in-Err.ensures.kinds (ap is_simple_and_free c.in-Ok.ensures ∙ is_free_command) in
    let memory = λ (words : List Text) (found : Option (Text × List Row)) (e : map (λ (w : Bor Text). w.now) c.args.words.now ≡ words) (is : answer words ≡ (true, found)).
    c.refusal_for.ensures.memory (c.in-Err.ensures.passes (ap₂ takes c.in-Ok.ensures e ∙ (λ i. (is i).0))) in
    let exact : ParsesLine (map (λ (w : Bor Text). w.now) c.args.words.now) (Err c.refusal_for.result) =
    refused _ _ _ c.refusal_for.result c.in-Ok.ensures fault c.refusal_for.ensures.kind c.refusal_for.ensures.memory in
    record {
      exact = exact;
      check = λ r g f i m e p q t u s. rw (memory _ _ e (check_answer r g f i m p q t u s)) tt;
      certify = λ r g f i m e p q t u s. rw (memory _ _ e (certify_answer r g f i m p q t u s)) tt;
      verify = λ i t e u s. rw (memory _ _ e (verify_answer i t u s)) tt;
      measure = λ p o i m e q t u s. rw (memory _ _ e (measure_answer p o i m q t u s)) tt;
      report = λ z r g d a f n v l o i m e p q j k y t w x u b s. rw (memory _ _ e (report_answer z r g d a f n v l o i m p q j k y t w x u b s)) tt;
      draw = λ o f l i m e p y t u s. rw (memory _ _ e (draw_answer o f l i m p y t u s)) tt;
      show = λ k p i f e q t u s. rw (memory _ _ e (show_answer k p i f q t u s)) tt;
      rewrite = λ k i f e p u q. rw (memory _ _ e (rewrite_answer k i f p u q)) tt;
      manifest = λ why profile i fs e q t p.
          let few = few_files c.args.words.now why profile i fs e (omega (arith, c.word_count-count.ensures)) in
          rw (memory _ _ e (manifest_answer why profile i fs q t p few)) tt;
      list = λ e. rw (memory _ _ e (explain_answer None refl)) tt;
      explain = λ w e p. rw (memory _ _ e (explain_answer (Some w) p)) tt;
      version = λ e. version_told _ c.refusal_for.result (ap (fault_of ringcheck_app) e ∙ version_fault) exact;
      below = fault_told _ _ _ c.refusal_for.result c.in-Ok.ensures fault c.refusal_for.ensures.below c.refusal_for.ensures.memory;
    }
