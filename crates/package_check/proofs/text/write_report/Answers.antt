use Rattle.package_check.proofs.Common.{◌≡◌, ◌∙◌, List, ℕ, Bor, ap, map, sym, IfOk-weaker, layer_count, file_views_in, report_text, text_of}
use Rattle.package_check.proofs.ReportTextLemmas.{same_names}
use Rattle.package_check.proofs.text.write_report.Goals as goal

pub returns : goal.returns
returns c = λ profile.
    let files = c.args.files.now in
    let text = λ (names : List (List ℕ)). text_of names c.args.report.now in
    IfOk-weaker c.bytes_of.result (λ bytes. bytes.items ≡ text (map (λ name. name.now) c.as_slice.result.now)) (λ bytes. bytes.items ≡ report_text (file_views_in profile files) c.args.report.now)
    (λ bytes is. is ∙ (ap (λ (names : List (Bor (List ℕ))). text (map (λ name. name.now) names)) c.as_slice.ensures.value ∙ (ap text c.in_ok-names.ensures ∙ ap text (sym (same_names (record { layers = layer_count files; profile = profile }) files)))))
    c.bytes_of.ensures
