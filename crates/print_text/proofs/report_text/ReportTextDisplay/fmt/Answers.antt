use Rattle.print_text.proofs.Common.{◌≡◌, ◌∙◌, ◌+◌, ◌++◌, ℕ, List, ap₂, arith, length, map, refl, enumerate_from, flat_map, has_written_append, has_written_of_eq, GapLack, LayerHead, RingLack, causes_text, gaps_text, head_text, last_lines, layer_text, summary_text, waived_report_text}
use Rattle.print_text.proofs.report_text.ReportTextDisplay.fmt.Goals as goal

pub returns-clause-writes : goal.returns-clause-writes
returns-clause-writes g c = λ plain ok.
    let report = c.self.inside.report.now in
    let fewer = c.self.inside.fewer in
    let drilling = c.self.inside.drilling in
    let limit = c.self.inside.limit in
    let accepted = c.self.inside.accepted.now in
    let names : List (List ℕ) = map (λ name. name.now) c.self.inside.names.now in
    let text = waived_report_text names report fewer drilling limit accepted in
    let by = λ (rings : List RingLack) (before : ℕ) (gaps : List GapLack) (layers : List LayerHead).
    (head_text names report drilling
    ++ (flat_map (layer_text names report.rules limit rings accepted.rings.now) (enumerate_from 0 layers)
    ++ (gaps_text names report.rules limit before gaps accepted.gaps.now ++ summary_text names (length rings + length gaps) layers rings)))
    ++ (causes_text report ++ last_lines report fewer accepted.rings.now accepted.gaps.now accepted.idle.now) in
    let rings : c.deref.result.now ≡ report.rings.items = c.deref.ensures.value in
    let gaps : c.deref-2.result.now ≡ report.gaps.items = c.deref-2.ensures.value in
    let layers : c.deref-4.result.now ≡ report.layers.items = c.deref-4.ensures.value in
    let before : c.len.result ≡ length report.rings.items = omega (arith, c.len.ensures) in
    let same : by c.deref.result.now c.len.result c.deref-2.result.now c.deref-4.result.now ≡ text =
    ap₂ (λ (r : List RingLack) (n : ℕ). by r n c.deref-2.result.now c.deref-4.result.now) rings before
    ∙ ap₂ (λ (g : List GapLack) (l : List LayerHead). by report.rings.items (length report.rings.items) g l) gaps layers in
    let view = c.self.view_is in
    let back : text ≡ c.args.self.now = cc in
    let first = c.in_ok-write.ensures.writes plain refl in
    let second = c.in_ok-write_findings.ensures first.plain refl in
    has_written_of_eq _ _ _ _ _ (same ∙ back) (has_written_append _ _ _ _ _ _ (has_written_append _ _ _ _ _ _ first second) (c.write-2.ensures.writes second.plain ok))
