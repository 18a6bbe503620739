use Rattle.report_page.proofs.Common.{◌≡◌, has_written_of_eq, of_z, rules, to_z, to_z-of_z, w64, reason_words}
unfoldable use Rattle.report_page.specs.Pages.{gap_end}
use Rattle.report_page.proofs.rows.write_gap_end.Goals as goal

pub returns : goal.returns
unfolding gap_end
returns g c = λ plain ok.
    let gap : to_z w64 (of_z w64 c.args.gap) ≡ c.args.gap = search (rules, to_z-of_z) in
    let rule : to_z w64 (of_z w64 c.args.rule) ≡ c.args.rule = search (rules, to_z-of_z) in
    has_written_of_eq _ _ _ _ _ (λ i. gap_end (gap i) (rule i) (reason_words c.args.why)) (c.write.ensures.writes plain ok)
