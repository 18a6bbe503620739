use Rattle.ringcheck.proofs.Common.{true, List, ℕ, refl, subst, ◌≡◌, IfOk-weaker, given_waivers, kept_for, Judges, PrintsReport, ReportFormat}
use Rattle.print_text.specs.declared.report_text.Particulars.{Particulars}
use Rattle.package_check.specs.BoardReports.{IsBoardReportOf}
use Rattle.layer_features.specs.Kept.{keeps_rows}
use Rattle.ringcheck.specs.declared.parsed_words.ReportFormat.TheVariants as format
use Rattle.ringcheck.proofs.Outcomes.{neither_left}
use Rattle.ringcheck.proofs.reports.report.Goals as goal

-- a report has the flashes, in whatever format
has_flashes : (form : ReportFormat) → keeps_rows (kept_for form) ≡ true
has_flashes format.Text = refl
has_flashes format.Html = refl
has_flashes format.Json = refl
has_flashes format.Waivers = refl

pub returns : goal.returns
returns g c all same read kept =
    let options = c.args.options.now in
    let contents = g.W.Write.contents in
    let before = contents c.args.out.now in
    let after = contents c.print_judged.new.out in
    let board = c.args.board.now in
    let report = c.in_ok-report.report in
    let flashed = kept.flashed (has_flashes options.format) in
    let is : IsBoardReportOf all options.rules report = record { board = board; read = flashed; is = c.in_ok-report.ensures } in
    let about : Particulars = _ in
    let as_check = c.report_agrees_with_check.ensures all options.rules report is in
    IfOk-weaker c.print_judged.result _ _
    (λ passes h. let (accepted, judged, written) = h in record {
      report = report;
      is = is;
      drawn = λ page. kept.drawn (rw page refl);
      as_check = as_check;
      sound = λ none. let (rings, gaps) = neither_left report.rings.items report.gaps.items none in as_check.sound rings gaps;
      about = about;
      manifest = refl;
      program = refl;
      is_fewer = c.in_ok-fewer.ensures all read flashed c.in_ok-report.ensures;
      is_drilling = c.said_drilling-drilling.ensures;
      accepted = accepted;
      judged = subst (λ (ns : List (List ℕ)). Judges (given_waivers options.waivers) ns report passes accepted) same judged;
      written = subst (λ (ns : List (List ℕ)). PrintsReport options.format ns board c.args.outline.now report about options.limit accepted before after) same written;
    }) c.print_judged.ensures
