use Rattle.package_check.proofs.Common.{◌≤◌, ◌∙◌, ap, length, rules, slice_get, ReportView}
use Rattle.package_check.proofs.FileStartsLemmas.{numbered_past}
use Rattle.package_check.proofs.package_report.Report.hole.Goals as goal

pub returns-then-len-place : goal.returns-then-len-place
returns-then-len-place c =
    let inside = c.self.inside in
    let past : length inside.holes.items ≤ c.args.place = search rules in
    numbered_past inside.files.items inside.holes.items c.args.place c.self.invariant.counted past ∙ ap (λ (v : ReportView). slice_get v.holes c.args.place) c.self.view_is
