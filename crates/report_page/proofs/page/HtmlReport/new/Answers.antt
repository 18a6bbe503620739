use Rattle.report_page.proofs.Common.{List, ap, map, subst, Profile, svg_text, FileSum, html_text}
use Rattle.board_report.specs.Measures.{IsMeasure}
use Rattle.report_page.proofs.page.HtmlReport.new.Goals as goal

-- the files of the page are those of the board
pub returns : goal.returns
returns c =
    let svg = svg_text c.in_ok-drawing.drawing in
    let measure = c.in_ok-measure.measure in
    record {
      svg = svg;
      measure = measure;
      drawn = c.in_ok-drawing.ensures;
      measured = subst (λ (profile : Profile). IsMeasure profile c.args.board.now measure) c.profile.ensures c.in_ok-measure.ensures.exact;
      is = ap (λ (files : List FileSum). html_text (map (λ name. name.now) c.args.names.now) c.args.about.now files c.args.report.now c.args.accepted.now measure.rings.items svg) c.files-files.ensures.sums;
    }
