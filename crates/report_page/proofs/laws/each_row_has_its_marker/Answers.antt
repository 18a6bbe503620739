use Rattle.report_page.proofs.MarkerLemmas as markers
use Rattle.report_page.proofs.laws.each_row_has_its_marker.Goals as goal

pub returns : goal.returns
returns c = markers.each_row_has_its_marker c.findings_name_places.ensures.rings c.findings_name_places.ensures.gaps
