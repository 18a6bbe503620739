use Rattle.report_page.specs.Pages.{page_text}
use Rattle.ringcheck.proofs.reports.print_page.Goals as goal

pub returns : goal.returns
returns g c = (page_text c.in_ok-page.page, c.in_ok-page.ensures, c.in_ok-written.ensures.bytes)
