use Rattle.report_page.proofs.NumberLemmas.{numbers_each_once}
use Rattle.report_page.proofs.laws.each_number_once.Goals as goal

pub returns : goal.returns
returns c = numbers_each_once
