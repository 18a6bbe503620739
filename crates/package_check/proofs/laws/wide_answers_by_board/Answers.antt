use Rattle.package_check.proofs.WideBoards as boards
use Rattle.package_check.proofs.laws.wide_answers_by_board.Goals as goal

pub returns : goal.returns
returns c = boards.wide_answers_by_board c.strict_layers.ensures c.readings_in_profiles.ensures.unique c.drill_texts.ensures c.unique_reading.ensures.read c.wide_finds_no_more.ensures.uncontradicted c.wide_finds_no_more.ensures.fewer c.answer_exists.ensures
