use Rattle.std.proofs.Common.{ap, ◌∙◌, rules}
use Rattle.grid_units.specs.Numbers.{parse_decimal}
use Rattle.grid_units.specs.Spellings.{spelling_with_point}
use Rattle.grid_units.proofs.SpellingsLemmas.{pointed_reads}
use Rattle.grid_units.proofs.decimal.Dec.write_pointed.Goals as goal

pub returns-clause-reads_back : goal.returns-clause-reads_back
unfolding spelling_with_point
returns-clause-reads_back c = ap parse_decimal (search rules) ∙ pointed_reads c.args.self (search rules)
