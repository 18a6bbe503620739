use Rattle.std.proofs.Common.{ap, ◌∙◌, rules}
use Rattle.grid_units.specs.Numbers.{parse_decimal}
use Rattle.grid_units.specs.Spellings.{canonical}
use Rattle.grid_units.proofs.SpellingsLemmas.{canonical_reads}
use Rattle.grid_units.proofs.decimal.Dec.write.Goals as goal

pub returns-clause-reads_back : goal.returns-clause-reads_back
unfolding canonical
returns-clause-reads_back c = ap parse_decimal (search rules) ∙ canonical_reads c.args.self (search rules)
