use Rattle.grid_units.proofs.NumberReasons.{coordinates, decimals, lengths}
use Rattle.grid_units.proofs.laws.number_reasons.Goals as goal

pub returns-clause-decimals : goal.returns-clause-decimals
returns-clause-decimals c = decimals

pub returns-clause-coordinates : goal.returns-clause-coordinates
returns-clause-coordinates c = coordinates

pub returns-clause-lengths : goal.returns-clause-lengths
returns-clause-lengths c = lengths
