use Rattle.macro_shapes.proofs.ExactLemmas.{products_are_exact, quotients_are_exact}
use Rattle.macro_shapes.proofs.laws.values_are_exact.Goals as goal

pub returns-clause-products : goal.returns-clause-products
returns-clause-products c = products_are_exact

pub returns-clause-quotients : goal.returns-clause-quotients
returns-clause-quotients c = quotients_are_exact
