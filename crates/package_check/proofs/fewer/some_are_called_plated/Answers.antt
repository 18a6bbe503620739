use Rattle.package_check.proofs.Common.{rules, tests, RoleConflict}
use Rattle.std.specs.Prelude.{not}
use Rattle.std.proofs.lemmas.Iterator.{YieldsList-from_slice}
use Rattle.std.proofs.lemmas.Iterator.Search.{any_from_yields_List}
use Rattle.package_check.proofs.fewer.some_are_called_plated.Goals as goal

pub returns : goal.returns
returns c = any_from_yields_List (λ (conflict : RoleConflict). not conflict.plated) _ _ _ c.any.ensures.ran (YieldsList-from_slice c.args.conflicts.now cc) (λ x b q k. search (rules, tests))
