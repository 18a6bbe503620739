use Rattle.ringcheck.proofs.Common.{refl}
use Rattle.ringcheck.proofs.refusals.print_no_table.Goals as goal

pub returns-in_ok-print_explained-in-Role : goal.returns-in_ok-print_explained-in-Role
returns-in_ok-print_explained-in-Role g c = rw c.in-Role.is (refl, rw (c.as_str-role.ensures, c.as_str-file.ensures) at c.in_ok-print_explained-in-Role.ensures)
