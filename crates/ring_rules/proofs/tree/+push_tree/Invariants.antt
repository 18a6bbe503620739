use Rattle.ring_rules.proofs.Common.{◌-◌}
use Rattle.ring_rules.proofs.tree.+push_tree.Given as goal

abbrev pub decreases-push_tree : goal.decreases-push_tree
decreases-push_tree l = l.run.end - l.run.start
