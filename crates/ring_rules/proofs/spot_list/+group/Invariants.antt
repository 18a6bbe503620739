use Rattle.ring_rules.proofs.Common.{length}
use Rattle.ring_rules.proofs.spot_list.+group.Given as goal

abbrev pub decreases-group : goal.decreases-group
decreases-group l = length l.entries.now
