use Rattle.std.proofs.lemmas.List.Sorted.{IsPermutation-append, IsPermutation-trans}
use Rattle.ring_rules.proofs.spot_list.+group.Goals as goal

pub returns : goal.returns
returns t c = IsPermutation-trans _ _ _ c.sort_along.ensures (rw c.split_at_mut-first.ensures.value (IsPermutation-append _ _ _ _ c.group.ensures c.group-2.ensures))
