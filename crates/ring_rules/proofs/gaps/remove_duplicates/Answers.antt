use Rattle.std.proofs.lemmas.List.Filters.{dedup_is}
use Rattle.ring_rules.proofs.Common.{Contains-dedup, Contains-from_dedup, IsStrictlySortedBy-dedup}
use Rattle.ring_rules.proofs.SortedPairs.{pairs_total, pairs_tie, pairs_equal, pairs_same, rising_from_strict}
use Rattle.ring_rules.proofs.gaps.remove_duplicates.Goals as goal

pub returns-clause-rising : goal.returns-clause-rising
returns-clause-rising c = rw (dedup_is _ _ _ c.dedup.ensures.filtered) (rising_from_strict _ (IsStrictlySortedBy-dedup pairs_total pairs_tie _ c.requires))

pub returns-clause-kept : goal.returns-clause-kept
returns-clause-kept c p h = rw (dedup_is _ _ _ c.dedup.ensures.filtered) (Contains-dedup pairs_equal pairs_same _ p h)

pub returns-clause-none : goal.returns-clause-none
returns-clause-none c p h = Contains-from_dedup _ _ p (rw (dedup_is _ _ _ c.dedup.ensures.filtered) at h)
