use Rattle.ring_rules.proofs.Common.{◌≤◌, ℕ, subst, sym}
use Rattle.ring_rules.proofs.CoreLemmas.{passed, passed_coordinate, range_distance_in_range}
use Rattle.ring_rules.proofs.cores.core_distance_y.Goals as goal

pub returns-clause-in_range : goal.returns-clause-in_range
returns-clause-in_range c =
    subst (λ (n : ℕ). n ≤ 20000000000000) (sym c.range_distance.ensures) (range_distance_in_range (passed c.y.result) (passed c.y-2.result) (passed c.y-3.result) (passed c.y-4.result)
    (passed_coordinate c.y.result c.y.ensures.in_range, passed_coordinate c.y-2.result c.y-2.ensures.in_range)
    (passed_coordinate c.y-3.result c.y-3.ensures.in_range, passed_coordinate c.y-4.result c.y-4.ensures.in_range))
