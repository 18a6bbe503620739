use Rattle.report.proofs.Common.{List, arith, length, subst, take, ◌∙◌, take_all, IsFirstIn, Other}
use Rattle.report.proofs.FirstInHole.{first_is_found, joined_to}
use Rattle.report.proofs.groups.first_in.Goals as goal

pub returns : goal.returns
returns c = λ flashes moved.
    let all = c.args.all.now in
    let h = c.args.hole.now in
    let s = c.loop-search.search in
    let whole = joined_to all s.passed (length all) c.loop-search.invariant.inside ∙ take_all (length all) all (omega arith) in
    first_is_found flashes all h c.first_in_hole.result moved
    (subst (λ (xs : List Other). IsFirstIn xs h c.first_in_hole.result) whole (c.first_in_hole.ensures (take s.passed all) c.loop-search.invariant.first))
