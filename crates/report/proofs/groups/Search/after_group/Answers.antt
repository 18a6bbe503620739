use Rattle.report.proofs.Common.{List, Some, subst, sym, take, IsFirstIn, Other, slice_range, All-weaker, IsWithin, is_in_shape, ◌≡◌, false}
use Rattle.report.proofs.FirstInHole.{has_passed, joined_to, passed_inside, passed_later, passed_out}
use Rattle.report.proofs.groups.Search.after_group.Goals as goal

pub returns-then-is_later-clause-passed : goal.returns-then-is_later-clause-passed
returns-then-is_later-clause-passed c =
    let all = c.args.others.now in
    let h = c.args.hole.now in
    let g = c.args.group.now in
    let s = c.args.self.now in
    let next = c.is_next.ensures c.if-not-is_next.false in
    let held = c.is_later.ensures c.if-is_later.true in
    let was = subst (IsFirstIn (take s.passed all) h) held.1 c.requires.passed.first in
    has_passed all h g.end s.first c.by-then-is_later.result c.by-then-is_later.ensures.passed c.by-then-is_later.ensures.first c.requires.group.inside
    (subst (IsFirstIn (take g.end all) h) (sym held.1) (passed_later all h g c.requires.group s.passed next.0 next.1 held.0 held.2 was))

pub returns-then-not-may_touch-clause-passed : goal.returns-then-not-may_touch-clause-passed
returns-then-not-may_touch-clause-passed c =
    let all = c.args.others.now in
    let h = c.args.hole.now in
    let g = c.args.group.now in
    let s = c.args.self.now in
    let next = c.is_next.ensures c.if-not-is_next.false in
    let out = All-weaker (IsWithin g.bounds) (λ other. is_in_shape h other.at ≡ false) (c.may_touch.ensures c.if-not-may_touch.true) (slice_range all g.start g.end) c.requires.group.bounds.within in
    has_passed all h g.end s.first c.by-then-not-may_touch.result c.by-then-not-may_touch.ensures.passed c.by-then-not-may_touch.ensures.first c.requires.group.inside
    (passed_out all h g c.requires.group s.passed next.0 next.1 s.first out c.requires.passed.first)

pub returns-then-is_inside-clause-passed : goal.returns-then-is_inside-clause-passed
returns-then-is_inside-clause-passed c =
    let all = c.args.others.now in
    let h = c.args.hole.now in
    let g = c.args.group.now in
    let s = c.args.self.now in
    let next = c.is_next.ensures c.if-not-is_next.false in
    has_passed all h g.end (Some c.earlier_flash-first.result) c.by-then-is_inside.result c.by-then-is_inside.ensures.passed c.by-then-is_inside.ensures.first c.requires.group.inside
    (subst (λ (o : Other). IsFirstIn (take g.end all) h (Some o)) (sym c.earlier_flash-first.ensures)
    (passed_inside all h g c.requires.group s.passed next.0 next.1 s.first (c.is_inside.ensures c.if-is_inside.true) c.requires.passed.first))

pub returns-clause-passed : goal.returns-clause-passed
returns-clause-passed c =
    let all = c.args.others.now in
    let h = c.args.hole.now in
    let g = c.args.group.now in
    let s = c.args.self.now in
    let next = c.is_next.ensures c.if-not-is_next.false in
    has_passed all h g.end c.first_in_hole-first.result c.by-2.result c.by-2.ensures.passed c.by-2.ensures.first c.requires.group.inside
    (subst (λ (xs : List Other). IsFirstIn xs h c.first_in_hole-first.result) (joined_to all s.passed g.end next.1) (c.first_in_hole-first.ensures (take s.passed all) c.requires.passed.first))
