use Rattle.board.proofs.Common.{◌≡◌, ℕ, ℤ, ◌≤◌, List, get_or, refl, sym, subst, arith, Contains, ints, get_or_default, default_hole, Drilled}
use Rattle.ring_rules.specs.Near.{size_of, AreNearer}
use Rattle.board.proofs.NearestSearch.{nearest_of_prefix}
use Rattle.board.proofs.PassedIntegers.{on}
use Rattle.board.proofs.nearest.nearest_for_hole.Goals as goal

pub returns : goal.returns
returns c =
    let is : get_or c.args.holes.now c.args.place c.index-holes-place.result ≡ get_or c.args.holes.now c.args.place default_hole = get_or_default c.args.holes.now c.args.place c.index-holes-place.result default_hole c.requires.place in
    nearest_of_prefix c.args.holes.now c.args.prefix.now.count c.args.place c.args.gap c.near_zone-zone.result c.args.prefix.now.limits c.deref.result.now c.args.best c.nearest_among.result c.requires.prefix.inside c.requires.prefix.limits
    (λ o under size near.
    c.near_zone-zone.ensures o under (subst (λ (d : Drilled). size_of o ≤ size_of d.hole) (sym is) size)
    (on (λ (z : ℤ). AreNearer z o (get_or c.args.holes.now c.args.place c.index-holes-place.result).hole) c.args.gap c.args.gap (omega (arith, ints, c.requires.gap)) refl (subst (λ (d : Drilled). AreNearer c.args.gap o d.hole) (sym is) near)))
    (λ k h z. subst (λ (xs : List ℕ). Contains xs k) (sym c.deref.ensures.value) (c.in_ok-find.ensures.all k h z))
    c.nearest_among.ensures
