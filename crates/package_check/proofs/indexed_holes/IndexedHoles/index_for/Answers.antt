use Rattle.package_check.proofs.Common.{List, ap, subst, sym, ◌∙◌, HolesView, HasTriedIn, Drilled, RingIndex}
use Rattle.package_check.proofs.indexed_holes.IndexedHoles.index_for.Goals as goal

pub returns-clause-tried : goal.returns-clause-tried
returns-clause-tried c = λ layer tried h.
    let same_holes = ap (λ (v : HolesView). v.holes) c.self-2.view_is ∙ c.in-Ok.ensures.holes in
    subst (λ (hs : List Drilled). HasTriedIn hs c.replace.new.dest layer tried c.in-Ok.search) (sym same_holes)
    (subst (λ (ix : RingIndex). HasTriedIn c.args.self.now.holes ix layer tried c.in-Ok.search) (sym c.replace.ensures.after) (c.in-Ok.ensures.tried layer tried h))
