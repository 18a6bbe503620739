use Rattle.package_check.proofs.Common.{◌≡◌, ◌∙◌, List, Option, None, Some, map, ap, subst, sym, wide_pad_covers, HolesView, HasTriedIn, HasTried, Drilled, RingIndex}
use Rattle.ring_rules.specs.declared.layer_search.LayerSearch.{LayerSearch}
use Rattle.package_check.proofs.indexed_holes.IndexedHoles.take_search_over.Goals as goal

pub returns-clause-tried : goal.returns-clause-tried
returns-clause-tried c = λ layer pads h.
    let now = c.args.self.now in
    let is_taken : now.search ≡ Some c.in-Some.search = sym (ap (λ (v : HolesView). v.search) c.self.view_is) ∙ (sym c.take.ensures.value ∙ c.in-Some.is) in
    let search = c.in-Some.search in
    let same_holes = c.deref.ensures.value ∙ ap (λ (v : HolesView). v.holes) c.self.view_is in
    let same_index = ap (λ (v : HolesView). v.index) c.self.view_is in
    let tried = subst (λ (o : Option LayerSearch). HasTriedIn now.holes now.index layer pads o) is_taken h in
    let given = subst (λ (hs : List Drilled). HasTried wide_pad_covers hs layer pads c.self.inside.index search) (sym same_holes)
    (subst (λ (ix : RingIndex). HasTried wide_pad_covers now.holes layer pads ix search) (sym same_index) tried) in
    subst (λ (hs : List Drilled). HasTried wide_pad_covers hs layer pads c.args.index.now c.in_ok-over.over) same_holes (c.in_ok-over.ensures.tried layer (map wide_pad_covers pads) given)

pub returns-in_default-clause-tried : goal.returns-in_default-clause-tried
returns-in_default-clause-tried c = λ layer pads h.
    let none : c.args.self.now.search ≡ None = sym (ap (λ (v : HolesView). v.search) c.self.view_is) ∙ (sym c.take.ensures.value ∙ c.in_default.is) in
    subst (λ (o : Option LayerSearch). HasTriedIn c.args.self.now.holes c.args.self.now.index layer pads o) none h
