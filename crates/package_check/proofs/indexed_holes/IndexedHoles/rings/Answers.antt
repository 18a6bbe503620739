use Rattle.package_check.proofs.Common.{◌++◌, List, map, ap, subst, sym, ◌∙◌, wide_pad_covers, layer_findings, Covering, HasTried, layer_by_coverings, Drilled, Finding, RingIndex, HolesView}
use Rattle.package_check.proofs.indexed_holes.IndexedHoles.rings.Goals as goal

pub returns-clause-rings : goal.returns-clause-rings
returns-clause-rings c = λ pads h.
    let old = c.args.self.now in
    let layer = c.args.layer in
    let search = c.in_ok-search.search in
    let same_holes = c.deref.ensures.value ∙ (ap (λ (v : HolesView). v.holes) c.self.view_is ∙ c.in_ok-search.ensures.holes) in
    let same_index = ap (λ (v : HolesView). v.index) c.self.view_is ∙ c.in_ok-search.ensures.index in
    let same_rules = ap (λ (v : HolesView). v.rules) c.self.view_is ∙ c.in_ok-search.ensures.rules in
    let tried = subst (λ (hs : List Drilled). HasTried wide_pad_covers hs layer pads c.self.inside.index search) (sym same_holes)
    (subst (λ (ix : RingIndex). HasTried wide_pad_covers old.holes layer pads ix search) (sym same_index) (c.in_ok-search.ensures.tried pads h)) in
    let covered = map wide_pad_covers pads in
    let found = layer_findings (λ covering. covering) c.self.inside.index.rules.profile c.self.inside.index.rules.ring c.deref.result.now layer covered in
    c.in_ok-push_findings.ensures layer covered tried ∙ (ap (λ (fs : List Finding). fs ++ found) c.new-rings.ensures.items
    ∙ ((λ j. layer_findings (λ (covering : Covering). covering) (same_rules j).profile (same_rules j).ring (same_holes j) layer covered) ∙ layer_by_coverings wide_pad_covers old.rules.profile old.rules.ring layer old.holes pads))
