use Rattle.package_check.proofs.Common.{◌≡◌, ◌∙◌, ◌++◌, ◌∷◌, List, [], true, append-nil, ap, arith, eqb-true, length, map, refl, subst, sym, wide_pad_covers, WidePad, tried_more, Covering, HasTried, HasTriedIn, Drilled, RingIndex, HolesView, ◌==◌, HasTriedCoverings}
use Rattle.package_check.proofs.indexed_holes.IndexedHoles.try_pads.Goals as goal

-- pads that cover what no pads cover are none
none_of : {X : Type 0} (covers : X → Covering) (pads : List X) (more : List WidePad) → (length pads == 0) ≡ true → map covers pads ≡ map wide_pad_covers more → more ≡ []
none_of covers [] [] none same = refl
none_of covers [] (x ∷ xs) none same = absurd cc
none_of covers (p ∷ ps) more none same = absurd (let e = eqb-true (length (p ∷ ps)) 0 none in omega (arith, e))

pub returns-then-is_empty-clause-tried : goal.returns-then-is_empty-clause-tried
returns-then-is_empty-clause-tried g c tried more same h =
    let now = c.args.self.now in
    let none = none_of g.S.PadShape.covers c.args.pads.now more (sym c.is_empty.ensures ∙ c.if-is_empty.true) same in
    subst (λ (ps : List WidePad). HasTriedIn now.holes now.index c.args.layer (tried ++ ps) now.search) (sym none)
    (subst (λ (ps : List WidePad). HasTriedIn now.holes now.index c.args.layer ps now.search) (sym (append-nil tried)) h)

pub returns-clause-tried : goal.returns-clause-tried
returns-clause-tried g c tried more same h =
    let mid = c.suit.new.self in
    let layer = c.args.layer in
    let search = c.in_ok-search.search in
    let same_holes = ap (λ (v : HolesView). v.holes) c.self.view_is ∙ c.in_ok-search.ensures.holes in
    let same_index = ap (λ (v : HolesView). v.index) c.self.view_is ∙ c.in_ok-search.ensures.index in
    let before = subst (λ (hs : List Drilled). HasTried wide_pad_covers hs layer tried c.self.inside.index search) (sym same_holes)
    (subst (λ (ix : RingIndex). HasTried wide_pad_covers mid.holes layer tried ix search) (sym same_index) (c.in_ok-search.ensures.tried tried (c.in_ok-suit.ensures.tried layer tried h))) in
    tried_more wide_pad_covers c.self.inside.holes.items layer tried more c.self.inside.index c.try_pads.new.self
    (subst (λ (cs : List Covering). HasTriedCoverings c.self.inside.holes.items layer (map wide_pad_covers tried ++ cs) c.self.inside.index c.try_pads.new.self) same
    (c.try_pads.ensures.tried c.self.inside.holes.items layer (map wide_pad_covers tried) before))
