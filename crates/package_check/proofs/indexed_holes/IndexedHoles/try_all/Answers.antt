use Rattle.package_check.proofs.Common.{◌≡◌, ◌++◌, ◌∷◌, List, [], OnOk, ap, map, refl, subst, append_assoc, wide_pad_covers, WidePad, plain, Covering, HasTriedIn}
use Rattle.pad_shapes.specs.Pads.{pad_covers}
use Rattle.pad_shapes.specs.declared.pad.Pad.{Pad}
use Rattle.package_check.proofs.indexed_holes.IndexedHoles.try_all.Goals as goal

-- plain pads cover what the pads cover
as_plain : (pads : List Pad) → map pad_covers pads ≡ map wide_pad_covers (map plain pads)
as_plain [] = refl
as_plain (p ∷ ps) = ap (λ (cs : List Covering). pad_covers p ∷ cs) (as_plain ps)

pub returns-clause-tried : goal.returns-clause-tried
returns-clause-tried c tried h =
    let new = c.try_pads-2.new.self in
    let wide = c.args.wide_pads.now in
    subst (λ (all : List WidePad). OnOk c.try_pads-2.result (HasTriedIn new.holes new.index c.args.layer all new.search)) (append_assoc tried (map plain c.args.pads.now) wide)
    (c.try_pads-2.ensures.tried (tried ++ map plain c.args.pads.now) wide refl (c.in_ok-try_pads.ensures.tried tried (map plain c.args.pads.now) (as_plain c.args.pads.now) h))
