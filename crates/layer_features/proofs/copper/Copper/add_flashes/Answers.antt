-- The one flash is that of a standard aperture.
use Rattle.layer_features.proofs.Common.{◌≡◌, ◌∙◌, ◌++◌, ◌∷◌, [], List, ap, arith, map, subst, sym, take_all, take_more, if◌then◌else◌, Flash, Feature, copper_state, selection, flash_feature, dark_kind, KeepsFeatures, OnOk}
use Rattle.layer_features.specs.declared.feature.FeatureKind.TheVariants as kind
use Rattle.layer_features.proofs.copper.Copper.add_flashes.Goals as goal

pub returns-in-Pad-clause-kept : goal.returns-in-Pad-clause-kept
returns-in-Pad-clause-kept c taken made h =
    let s = copper_state (selection c.args.setting.now) c.args.self.now in
    let flashes = c.args.flashes.now in
    let flash = c.flash-item.result in
    let one : flashes ≡ flash ∷ [] = sym (take_all 1 flashes (omega arith)) ∙ take_more flashes 0 flash (omega arith) ∙ ap (λ (f : Flash). f ∷ []) (sym c.flash-item.is) in
    let feature : record { at = flash.at; what = kind.Pad c.in-Pad.pad } ≡ flash_feature s flash =
    λ i. record { at = flash.at; what = if sym c.if-self.false i then kind.Clear else dark_kind s flash.at (sym c.in-Pad.is i) } in
    subst (λ (l : List Feature). OnOk c.add_plain.result (KeepsFeatures c.add_plain.new.self taken (made ++ l)))
    (ap (λ (f : Feature). f ∷ []) feature ∙ ap (map (flash_feature s)) (sym one)) (c.add_plain.ensures.kept flash.at taken made h)
