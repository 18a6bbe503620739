-- One flash more.
use Rattle.layer_features.proofs.Common.{◌≡◌, ◌∙◌, ◌+◌, ◌++◌, [], ◌∷◌, List, map, take, ap, refl, subst, sym, arith, append-nil, append_assoc, map-append, take_all, take_more, Flash, Feature, flash_feature, KeepsFeatures}
use Rattle.layer_features.proofs.copper.add_flashes.Goals as goal

pub loop-flash-init : goal.loop-flash-init
loop-flash-init c = record {
  kept = λ s taken features clear shape why h. subst (KeepsFeatures c.args.kept.now taken) (sym (append-nil features)) h;
  rows = refl;
}

pub loop-flash-preserved : goal.loop-flash-preserved
loop-flash-preserved c = record {
  kept = λ s taken features clear shape why h.
      let flashes = c.args.flashes.now in
      let i = c.loop-flash.flash-index in
      let flash = c.flash-item.result in
      let next : take (i + 1) flashes ≡ take i flashes ++ flash ∷ [] = take_more flashes i flash (omega arith) ∙ ap (λ (f : Flash). take i flashes ++ f ∷ []) (sym c.flash-item.is) in
      let more : map (flash_feature s) (take (i + 1) flashes) ≡ map (flash_feature s) (take i flashes) ++ flash_feature s flash ∷ [] =
      ap (map (flash_feature s)) next ∙ map-append (flash_feature s) (take i flashes) (flash ∷ []) in
      subst (KeepsFeatures c.add_flash.new.kept taken)
      (append_assoc features (map (flash_feature s) (take i flashes)) (flash_feature s flash ∷ []) ∙ ap (λ (l : List Feature). features ++ l) (sym more))
      (c.in_ok-add_flash.ensures.kept s clear shape why taken (features ++ map (flash_feature s) (take i flashes)) (c.loop-flash.invariant.kept s taken features clear shape why h));
  rows = c.add_flash.ensures.rows ∙ c.loop-flash.invariant.rows;
}

pub returns-clause-kept : goal.returns-clause-kept
returns-clause-kept c s taken features clear shape why h =
    subst (λ (l : List Flash). KeepsFeatures c.loop-flash.kept taken (features ++ map (flash_feature s) l)) (take_all c.loop-flash.flash-index c.args.flashes.now (omega arith)) (c.loop-flash.invariant.kept s taken features clear shape why h)
