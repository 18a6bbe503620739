-- The pad is held and counted.
use Rattle.layer_features.proofs.Common.{◌∙◌, ◌++◌, ◌∷◌, [], refl, sym, if◌then◌else◌, Feature}
use Rattle.pad_shapes.specs.declared.wide_pad.WidePad.TheVariants.{Plain}
use Rattle.layer_features.specs.declared.feature.FeatureKind.TheVariants as kind
use Rattle.layer_features.proofs.KeptFeaturesLemmas.{kept_more}
use Rattle.layer_features.proofs.kept_features.KeptFeatures.add_plain.Goals as goal

pub returns-clause-kept : goal.returns-clause-kept
returns-clause-kept c at taken made h =
    let old = c.args.self.now in
    let flash : Feature = record { at = at; what = kind.Pad c.args.pad } in
    kept_more old _ taken made flash h (record {
      features = λ i. if sym c.requires i then old.features.items ++ flash ∷ [] else old.features.items;
      pads = c.in_ok-push.ensures.items ∙ (λ i. if sym c.requires i then old.pads.items else old.pads.items ++ Plain c.args.pad ∷ []);
      rows = refl;
      cleared = refl;
      forgets = refl;
    }) (c.in_ok-self.ensures made at c.args.pad h.counts)
