-- The copy has a shape where it may lie there.
use Rattle.layer_features.proofs.Common.{◌≡◌, ◌∙◌, ◌++◌, ◌∷◌, [], Option, Some, map, subst, sym, cons_option, shape_at, GridRounded, Feature, copy_in, contour_feature, KeepsFeatures}
use Rattle.layer_features.proofs.CopiesLemmas.{back}
use Rattle.layer_features.specs.declared.feature.FeatureKind.TheVariants as kind
use Rattle.layer_features.proofs.copies.lay_copy.Goals as goal

pub returns-in_ok-add-clause-kept : goal.returns-in_ok-add-clause-kept
returns-in_ok-add-clause-kept c taken features h =
    let contour = c.args.contour.now in
    let found : Some c.in-Some.pad ≡ shape_at contour (copy_in c.args.unit c.args.block.now c.args.u c.args.v) =
    sym c.in-Some.is ∙ c.in_ok-pad.ensures ∙ (λ i. shape_at contour (record { x = (back c.stepped-x.result c.stepped-x.ensures.bound ∙ c.stepped-x.ensures.value) i; y = (back c.stepped-y.result c.stepped-y.ensures.bound ∙ c.stepped-y.ensures.value) i })) in
    subst (λ (o : Option GridRounded). KeepsFeatures c.add.new.self taken (features ++ map contour_feature (cons_option o []))) found
    (subst (λ (f : Feature). KeepsFeatures c.add.new.self taken (features ++ f ∷ [])) (λ i. record { at = c.first-at.ensures i; what = kind.Contour c.in-Some.pad }) (c.in_ok-add.ensures.kept taken features h))
