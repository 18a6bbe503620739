use Rattle.package_check.proofs.Common.{ap, refl, ◌∙◌, FeatureCounts, is_copper_function}
use Rattle.package_check.proofs.readers.pads_view.Goals as goal

pub returns : goal.returns
returns c profile entries is =
    let counts = c.counts-counts.ensures ∙ is.counts in
    λ i. record {
      pads = (c.in_ok-into_pads.ensures ∙ is.pads refl) i;
      flashed = ap (λ (n : FeatureCounts). n.flashed) counts i;
      contours = ap (λ (n : FeatureCounts). n.contours) counts i;
      other = ap (λ (n : FeatureCounts). n.other) counts i;
      is_copper = (c.is_copper_function-is_copper.ensures ∙ ap is_copper_function (c.file_function.ensures ∙ is.named)) i;
    }
