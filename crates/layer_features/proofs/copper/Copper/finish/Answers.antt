-- The flashes and contours are cut where the last ones were taken away.
use Rattle.layer_features.proofs.Common.{◌≡◌, ◌∙◌, List, [], arith, ap, Bool, if◌then◌else◌, Feature, pads_of, wide_features_of, first_taken_away}
use Rattle.layer_features.proofs.copper.Copper.finish.Goals as goal

pub returns : goal.returns
returns c keep taken commands met =
    let held : List Feature = c.args.self.kept.features.items in
    let count : c.min-count.result ≡ c.args.self.kept.cleared = omega (arith, c.min-count.ensures, c.len.ensures, met.kept.few) in
    let rows = met.rows in
    record {
      features = c.in_ok-features.ensures ∙ (λ i. first_taken_away (count i) held) ∙ met.kept.features ∙ ap (λ (b : Bool). if b then wide_features_of commands else []) rows;
      pads = met.kept.pads ∙ ap (λ (b : Bool). if b then [] else pads_of (wide_features_of commands)) rows;
      drawn = met.drawn;
      counts = met.kept.counts;
    }
