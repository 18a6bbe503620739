use Rattle.report.proofs.Common.{◌++◌, ◌∷◌, [], ℕ, List, ap, ◌∙◌, Drilled}
use Rattle.report.proofs.counts.RescaledHoles.add.Goals as goal

pub returns : goal.returns
returns c = record {
  rescaled = c.in_ok-rescaled.rescaled.items;
  are = c.in_ok-rescaled.ensures;
  holes = c.in_ok-extend_from_slice.ensures.items ∙ ap (λ (hs : List Drilled). c.args.self.now.holes.items ++ hs) c.deref.ensures.value;
  bounds = c.in_ok-push.ensures.items ∙ ap (λ (n : ℕ). c.args.self.now.bounds.items ++ n ∷ []) (c.len.ensures ∙ c.extend_from_slice.new.self.ok.0);
}
