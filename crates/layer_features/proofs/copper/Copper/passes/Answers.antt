use Rattle.layer_features.proofs.copper.Copper.passes.Goals as goal
