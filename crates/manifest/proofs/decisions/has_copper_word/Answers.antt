use Rattle.manifest.proofs.Common.{◌∙◌, rules, tests, List, ℕ, Bor, YieldsList-from_slice, any_from_yields_List, names_copper}
use Rattle.manifest.proofs.NamesLemmas.{any_map}
use Rattle.manifest.proofs.decisions.has_copper_word.Goals as goal

pub returns : goal.returns
returns c =
    any_from_yields_List (λ (word : Bor (List ℕ)). names_copper word.now) _ _ c.any.result c.any.ensures.ran (YieldsList-from_slice c.args.stem.now c.iter.ensures.rest) (λ x b q k. search (rules, tests))
    ∙ any_map names_copper (λ (word : Bor (List ℕ)). word.now) c.args.stem.now
