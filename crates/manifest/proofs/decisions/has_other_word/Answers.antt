use Rattle.manifest.proofs.Common.{◌∙◌, rules, tests, List, ℕ, Bor, YieldsList-from_slice, any_from_yields_List, is_other_word}
use Rattle.manifest.proofs.NamesLemmas.{any_map}
use Rattle.manifest.proofs.decisions.has_other_word.Goals as goal

pub returns : goal.returns
returns c =
    any_from_yields_List (λ (word : Bor (List ℕ)). is_other_word word.now) _ _ c.any.result c.any.ensures.ran (YieldsList-from_slice c.args.stem.now c.iter.ensures.rest) (λ x b q k. search (rules, tests))
    ∙ any_map is_other_word (λ (word : Bor (List ℕ)). word.now) c.args.stem.now
