use Rattle.manifest.proofs.Common.{◌∙◌, rules, tests, List, ℕ, Bor, YieldsList-from_slice, any_from_yields_List, is_one_of, unplated_words}
use Rattle.manifest.proofs.NamesLemmas.{any_map}
use Rattle.manifest.proofs.file_names.has_unplated_word.Goals as goal

pub returns : goal.returns
returns c =
    any_from_yields_List (λ (word : Bor (List ℕ)). is_one_of word.now unplated_words) _ _ c.any.result c.any.ensures.ran (YieldsList-from_slice c.args.words.now c.iter.ensures.rest) (λ x b q k. search (rules, tests))
    ∙ any_map (λ word. is_one_of word unplated_words) (λ (word : Bor (List ℕ)). word.now) c.args.words.now
