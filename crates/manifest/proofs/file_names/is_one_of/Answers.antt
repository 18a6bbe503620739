use Rattle.manifest.proofs.Common.{◌∙◌, rules, tests, List, ℕ, Bor, bytes_eq, YieldsList-from_slice, any_from_yields_List}
use Rattle.manifest.proofs.NamesLemmas.{any_map}
use Rattle.manifest.proofs.file_names.is_one_of.Goals as goal

pub returns : goal.returns
returns c =
    any_from_yields_List (λ (one : Bor (List ℕ)). bytes_eq one.now c.args.word.now) _ _ c.any.result c.any.ensures.ran (YieldsList-from_slice c.args.these.now c.iter.ensures.rest) (λ x b q k. search (rules, tests))
    ∙ any_map (λ one. bytes_eq one c.args.word.now) (λ (one : Bor (List ℕ)). one.now) c.args.these.now
