use Rattle.manifest.proofs.Common.{◌∙◌, rules, tests, List, ℕ, Bor, YieldsList-from_slice, any_from_yields_List, contains}
use Rattle.manifest.proofs.NamesLemmas.{any_map}
use Rattle.manifest.proofs.file_names.has_part.Goals as goal

pub returns : goal.returns
returns c =
    any_from_yields_List (λ (part : Bor (List ℕ)). contains c.args.word.now part.now) _ _ c.any.result c.any.ensures.ran (YieldsList-from_slice c.args.parts.now c.iter.ensures.rest) (λ x b q k. search (rules, tests))
    ∙ any_map (λ part. contains c.args.word.now part) (λ (part : Bor (List ℕ)). part.now) c.args.parts.now
