use Rattle.manifest.proofs.Common.{◌∙◌, rules, tests, ap, map, Bor, list_any, YieldsList-from_slice, any_from_yields_List, Proposal, is_partial, layers_of_role}
use Rattle.manifest.proofs.NamesLemmas.{any_map}
use Rattle.manifest.proofs.manifests.has_spans.Goals as goal

pub returns : goal.returns
returns c =
    let entries = c.args.entries.now in
    let n = c.layers-layers.result in
    any_from_yields_List (λ (entry : Bor Proposal). is_partial n (layers_of_role entry.now.role)) _ _ c.any.result c.any.ensures.ran (YieldsList-from_slice entries c.iter.ensures.rest) (λ x b q k. search (rules, tests))
    ∙ any_map (λ (p : Proposal). is_partial n (layers_of_role p.role)) (λ (entry : Bor Proposal). entry.now) entries
    ∙ ap (λ k. list_any (λ (p : Proposal). is_partial k (layers_of_role p.role)) (map (λ (entry : Bor Proposal). entry.now) entries)) c.layers-layers.ensures
