use Rattle.command_line.proofs.Common.{◌≡◌, ◌∙◌, List, ℕ, Bor, list_any}
use Rattle.std.proofs.Common.{rules, tests}
use Rattle.std.proofs.lemmas.Iterator.{YieldsList-from_slice}
use Rattle.std.proofs.lemmas.Iterator.Search.{any_from_yields_List}
use Rattle.command_line.specs.RefusalTexts.{is_waive_option}
use Rattle.clap.proofs.WalkLemmas.{list_any-map}
use Rattle.command_line.proofs.has_waive_option.Goals as goal

pub returns : goal.returns
returns c =
    let any : c.any.result ≡ list_any (λ (word : Bor (List ℕ)). is_waive_option word.now) c.args.words.now =
    any_from_yields_List (λ (word : Bor (List ℕ)). is_waive_option word.now) _ _ c.any.result c.any.ensures.ran (YieldsList-from_slice c.args.words.now c.iter.ensures.rest) (λ x b q k. search (rules, tests)) in
    any ∙ list_any-map is_waive_option (λ (word : Bor (List ℕ)). word.now) c.args.words.now
