use Rattle.manifest.proofs.Common.{◌∙◌, [], ap, sym, rules, tests, List, ℕ, Bor, Option, None, not, unwrap_or, option_map, find_from_yields_List, is_copper_word}
use Rattle.std.proofs.lemmas.Iterator.Adapters.{YieldsList-from_rev_slice}
use Rattle.manifest.proofs.NamesLemmas.{last_found}
use Rattle.manifest.proofs.file_names.last_other_word.Goals as goal

pub returns-in-Some : goal.returns-in-Some
returns-in-Some c =
    ap (λ (o : Option (Bor (Bor (List ℕ)))). unwrap_or (option_map (λ (w : Bor (List ℕ)). w.now) (option_map (λ (w : Bor (Bor (List ℕ))). w.now) o)) []) (sym c.in-Some.is)
    ∙ last_found (λ w. not (is_copper_word w)) c.args.stem.now _
    (find_from_yields_List (λ (w : Bor (List ℕ)). not (is_copper_word w.now)) _ _ c.find.result c.find.ensures.ran (YieldsList-from_rev_slice {s = c.rev.result} c.args.stem.now (cc)) (λ x b q k. search (rules, tests)))

pub returns-in-None : goal.returns-in-None
returns-in-None c =
    last_found (λ w. not (is_copper_word w)) c.args.stem.now None
    (find_from_yields_List (λ (w : Bor (List ℕ)). not (is_copper_word w.now)) _ _ None c.in-None.ensures.ran (YieldsList-from_rev_slice {s = c.rev.result} c.args.stem.now (cc)) (λ x b q k. search (rules, tests)))
