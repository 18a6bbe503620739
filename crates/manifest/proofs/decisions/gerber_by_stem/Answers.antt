use Rattle.manifest.proofs.Common.{◌∙◌, Bor, List, ℕ, None, Some, map, sym, list_any, gerber_by_word, other_by_name, ends_in_copper, is_other_word, is_unclear_word, last_other_word, names_copper}
use Rattle.manifest.proofs.NamesLemmas.{third}
use Rattle.manifest.proofs.decisions.gerber_by_stem.Goals as goal

pub returns : goal.returns
returns c =
    let stem = map (λ (word : Bor (List ℕ)). word.now) c.args.stem.now in
    c.gerber_by_word.ensures ∙ (λ k. gerber_by_word (c.ends_in_copper.ensures k) (c.last_other_word.ensures k))
    ∙ third (list_any is_other_word stem) (list_any is_unclear_word stem) (Some (other_by_name (list_any names_copper stem))) None (gerber_by_word (ends_in_copper stem) (last_other_word stem)) (sym c.if-has_other_word.ensures) (sym c.if-has_unclear_word.ensures)
