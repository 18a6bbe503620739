use Rattle.manifest.proofs.Common.{◌≡◌, ◌∙◌, ap, map, List, ℕ, Bor, gerber_by_words, has_end, word_runs, words_of}
use Rattle.manifest.proofs.decisions.gerber_by_name.Goals as goal

pub returns : goal.returns
returns c =
    let names = map (λ (word : Bor (List ℕ)). word.now) in
    let words : names c.in_ok-words.words.items ≡ words_of c.args.name.now = c.in_ok-words.ensures ∙ ap word_runs (c.as_slice.ensures.value ∙ c.in_ok-lower.ensures) in
    let first : names c.as_slice-2.result.now ≡ words_of c.args.name.now = ap names c.as_slice-2.ensures.value ∙ words in
    let second : names c.as_slice-3.result.now ≡ words_of c.args.name.now = ap names c.as_slice-3.ensures.value ∙ words in
    c.gerber_by_words.ensures ∙ (λ k. gerber_by_words ((c.has_end-end.ensures ∙ (λ j. has_end (c.has_dot.ensures j) (first j))) k) (second k))
