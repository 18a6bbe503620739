use Rattle.manifest.proofs.Common.{◌∙◌, ◌+◌, sym, ap, map, drop, has_plated}
use Rattle.manifest.proofs.NamesLemmas.{plated_here, plated_more}
use Rattle.manifest.proofs.file_names.says_plated.Goals as goal

pub returns-then-is_plated_word : goal.returns-then-is_plated_word
returns-then-is_plated_word c = sym (plated_here c.args.words.now c.loop-word.word-index c.loop-word.after_non _ c.loop-word-test.true (sym c.if-is_plated_word.ensures)) ∙ c.loop-word.invariant

pub loop-word-preserved : goal.loop-word-preserved
loop-word-preserved c =
    ap (λ b. has_plated b (map (λ word. word.now) (drop (c.loop-word.word-index + 1) c.args.words.now))) (rw c.as_slice.ensures at c.eq-after_non.ensures)
    ∙ plated_more c.args.words.now c.loop-word.word-index c.loop-word.after_non _ c.loop-word-test.true (sym c.if-is_plated_word.ensures) ∙ c.loop-word.invariant
