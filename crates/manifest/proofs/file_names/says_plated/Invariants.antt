use Rattle.manifest.proofs.Common.{◌≡◌, false, drop, map, has_plated}
use Rattle.manifest.proofs.file_names.says_plated.Given as goal

abbrev pub invariant-loop-word : goal.invariant-loop-word
invariant-loop-word l = has_plated l.after_non (map (λ word. word.now) (drop l.word-index l.words)) ≡ has_plated false (map (λ word. word.now) l.words)
