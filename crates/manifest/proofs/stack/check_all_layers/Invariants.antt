use Rattle.manifest.proofs.Common.{◌≡◌, ◌++◌, take, drop, map, layers_checked_in}
use Rattle.manifest.proofs.stack.check_all_layers.Given as goal

abbrev pub invariant-loop-file : goal.invariant-loop-file
invariant-loop-file l = l.file-items ≡ map (layers_checked_in l.stack l.count) (take l.file-index l.initial.file-items) ++ drop l.file-index l.initial.file-items
