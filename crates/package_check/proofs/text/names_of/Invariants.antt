use Rattle.package_check.proofs.Common.{◌≡◌, map, take}
use Rattle.package_check.proofs.text.names_of.Given as goal

abbrev pub invariant-loop-file : goal.invariant-loop-file
invariant-loop-file l = map (λ name. name.now) l.names.items ≡ map (λ file. file.name.now) (take l.file-index l.files)
