use Rattle.ringcheck_files.proofs.Common.{◌≡◌, map, take, loaded_file, loaded_files}
use Rattle.ringcheck_files.proofs.proposed_manifest.files_of.Given as goal

abbrev pub invariant-loop-index : goal.invariant-loop-index
invariant-loop-index l = map loaded_file l.files.items ≡ take l.index (loaded_files l.names l.loaded)
