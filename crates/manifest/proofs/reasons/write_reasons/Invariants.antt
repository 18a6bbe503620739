use Rattle.manifest.proofs.Common.{◌≡◌, ◌++◌, take, flat_map, reason_row}
use Rattle.manifest.proofs.reasons.write_reasons.Given as goal

abbrev pub invariant-loop-file : goal.invariant-loop-file
invariant-loop-file l = l.table ≡ l.initial.table ++ flat_map reason_row (take l.file-index l.proposals)
