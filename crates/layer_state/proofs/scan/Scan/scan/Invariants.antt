use Rattle.layer_state.proofs.Common.{◌++◌, take, Entries, HasScannedLegal, KeptParts}
use Rattle.layer_state.proofs.scan.Scan.scan.Given as goal

abbrev pub invariant-loop-entry : goal.invariant-loop-entry
invariant-loop-entry l = (parts : KeptParts) (before : Entries) → HasScannedLegal l.initial.self parts before → HasScannedLegal l.self parts (before ++ take l.entry-index l.entries)
