-- The interpolation changes nothing, and the operation is one command more.
use Rattle.layer_state.proofs.Common.{[], ◌∷◌, ◌++◌, Ok, Err, refl, sym, subst, IfFault, Operate, Entries, item_entries, Placed, Command, without_places, Scan, HasScannedLegal, fail_at, IsFirstFault}
use Rattle.gerber_commands.specs.Rows.{modes_of}
use Rattle.layer_state.proofs.FirstFaultLemmas.{stop_is_first_fault}
use Rattle.layer_state.proofs.OperationScans.{mode_scanned, operation_result, scanned_more, operation_last}
use Rattle.layer_state.proofs.LegalLists.{sound}
use Rattle.layer_state.proofs.scan.Scan.operate.Goals as goal

pub returns-in-Ok-clause-ok : goal.returns-in-Ok-clause-ok
returns-in-Ok-clause-ok c parts before h =
    let passed = c.args.passed.now in
    let found = passed.operation in
    let old = c.args.self.now in
    let new : Scan = record { state = c.operate.new.self; file_function = old.file_function } in
    let what = Operate found.action found.x found.y found.i found.j in
    let e : Placed Command = record { place = passed.place; byte = passed.byte; what = what } in
    let so_far : Entries = before ++ item_entries passed.place passed.byte (modes_of found.mode) in
    let still = mode_scanned old parts before passed.place passed.byte found.mode h in
    let answer = operation_result parts (without_places so_far) old new found.action found.x found.y found.i found.j (Ok tt) refl still.met (c.in-Ok.ensures parts (without_places so_far) still.met.is_state) in
    subst (HasScannedLegal new parts) (operation_last before passed.place passed.byte found.mode what) (scanned_more old new parts so_far e still answer)

pub returns-in-Err-clause-refused : goal.returns-in-Err-clause-refused
returns-in-Err-clause-refused c parts before h =
    let passed = c.args.passed.now in
    let found = passed.operation in
    let old = c.args.self.now in
    let new : Scan = record { state = c.operate.new.self; file_function = old.file_function } in
    let what = Operate found.action found.x found.y found.i found.j in
    let e : Placed Command = record { place = passed.place; byte = passed.byte; what = what } in
    let so_far : Entries = before ++ item_entries passed.place passed.byte (modes_of found.mode) in
    let still = mode_scanned old parts before passed.place passed.byte found.mode h in
    let answer = operation_result parts (without_places so_far) old new found.action found.x found.y found.i found.j (Err c.in-Err.stop) refl still.met (c.in-Err.ensures parts (without_places so_far) still.met.is_state) in
    let first = stop_is_first_fault parts so_far [] e new c.in-Err.stop (sound parts.profile so_far still.legal) answer in
    subst (IfFault (IsFirstFault parts.profile (before ++ item_entries passed.place passed.byte (modes_of found.mode ++ what ∷ [])))) (sym c.fail_at.ensures) (subst (λ (l : Entries). IfFault (IsFirstFault parts.profile l) (fail_at passed.place passed.byte c.in-Err.stop)) (operation_last before passed.place passed.byte found.mode what) first)
