-- One command more, or the fault of a command that breaks a rule.
use Rattle.layer_state.proofs.Common.{[], ◌∷◌, ◌++◌, sym, subst, IfFault, without_places, IsFirstFault}
use Rattle.layer_state.proofs.FirstFaultLemmas.{stop_is_first_fault}
use Rattle.layer_state.proofs.OperationScans.{scanned_more}
use Rattle.layer_state.proofs.LegalLists.{sound}
use Rattle.layer_state.proofs.scan.Scan.take.Goals as goal

pub returns-in-Ok-clause-ok : goal.returns-in-Ok-clause-ok
returns-in-Ok-clause-ok c parts before h = scanned_more c.args.self.now c.scan_one.new.self parts before c.args.entry.now h (c.in-Ok.ensures parts (without_places before) h.met)

pub returns-in-Err-clause-refused : goal.returns-in-Err-clause-refused
returns-in-Err-clause-refused c parts before h =
    let e = c.args.entry.now in
    subst (IfFault (IsFirstFault parts.profile (before ++ e ∷ []))) (sym c.fail_at.ensures) (stop_is_first_fault parts before [] e c.scan_one.new.self c.in-Err.stop (sound parts.profile before h.legal) (c.in-Err.ensures parts (without_places before) h.met))
