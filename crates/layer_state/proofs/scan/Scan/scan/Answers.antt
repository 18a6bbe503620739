-- One command more; the fault of one is that of all.
use Rattle.layer_state.proofs.Common.{arith, ◌≡◌, ◌+◌, [], ◌∷◌, ◌++◌, take, ap, sym, subst, ◌∙◌, append_assoc, take_all, Entries, HasScannedLegal}
use Rattle.std.proofs.lemmas.Result.{err_from_is_err_and}
use Rattle.layer_state.proofs.SplitAtCommand.{take_next}
use Rattle.layer_state.proofs.LongerFaults.{fault_of_all}
use Rattle.layer_state.proofs.scan.Scan.scan.Goals as goal

pub loop-entry-preserved : goal.loop-entry-preserved
loop-entry-preserved c parts before h =
    let cs = c.args.entries.now in
    let i = c.loop-entry.entry-index in
    let e = c.entry-item.result in
    let so_far = before ++ take i cs in
    let more : before ++ take (i + 1) cs ≡ so_far ++ e ∷ [] = ap (λ (x : Entries). before ++ x) (take_next cs i e (omega arith) c.entry-item.is) ∙ sym (append_assoc before (take i cs) (e ∷ [])) in
    subst (HasScannedLegal c.take.new.self parts) (sym more) (c.in_ok-take.ensures.ok parts so_far (c.loop-entry.invariant parts before h))

pub returns-in_err-take-clause-refused : goal.returns-in_err-take-clause-refused
returns-in_err-take-clause-refused c parts before h =
    let p = err_from_is_err_and c.from_residual.result c.from_residual.ensures.1 in
    let cs = c.args.entries.now in
    let i = c.loop-entry.entry-index in
    rw (p.1, p.2) (fault_of_all parts.profile before cs i c.entry-item.result c.in_err-take.field-0.0 (omega arith) c.entry-item.is (c.in_err-take.ensures.refused parts (before ++ take i cs) (c.loop-entry.invariant parts before h)))

pub returns-clause-ok : goal.returns-clause-ok
returns-clause-ok c parts before h =
    let cs = c.args.entries.now in
    let i = c.loop-entry.entry-index in
    subst (λ (x : Entries). HasScannedLegal c.loop-entry.self parts (before ++ x)) (take_all i cs (omega arith)) (c.loop-entry.invariant parts before h)
