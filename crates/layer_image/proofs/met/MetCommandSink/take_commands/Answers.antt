-- One command more; the fault of one is that of all.
use Rattle.layer_image.proofs.Common.{arith, ◌≡◌, ◌+◌, [], ◌∷◌, ◌++◌, take, ap, sym, subst, ◌∙◌, append_assoc, take_all, err_from_is_err_and, Entries, HasMetLegal}
use Rattle.layer_state.proofs.SplitAtCommand.{take_next}
use Rattle.layer_state.proofs.LongerFaults.{fault_of_all}
use Rattle.layer_image.proofs.met.MetCommandSink.take_commands.Goals as goal

pub loop-entry-preserved : goal.loop-entry-preserved
loop-entry-preserved c profile keep taken before h =
    let cs = c.args.entries.now in
    let i = c.loop-entry.entry-index in
    let e = c.entry-item.result in
    let so_far = before ++ take i cs in
    let more : before ++ take (i + 1) cs ≡ so_far ++ e ∷ [] = ap (λ (x : Entries). before ++ x) (take_next cs i e (omega arith) c.entry-item.is) ∙ sym (append_assoc before (take i cs) (e ∷ [])) in
    subst (HasMetLegal profile keep taken c.take_command.new.self) (sym more) (c.in_ok-take_command.ensures.ok profile keep taken so_far (c.loop-entry.invariant profile keep taken before h))

pub returns-in_err-take_command-clause-refused : goal.returns-in_err-take_command-clause-refused
returns-in_err-take_command-clause-refused c profile keep taken before h =
    let p = err_from_is_err_and c.from_residual.result c.from_residual.ensures.1 in
    let cs = c.args.entries.now in
    let i = c.loop-entry.entry-index in
    rw (p.1, p.2) (fault_of_all profile before cs i c.entry-item.result c.in_err-take_command.field-0.0 (omega arith) c.entry-item.is (c.in_err-take_command.ensures.refused profile keep taken (before ++ take i cs) (c.loop-entry.invariant profile keep taken before h.1)))

pub returns-clause-ok : goal.returns-clause-ok
returns-clause-ok c profile keep taken before h =
    let cs = c.args.entries.now in
    let i = c.loop-entry.entry-index in
    (h.0, subst (λ (x : Entries). HasMetLegal profile keep taken c.loop-entry.self (before ++ x)) (take_all i cs (omega arith)) (c.loop-entry.invariant profile keep taken before h.1))
